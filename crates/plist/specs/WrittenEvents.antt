-- Writing events: which of them a writer took, and why it didn't take the next one.
use Rattle.std.specs.Prelude.{◌≡◌, ◌⊎◌, List, [], ◌∷◌, ◌++◌, None, Result, Ok, Err, ⊤}
use Rattle.plist_base.specs.declared.error.Error.{Error}
use Rattle.plist_base.specs.Bracketing.{bracketing}
use Rattle.plist_base.specs.Events.{PlainEvent}
use Rattle.plist_base.specs.Faults.{Fault, fault_without_offset, OutOfMemory}
use Rattle.plist_base.specs.Writing.{Answer, MatchKind, answer_of}
use Rattle.plist.specs.Events.{BeginsWithStart}
use Rattle.plist.specs.declared.value.Value.{Value}
use Rattle.plist.specs.ValueTrees.{tree_of}

-- the fault is `PlistTooLarge`, `OutOfMemory` or `Io`, without an offset
abbrev pub StopsWriter : Fault → Type 0
StopsWriter fault = (fault.offset ≡ None) × MatchKind fault.kind ⊥ ⊤ ⊥

module _ {S : Type 0} (Step : S → PlainEvent → Answer → S → Type 0) where
  -- the writer took these events, one step for each
  abbrev pub TakesAll : (before : S) → List PlainEvent → (after : S) → Type 0
  TakesAll before [] after = before ≡ after
  TakesAll before (event ∷ events) after =
      (between : S) × Step before event (Ok tt) between × TakesAll between events after

  -- the writer returned an error for the next event
  abbrev pub RefusesNext : (before : S) → List PlainEvent → Fault → (after : S) → Type 0
  RefusesNext before [] fault after = ⊥
  RefusesNext before (event ∷ events) fault after = Step before event (Err fault) after

  -- an allocation failed for a start, which wasn't written
  abbrev pub StopsForMemory : (before : S) → List PlainEvent → Fault → (after : S) → Type 0
  StopsForMemory before events fault after =
      (fault ≡ fault_without_offset OutOfMemory) × BeginsWithStart events × (after ≡ before)

  -- The writer took all events; or it took the first ones, and then returned an error for the next
  -- one, or an allocation failed.
  abbrev pub WritesEvents : (before : S) → List PlainEvent → Answer → (after : S) → Type 0
  WritesEvents before events (Ok done) after = TakesAll before events after
  WritesEvents before events (Err fault) after =
      (taken : List PlainEvent) × (left : List PlainEvent) × (events ≡ taken ++ left)
      × ((between : S) × TakesAll before taken between
      × (RefusesNext between left fault after ⊎ StopsForMemory between left fault after))

  -- the events of a value are written
  abbrev pub WritesValue : (before : S) → Value → Result (Unit {0}) Error → (after : S) → Type 0
  WritesValue before value answer after =
      WritesEvents before (bracketing (tree_of value)) (answer_of answer) after
