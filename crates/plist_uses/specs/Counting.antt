-- The counts of a property list.
use Rattle.std.specs.Prelude.{◌≡◌, ℕ, ◌+◌, ◌-◌, ◌^◌, min, Bool, true, false, if◌then◌else◌, List, ◌∷◌, ◌++◌, Result, Ok, Err, IfOk, IfErr, length, map, filter, ⊤}
use Rattle.plist_base.specs.declared.error.Error.{Error}
use Rattle.plist_base.specs.Faults.{Fault, MatchFault, error_kind_of, fault_of, kind_of}
use Rattle.plist_base.specs.Events.{PlainEvent, Item, StartArray, StartDictionary, ScalarEvent}
use Rattle.plist_base.specs.Trees.{String}
use Rattle.plist_uses.specs.declared.counting.Counts.{Counts}

-- the event is the start of an array
abbrev pub is_array : PlainEvent → Bool
is_array (StartArray length) = true
is_array event = false

-- the event is the start of a dictionary
abbrev pub starts_dictionary : PlainEvent → Bool
starts_dictionary (StartDictionary length) = true
starts_dictionary event = false

-- the event is a string
abbrev pub is_text : PlainEvent → Bool
is_text (ScalarEvent (String text)) = true
is_text event = false

-- the event is a scalar that isn't a string
abbrev pub is_other : PlainEvent → Bool
is_other (ScalarEvent (String text)) = false
is_other (ScalarEvent scalar) = true
is_other event = false

-- the number of events that pass, or 2^64 - 1 if there are more
abbrev pub count_passing : (PlainEvent → Bool) → List PlainEvent → ℕ
count_passing passes events = min (length (filter passes events)) (2 ^ 64 - 1)

-- the counts say how many arrays, dictionaries, strings and other scalars these events have
pub record AreCounts (events : List PlainEvent) (counts : Counts) : Type 0 where
  pub arrays : counts.arrays ≡ count_passing is_array events
  pub dictionaries : counts.dictionaries ≡ count_passing starts_dictionary events
  pub texts : counts.texts ≡ count_passing is_text events
  pub others : counts.others ≡ count_passing is_other events

-- the items are events without a fault, and these are their counts
abbrev pub AreCountsOf : List Item → Counts → Type 0
AreCountsOf items counts = (events : List PlainEvent) × (items ≡ map Ok events)
    × AreCounts events counts

-- if the call succeeded, the items are events without a fault, and it returned their counts
abbrev pub AreCountedOf : List Item → Result Counts Error → Type 0
AreCountedOf items answer = IfOk answer (AreCountsOf items)

-- the items are events up to this fault
abbrev pub StopAt : List Item → Fault → Type 0
StopAt items fault = (events : List PlainEvent) × (more : List Item)
    × (items ≡ map Ok events ++ Err fault ∷ more)

-- the error is `Io` or `OutOfMemory`, or the first fault of the items
abbrev pub IsRefusedBy : List Item → Result Counts Error → Type 0
IsRefusedBy items answer = IfErr answer (λ error.
    MatchFault (kind_of (error_kind_of error)) ⊤ ⊤ (StopAt items (fault_of error)))

-- the counts of no events
abbrev pub nothing : Counts
nothing = record { arrays = 0; dictionaries = 0; texts = 0; others = 0 }

-- one more if the event passes, up to 2^64 - 1
abbrev pub one_more : (passes : Bool) → ℕ → ℕ
one_more passes count = if passes then min (count + 1) (2 ^ 64 - 1) else count

-- an event is counted
pub record CountsOne (event : PlainEvent) (old new : Counts) : Type 0 where
  pub arrays : new.arrays ≡ one_more (is_array event) old.arrays
  pub dictionaries : new.dictionaries ≡ one_more (starts_dictionary event) old.dictionaries
  pub texts : new.texts ≡ one_more (is_text event) old.texts
  pub others : new.others ≡ one_more (is_other event) old.others

-- the item is an event, which is counted
abbrev pub CountsItem : Item → (old new : Counts) → Type 0
CountsItem (Ok event) old new = CountsOne event old new
CountsItem (Err fault) old new = ⊥
