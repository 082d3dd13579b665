-- The contents of a builder: a tree that isn't complete yet, and how an event changes it.
use Rattle.std.specs.Prelude.{◌≡◌, ℕ, Bool, true, false, List, [], ◌∷◌, ◌++◌, Option, Some, None, Ok, Err, map, ⊤}
use mathlib.Core.HLevel.{×_prop, Unit-prop, ⊥_prop}
use Rattle.plist_base.specs.declared.error.EventKind.{EventKind}
use Rattle.plist_base.specs.declared.error.EventKind.TheVariants as event_kind
use Rattle.plist_buffer.specs.declared.expects.Expect.{Expect}
use Rattle.plist_buffer.specs.declared.expects.Expect.TheVariants.{OneValue, Items, Pairs}
use Rattle.plist_buffer.specs.declared.expects.Transition.{Transition}
use Rattle.plist_buffer.specs.declared.expects.Transition.TheVariants.{Refused}
use Rattle.plist_buffer.specs.Expects.{transition_of}
use Rattle.plist_base.specs.Events.{PlainEvent, StartArray, StartDictionary, ScalarEvent, kind_of_event}
use Rattle.plist_base.specs.Faults.{FaultKind, Fault, UnexpectedEventType, ExpectedEndOfEventStream, UnexpectedEndOfEventStream, OutOfMemory, WriterFailed}
use Rattle.plist_base.specs.Trees.{Tree, String, trees_of, members_of}
use Rattle.plist_base.specs.Bracketing.{bracketing, bracketing_of_items, bracketing_of_pairs, AreAlike}
use Rattle.plist_base.specs.Writing.{Answer}
use Rattle.plist.specs.LastWins.{TreePairs, last_values, last_wins}

-- an open collection: an array with its items so far; a dictionary with its pairs so far; a
-- dictionary with its pairs so far and a key whose value is next
pub data OpenCollection : Type 0 where
  InArray : (items : List Tree) → OpenCollection
  InDictionary : (pairs : TreePairs) → OpenCollection
  AfterKey : (pairs : TreePairs) → (key : List ℕ) → OpenCollection

-- an unfinished tree: there is no event yet; or a collection is open within others, which are
-- listed innermost first; or the tree is complete
pub data Unfinished : Type 0 where
  NotBegun : Unfinished
  Within : OpenCollection → (outer : List OpenCollection) → Unfinished
  Complete : Tree → Unfinished

-- a value can be next directly in the collection: it is an array, or its last key has no value yet
abbrev pub TakesValue : OpenCollection → Type 0
TakesValue (InArray items) = ⊤
TakesValue (InDictionary pairs) = ⊥
TakesValue (AfterKey pairs key) = ⊤

-- a value can be next directly in each of these collections
abbrev pub AllTakeValue : List OpenCollection → Type 0
AllTakeValue [] = ⊤
AllTakeValue (collection ∷ outer) = TakesValue collection × AllTakeValue outer

-- each collection except the innermost can contain the next one
abbrev pub IsNested : Unfinished → Type 0
IsNested NotBegun = ⊤
IsNested (Within collection outer) = AllTakeValue outer
IsNested (Complete tree) = ⊤

-- there is at most one proof that a collection takes a value
pub TakesValue-prop : (collection : OpenCollection) → IsProp (TakesValue collection)
TakesValue-prop (InArray items) = Unit-prop
TakesValue-prop (InDictionary pairs) = ⊥_prop
TakesValue-prop (AfterKey pairs key) = Unit-prop

-- there is at most one proof that all these collections take a value
pub AllTakeValue-prop : (outer : List OpenCollection) → IsProp (AllTakeValue outer)
AllTakeValue-prop [] = Unit-prop
AllTakeValue-prop (collection ∷ outer) =
    ×_prop (TakesValue-prop collection) (AllTakeValue-prop outer)

-- there is at most one proof that the collections are nested
pub IsNested-prop : (unfinished : Unfinished) → IsProp (IsNested unfinished)
IsNested-prop NotBegun = Unit-prop
IsNested-prop (Within collection outer) = AllTakeValue-prop outer
IsNested-prop (Complete tree) = Unit-prop

-- the events of an open collection so far
abbrev pub events_within : OpenCollection → List PlainEvent
events_within (InArray items) = StartArray None ∷ bracketing_of_items (trees_of items)
events_within (InDictionary pairs) = StartDictionary None ∷ bracketing_of_pairs (members_of pairs)
events_within (AfterKey pairs key) =
    StartDictionary None ∷ (bracketing_of_pairs (members_of pairs) ++ ScalarEvent (String key) ∷ [])

-- the events so far of these open collections, which are listed innermost first
abbrev pub events_around : (outer : List OpenCollection) → List PlainEvent
events_around [] = []
events_around (collection ∷ outer) = events_around outer ++ events_within collection

-- the events so far
abbrev pub events_so_far : Unfinished → List PlainEvent
events_so_far NotBegun = []
events_so_far (Within collection outer) = events_around outer ++ events_within collection
events_so_far (Complete tree) = bracketing tree

-- these pairs and the dictionaries in them, where each key has its first position and its last
-- value
abbrev pub last_wins_in_rows : TreePairs → TreePairs
last_wins_in_rows rows = last_values (map (λ pair. (pair.0, last_wins pair.1)) rows)

-- the open collection, where each key of a complete pair has its first position and its last value
abbrev pub last_wins_within : OpenCollection → OpenCollection
last_wins_within (InArray items) = InArray (map last_wins items)
last_wins_within (InDictionary pairs) = InDictionary (last_wins_in_rows pairs)
last_wins_within (AfterKey pairs key) = AfterKey (last_wins_in_rows pairs) key

-- the unfinished tree, where each key of a complete pair has its first position and its last value
abbrev pub last_wins_so_far : Unfinished → Unfinished
last_wins_so_far NotBegun = NotBegun
last_wins_so_far (Within collection outer) =
    Within (last_wins_within collection) (map last_wins_within outer)
last_wins_so_far (Complete tree) = Complete (last_wins tree)

-- The contents after the event are those of the events before it and of this one, apart from
-- lengths, and each key has its first position and its last value.
abbrev pub IsExtendedBy : (before : Unfinished) → PlainEvent → (after : Unfinished) → Type 0
IsExtendedBy before event after =
    (taken : Unfinished) × IsNested taken
    × AreAlike (events_so_far taken) (events_so_far before ++ event ∷ [])
    × (after ≡ last_wins_so_far taken)

-- the tree, if it is complete
abbrev pub complete_tree : Unfinished → Option Tree
complete_tree NotBegun = None
complete_tree (Within collection outer) = None
complete_tree (Complete tree) = Some tree

-- what is expected directly in the collection
abbrev pub expected_within : OpenCollection → Expect
expected_within (InArray items) = Items
expected_within (InDictionary pairs) = Pairs
expected_within (AfterKey pairs key) = OneValue

-- the kind that an error names as expected; no event is rejected among the items of an array
abbrev pub kind_expected : Expect → EventKind
kind_expected Pairs = event_kind.DictionaryKeyOrEndCollection
kind_expected expect = event_kind.ValueOrStartCollection

-- a fault of this kind, if the event is rejected
abbrev pub if_refused : Transition → FaultKind → Option FaultKind
if_refused Refused kind = Some kind
if_refused change kind = None

-- the fault of an event that can't follow the preceding ones where this is expected
abbrev pub refusal_of : Expect → PlainEvent → Option FaultKind
refusal_of expect event = if_refused (transition_of expect event)
    (UnexpectedEventType (kind_expected expect) (kind_of_event event))

-- the fault of an event that can't follow the preceding ones
abbrev pub refusal_at : Unfinished → PlainEvent → Option FaultKind
refusal_at NotBegun event = refusal_of OneValue event
refusal_at (Within collection outer) event = refusal_of (expected_within collection) event
refusal_at (Complete tree) event = Some (ExpectedEndOfEventStream (kind_of_event event))

-- the contents of a builder, and whether it has failed
pub record Built : Type 0 where
  pub unfinished : Unfinished
  pub failed : Bool

-- no events, and no failure
abbrev pub nothing_built : Built
nothing_built = record { unfinished = NotBegun; failed = false }

-- what is true if a builder's call returns a fault of this kind
abbrev pub IsRefusedStep : (before : Built) → PlainEvent → FaultKind → (after : Built)
    → (unchanged : Type 0) → Type 0
IsRefusedStep before event OutOfMemory after unchanged =
    (before.failed ≡ false) × (refusal_at before.unfinished event ≡ None) × (after.failed ≡ true)
IsRefusedStep before event WriterFailed after unchanged = (before.failed ≡ true) × unchanged
IsRefusedStep before event kind after unchanged =
    (before.failed ≡ false) × (refusal_at before.unfinished event ≡ Some kind) × unchanged

-- what is true if a builder's call returns this result
abbrev pub IsAnswered : (before : Built) → PlainEvent → Answer → (after : Built)
    → (unchanged : Type 0) → Type 0
IsAnswered before event (Ok done) after unchanged =
    (before.failed ≡ false) × (refusal_at before.unfinished event ≡ None) × (after.failed ≡ false)
    × IsExtendedBy before.unfinished event after.unfinished
IsAnswered before event (Err fault) after unchanged =
    (fault.offset ≡ None) × IsRefusedStep before event fault.kind after unchanged

-- why there is no value: the builder has failed, or the events aren't a tree's yet
abbrev pub IsUnfinishedFor : FaultKind → Built → Type 0
IsUnfinishedFor WriterFailed built = built.failed ≡ true
IsUnfinishedFor UnexpectedEndOfEventStream built =
    (built.failed ≡ false)
    × ((tree : Tree) → AreAlike (events_so_far built.unfinished) (bracketing tree) → ⊥)
IsUnfinishedFor kind built = ⊥

-- the fault, which has no offset, says why there is no value
abbrev pub IsUnfinished : Built → Fault → Type 0
IsUnfinished built fault = (fault.offset ≡ None) × IsUnfinishedFor fault.kind built
