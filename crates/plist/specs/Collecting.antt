-- The value of a list of items.
use Rattle.std.specs.Prelude.{◌≡◌, ◌⊎◌, false, List, [], ◌∷◌, ◌++◌, Option, Some, None, Result, Ok, Err, map}
use Rattle.std.specs.Iterator.{Yields}
use Rattle.plist_base.specs.declared.error.Error.{Error}
use Rattle.plist_base.specs.Events.{PlainEvent, Item}
use Rattle.plist_base.specs.Faults.{FaultKind, Fault, fault_of, fault_without_offset, OutOfMemory, UnexpectedEndOfEventStream}
use Rattle.plist_base.specs.Trees.{Tree}
use Rattle.plist_base.specs.Bracketing.{bracketing, AreAlike}
use Rattle.plist.specs.declared.value.Value.{Value}
use Rattle.plist.specs.Building.{Unfinished, IsNested, Built, events_so_far, refusal_at}
use Rattle.plist.specs.LastWins.{with_pair, last_wins}
use Rattle.plist.specs.inner.BuilderSteps.{and_event}
use Rattle.plist.specs.ValueTrees.{tree_of}

-- what contracts see of an item, given what they see of its event
abbrev pub item_by : {E : Type 0} → (plain : E → PlainEvent) → Result E Error → Item
item_by plain (Ok event) = Ok (plain event)
item_by plain (Err error) = Err (fault_of error)

-- what contracts see of the result of building a value
abbrev pub built_tree : Result Value Error → Result Tree Fault
built_tree (Ok value) = Ok (tree_of value)
built_tree (Err error) = Err (fault_of error)

-- the fault is that of an event that can't follow the preceding ones, or `OutOfMemory` for one that
-- can
abbrev pub IsRefusal : (refusal : Option FaultKind) → Fault → Type 0
IsRefusal None fault = fault ≡ fault_without_offset OutOfMemory
IsRefusal (Some kind) fault = fault ≡ fault_without_offset kind

-- the items are these events and then an error, which is the result
abbrev pub EndsInError : (stops : Type 0) → (events : List PlainEvent) → List Item → Fault → Type 0
EndsInError stops events items fault = (items ≡ map Ok events ++ Err fault ∷ []) × stops

-- the items are these events and then one that can't follow them, or for which an allocation fails
abbrev pub EndsInRefusal : (stops : Type 0) → Unfinished → (events : List PlainEvent) → List Item
    → Fault → Type 0
EndsInRefusal stops unfinished events items fault =
    (event : PlainEvent) × (items ≡ map Ok events ++ Ok event ∷ []) × stops
    × IsRefusal (refusal_at unfinished event) fault

-- the items are these events, no item follows them, and they aren't those of a tree
abbrev pub EndsUnfinished : (ends : Type 0) → (events : List PlainEvent) → List Item → Fault
    → Type 0
EndsUnfinished ends events items fault =
    (items ≡ map Ok events) × ends × (fault ≡ fault_without_offset UnexpectedEndOfEventStream)
    × ((tree : Tree) → AreAlike events (bracketing tree) → ⊥)

-- The result of building a value from the items that were taken. If no item follows them, and they
-- are the events of a tree, apart from lengths, it is that tree with the last value of each key.
-- Otherwise it is a fault, after events that can follow one another. `stops` says that no further
-- item was taken, and `ends` that there is none.
abbrev pub IsBuiltFrom : (stops ends : Type 0) → List Item → Result Tree Fault → Type 0
IsBuiltFrom stops ends items (Ok tree) =
    (events : List PlainEvent) × (whole : Tree) × (items ≡ map Ok events) × ends
    × AreAlike events (bracketing whole) × (tree ≡ last_wins whole)
IsBuiltFrom stops ends items (Err fault) =
    (events : List PlainEvent) × (unfinished : Unfinished) × IsNested unfinished
    × AreAlike (events_so_far unfinished) events
    × (EndsInError stops events items fault
    ⊎ (EndsInRefusal stops unfinished events items fault ⊎ EndsUnfinished ends events items fault))

-- the events before the first fault
abbrev pub events_taken : List Item → List PlainEvent
events_taken [] = []
events_taken (Ok event ∷ items) = event ∷ events_taken items
events_taken (Err fault ∷ items) = []

module _ {E I : Type 0} (plain : E → PlainEvent)
    (next_gives : I → Option (Result E Error) → I → Type 0) (iter : I) where
  -- A value is built from an iterator's items, with this result. The iterator isn't called again
  -- after an item that is an error or is rejected, and it is called only once at its end.
  abbrev pub CollectsTo : Result Tree Fault → (after : I) → Type 0
  CollectsTo answer after =
      (taken : List (Result E Error)) × (left : I) × Yields next_gives iter taken left
      × IsBuiltFrom (after ≡ left) (next_gives left None after) (map (item_by plain) taken) answer

  -- a value is built from an iterator's items, with this result
  abbrev pub Collects : Result Tree Fault → Type 0
  Collects answer = (after : I) × CollectsTo answer after

  -- a value is built from an iterator's items, with this result, and `P` is true of the events that
  -- were taken for it
  abbrev pub CollectsWithin : (P : List PlainEvent → Type 0) → Result Tree Fault → Type 0
  CollectsWithin P answer =
      (after : I) × (taken : List (Result E Error)) × (left : I) × Yields next_gives iter taken left
      × IsBuiltFrom (after ≡ left) (next_gives left None after) (map (item_by plain) taken) answer
      × P (events_taken (map (item_by plain) taken))

-- the item is an event, which is added
abbrev pub TakesOne : Built → Item → Built → Type 0
TakesOne before (Ok event) after =
    (and_event with_pair before.unfinished event ≡ Some after.unfinished) × (after.failed ≡ false)
TakesOne before (Err fault) after = ⊥

-- an item is an error, or its event is rejected, or an allocation fails for the event
abbrev pub RefusesOne : Unfinished → Item → Fault → Type 0
RefusesOne unfinished (Ok event) fault = IsRefusal (refusal_at unfinished event) fault
RefusesOne unfinished (Err error) fault = fault ≡ error
