-- The remaining events of an iterator over a value's events.
use Rattle.std.specs.Prelude.{List, [], ◌∷◌, ◌++◌, Option, Some, None, Result, Ok, IfOk, IfSome, map, reverse, ⊤}
use Rattle.std.specs.Borrow.{Bor}
use Rattle.plist_base.specs.declared.error.Error.{Error}
use Rattle.plist_base.specs.declared.event.Event.{Event}
use Rattle.plist_base.specs.declared.event.Event.TheVariants as event
use Rattle.std.specs.declared.borrow.CowStr.TheVariants as text
use Rattle.std.specs.declared.borrow.CowSlice.TheVariants as slice
use Rattle.plist_base.specs.Events.{PlainEvent, StartArray, StartDictionary, EndCollection, event_of}
use Rattle.plist_base.specs.FirstItems.{GivesFirst, StopsIf}
use Rattle.plist_base.specs.Outcomes.{OnlyMemory}
use Rattle.plist_base.specs.Trees.{trees_of, members_of}
use Rattle.plist_base.specs.Bracketing.{bracketing, bracketing_of_items, bracketing_of_pairs}
use Rattle.plist.specs.declared.value.Value.{Value}
use Rattle.plist.specs.declared.stream.events.Events.{Events}
use Rattle.plist.specs.declared.stream.events.Level.{Level}
use Rattle.plist.specs.declared.stream.events.Level.TheVariants as level
use Rattle.plist.specs.ValueTrees.{tree_of, tree_pairs}

-- the events of the value that is next, or an empty list if no value is next
abbrev pub left_of_value : Option (Bor Value) → List PlainEvent
left_of_value None = []
left_of_value (Some value) = bracketing (tree_of value.now)

-- the remaining events of an open collection, without its end
abbrev pub left_of_level : Level → List PlainEvent
left_of_level (level.Array items) = bracketing_of_items (trees_of (map tree_of items.now))
left_of_level (level.Dictionary pairs) = bracketing_of_pairs (members_of (tree_pairs pairs))

-- the remaining events of the open collections, innermost first
abbrev pub left_of_levels : List Level → List PlainEvent
left_of_levels [] = []
left_of_levels (level ∷ levels) = left_of_level level ++ EndCollection ∷ left_of_levels levels

-- the remaining events
abbrev pub remaining_events : Events → List PlainEvent
remaining_events events = left_of_value events.value ++ left_of_levels (reverse events.levels.items)

-- a string or data is borrowed
abbrev pub IsBorrowed : Event → Type 0
IsBorrowed (event.String (text.Owned owned)) = ⊥
IsBorrowed (event.Data (slice.Owned owned)) = ⊥
IsBorrowed other = ⊤

-- the first event is a start
abbrev pub BeginsWithStart : List PlainEvent → Type 0
BeginsWithStart (StartArray length ∷ events) = ⊤
BeginsWithStart (StartDictionary length ∷ events) = ⊤
BeginsWithStart events = ⊥

-- The first of these events is yielded, and the others remain. Nothing is yielded only if there is no
-- event. If an allocation fails, `OutOfMemory` is yielded in place of a start, and nothing remains.
pub record GivesEventOf (events : List PlainEvent) (item : Option (Result Event Error))
    (after : Events) : Type 0 where
  pub items : GivesFirst event_of (λ _ _. ⊥) (StopsIf (λ _. BeginsWithStart events))
      (map Ok events) item (map Ok (remaining_events after))
  -- a string or data is borrowed
  pub borrowed : IfSome item (λ answer. IfOk answer IsBorrowed)
  -- an error is `OutOfMemory`, without an offset
  pub memory : IfSome item OnlyMemory

-- the first remaining event is yielded
abbrev pub GivesEvent : Events → Option (Result Event Error) → Events → Type 0
GivesEvent before item after = GivesEventOf (remaining_events before) item after
