-- What is expected after some events. It is a stack, which decides what event is accepted next. The
-- innermost open collection decides whether that is an item or a pair, unless the last event is a key.
use Rattle.std.specs.Prelude.{◌≡◌, List, [], ◌∷◌, Option, Some, None, map, option_and_then}
use Rattle.plist_base.specs.Events.{PlainEvent, StartDictionary, EndCollection, ScalarEvent, shape_of}
use Rattle.plist_base.specs.Trees.{String}
use Rattle.plist_base.specs.declared.event.EventShape.{EventShape}
use Rattle.plist_base.specs.declared.event.EventShape.TheVariants as shape
use Rattle.plist_buffer.specs.EventTable.{event_at}
use Rattle.plist_buffer.specs.declared.expects.Expect.{Expect}
use Rattle.plist_buffer.specs.declared.expects.Expect.TheVariants.{OneValue, Items, Pairs}
use Rattle.plist_buffer.specs.declared.expects.Transition.{Transition}
use Rattle.plist_buffer.specs.declared.expects.Transition.TheVariants.{Refused, Closed, Kept, Pushed, Replaced}
use Rattle.plist_buffer.specs.inner.UnclosedStarts.{unclosed_after}

-- how an event of this shape changes the expectation of a value
abbrev pub transition_of_value : EventShape → Transition
transition_of_value shape.StartArray = Replaced Items
transition_of_value shape.StartDictionary = Replaced Pairs
transition_of_value shape.EndCollection = Refused
transition_of_value shape.Scalar = Closed

-- how an event of this shape changes the expectation of an array's remaining items and its end
abbrev pub transition_of_items : EventShape → Transition
transition_of_items shape.StartArray = Pushed Items
transition_of_items shape.StartDictionary = Pushed Pairs
transition_of_items shape.EndCollection = Closed
transition_of_items shape.Scalar = Kept

-- how an event changes the expectation of a dictionary's remaining pairs and its end
abbrev pub transition_of_pairs : PlainEvent → Transition
transition_of_pairs EndCollection = Closed
transition_of_pairs (ScalarEvent (String text)) = Pushed OneValue
transition_of_pairs event = Refused

-- how an event changes the topmost expectation
abbrev pub transition_of : Expect → PlainEvent → Transition
transition_of OneValue event = transition_of_value (shape_of event)
transition_of Items event = transition_of_items (shape_of event)
transition_of Pairs event = transition_of_pairs event

-- the stack after a change of its top, topmost first, or `None` if the event is rejected
abbrev pub changed : Transition → Expect → List Expect → Option (List Expect)
changed Refused top rest = None
changed Closed top rest = Some rest
changed Kept top rest = Some (top ∷ rest)
changed (Pushed expect) top rest = Some (expect ∷ top ∷ rest)
changed (Replaced expect) top rest = Some (expect ∷ rest)

-- the stack after an event, or `None` if the event is rejected
abbrev pub step : List Expect → PlainEvent → Option (List Expect)
step [] event = None
step (top ∷ rest) event = changed (transition_of top event) top rest

-- the stack after some events, or `None` if one is rejected
abbrev pub steps : List Expect → List PlainEvent → Option (List Expect)
steps expects [] = Some expects
steps expects (event ∷ events) = option_and_then (λ after. steps after events) (step expects event)

-- the stack after these events, which begin a tree, or `None` if one is rejected
abbrev pub expected_after : List PlainEvent → Option (List Expect)
expected_after events = steps (OneValue ∷ []) events

-- what is expected in the collection that begins with a start
abbrev pub expected_after_start : PlainEvent → Expect
expected_after_start (StartDictionary hint) = Pairs
expected_after_start start = Items

-- what is expected in each open collection after these events, innermost first
abbrev pub expected_inside : List PlainEvent → List Expect
expected_inside events = map (λ start. expected_after_start (event_at events start)) (unclosed_after events)

-- the first item, which belongs to the innermost collection, or `None` if there is none
abbrev pub innermost : {A : Type 0} → List A → Option A
innermost [] = None
innermost (first ∷ outer) = Some first

-- the stack of expectations, given the next one and those of the open collections, innermost first
abbrev pub all_expected : (next : Option Expect) → (inside : List Expect) → List Expect
all_expected None inside = []
all_expected (Some OneValue) inside = OneValue ∷ inside
all_expected (Some expect) inside = inside

-- `next` is expected after these events, and is `None` if nothing can follow them
pub record ExpectsNext (events : List PlainEvent) (next : Option Expect) : Type 0 where
  pub all : expected_after events ≡ Some (all_expected next (expected_inside events))
  pub first : next ≡ innermost (all_expected next (expected_inside events))

-- how an event changes what is expected next
abbrev pub change_on : (next : Option Expect) → PlainEvent → Transition
change_on None event = Refused
change_on (Some expect) event = transition_of expect event

-- what is expected next after a change
abbrev pub next_expected : Transition → (next inside : Option Expect) → Option Expect
next_expected Refused next inside = next
next_expected Kept next inside = next
next_expected Closed next inside = inside
next_expected (Pushed expect) next inside = Some expect
next_expected (Replaced expect) next inside = Some expect
