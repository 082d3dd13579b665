-- How a source hands its events to a visitor.
use Rattle.std.specs.Prelude.{◌≡◌, List, [], ◌∷◌, Option, Some, None, Result, Ok, Err}
use Rattle.std.specs.declared.ops.ControlFlow.{ControlFlow}
use Rattle.std.specs.declared.ops.ControlFlow.TheVariants.{Continue, Break}
use Rattle.plist_base.specs.declared.error.Error.{Error}
use Rattle.plist_base.specs.declared.visitor.Visited.{Visited}
use Rattle.plist_base.specs.declared.visitor.Visited.TheVariants.{Ended, Stopped}
use Rattle.plist_base.specs.declared.event.Event.{Event}
use Rattle.plist_base.specs.Events.{PlainEvent, event_of}

-- whether a visitor wants the next event
abbrev pub Flow : Type 0
Flow = ControlFlow (Unit {0}) (Unit {0})

-- a source yields an event, an error that replaces one, or `None` at the end
abbrev pub PlainItem : Type 0
PlainItem = Option (Result PlainEvent Error)

-- why a visit ended: the source ended, the visitor returned `Break`, or an error was yielded
abbrev pub last_turn : Result Visited Error → Option (Result Flow Error)
last_turn (Ok Ended) = None
last_turn (Ok Stopped) = Some (Ok (Break tt))
last_turn (Err error) = Some (Err error)

-- what contracts see of an iterator's item
abbrev pub plain_item : Option (Result Event Error) → PlainItem
plain_item None = None
plain_item (Some (Ok event)) = Some (Ok (event_of event))
plain_item (Some (Err error)) = Some (Err error)

-- the item, in which a value is replaced by this event
abbrev pub item_with : {A : Type 0} → Option (Result A Error) → PlainEvent → PlainItem
item_with None event = None
item_with (Some (Ok value)) event = Some (Ok event)
item_with (Some (Err error)) event = Some (Err error)

-- a call of an iterator's `next` yields this item
abbrev pub YieldsPlain : {I : Type 0} → (next_gives : I → Option (Result Event Error) → I → Type 0)
    → I → PlainItem → I → Type 0
YieldsPlain next_gives old item new =
    (given : Option (Result Event Error)) × next_gives old given new × (item ≡ plain_item given)

-- a source yields these events one by one
abbrev pub YieldsAll : {I : Type 0} → (yields : I → PlainItem → I → Type 0) → (old : I)
    → List PlainEvent → (new : I) → Type 0
YieldsAll yields old [] new = new ≡ old
YieldsAll {I} yields old (event ∷ events) new =
    (next : I) × yields old (Some (Ok event)) next × YieldsAll yields next events new

module _ {I V : Type 0} (yields : I → PlainItem → I → Type 0)
    (step : V → PlainEvent → Flow → V → Type 0) where
  -- the source yields this event, and the visitor takes it and returns `flow`
  pub record HandsOver (old : I × V) (event : PlainEvent) (flow : Flow) (new : I × V) : Type 0 where
    pub given : yields old.0 (Some (Ok event)) new.0
    pub taken : step old.1 event flow new.1

  -- an event is handed over, or the source ends or yields an error and the visitor is unchanged
  abbrev pub TakesTurn : (old : I × V) → Option (Result Flow Error) → (new : I × V) → Type 0
  TakesTurn old None new = yields old.0 None new.0 × (new.1 ≡ old.1)
  TakesTurn old (Some (Ok flow)) new = (event : PlainEvent) × HandsOver old event flow new
  TakesTurn old (Some (Err error)) new = yields old.0 (Some (Err error)) new.0 × (new.1 ≡ old.1)

  -- these events are handed over one by one, and the visitor wants more after each
  abbrev pub HandsOverAll : (old : I × V) → List PlainEvent → (new : I × V) → Type 0
  HandsOverAll old [] new = new ≡ old
  HandsOverAll old (event ∷ events) new =
      (next : I × V) × HandsOver old event (Continue tt) next × HandsOverAll next events new

  -- events are handed over one by one, and then the visit ends
  pub record Visits (old : I × V) (answer : Result Visited Error) (new : I × V) : Type 0 where
    pub events : List PlainEvent
    pub left : I × V
    pub handed : HandsOverAll old events left
    pub ended : TakesTurn left (last_turn answer) new
