-- The items that a visit hands over, if those that remained before are known, and the tokens by which
-- a visitor names scalars that it has taken.
use Rattle.std.specs.Prelude.{◌≡◌, ◌⊎◌, ℕ, ◌<◌, List, [], ◌∷◌, ◌++◌, Option, Some, Result, Ok, IfSome, map}
use Rattle.std.specs.declared.ops.ControlFlow.TheVariants.{Continue}
use Rattle.plist_base.specs.declared.error.Error.{Error}
use Rattle.plist_base.specs.declared.visitor.Visited.{Visited}
use Rattle.plist_base.specs.Events.{IsScalarEvent, PlainEvent, Item}
use Rattle.plist_base.specs.FirstItems.{GivesFirst}
use Rattle.plist_base.specs.Visits.{Flow, PlainItem, TakesTurn, last_turn}

-- no item remains
abbrev pub NoneLeft : (before after : List Item) → Type 0
NoneLeft before after = after ≡ []

-- the first of the items is yielded, and the others remain, but none after `Io` and `OutOfMemory`
abbrev pub YieldsFirst : (before : List Item) → PlainItem → (after : List Item) → Type 0
YieldsFirst = GivesFirst (λ event. event) NoneLeft NoneLeft

module _ {V : Type 0} (step : V → PlainEvent → Flow → V → Type 0) where
  -- a visitor takes these events one by one, and wants more after each
  abbrev pub WantsAll : (old : V) → List PlainEvent → (new : V) → Type 0
  WantsAll old [] new = new ≡ old
  WantsAll old (event ∷ events) new =
      (next : V) × step old event (Continue tt) next × WantsAll next events new

  -- the items that remained are the events that the visitor took and `left.0`, whose first one ends
  -- the visit, with the others remaining
  pub record VisitsItems (old : List Item × V) (answer : Result Visited Error) (new : List Item × V)
      : Type 0 where
    pub events : List PlainEvent
    pub left : List Item × V
    pub items : old.0 ≡ map Ok events ++ left.0
    pub taken : WantsAll old.1 events left.1
    -- a second event is handed over only if the visitor wanted more after the first one
    pub wanted : (events ≡ [])
        ⊎ ((event : PlainEvent) × (next : V) × step old.1 event (Continue tt) next)
    pub ended : TakesTurn YieldsFirst step left (last_turn answer) new

  -- `VisitsItems` is true if the remaining items are known, and then those afterwards are known
  abbrev pub VisitsKnown : (old : Option (List Item) × V) → Result Visited Error
      → (new : Option (List Item) × V) → Type 0
  VisitsKnown old answer new = IfSome old.0 (λ all. (left : List Item) × (new.0 ≡ Some left)
      × VisitsItems (all, old.1) answer (left, new.1))

module _ {V : Type 0} (step : V → PlainEvent → Flow → V → Type 0)
    (names : V → (token : ℕ) → PlainEvent → Type 0) where
  -- the token named this event when the visitor had just taken it, or later
  pub record HasNamed (token : ℕ) (event : PlainEvent) (now : V) : Type 0 where
    pub past : V
    pub events : List PlainEvent
    pub named : names past token event
    pub since : WantsAll step past events now

  -- a token that isn't 0 names the event that the visitor has just taken
  abbrev pub NamesLast : (token : ℕ) → (now : V) → Type 0
  NamesLast token now = (old : V) (event : PlainEvent) → step old event (Continue tt) now
      → 0 < token → names now token event

  -- the visitor takes the scalar that this token has named once more, unless it declines
  abbrev pub TakesNamed : (old : V) → (token : ℕ) → Option Flow → (new : V) → Type 0
  TakesNamed old token answer new = (event : PlainEvent) → HasNamed token event old
      → IfSome answer (λ flow. IsScalarEvent event × step old event flow new)
