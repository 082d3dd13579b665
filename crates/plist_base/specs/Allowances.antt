-- The items that an allowance admits.
use Rattle.std.specs.Prelude.{◌≡◌, Bool, true, false, if◌then◌else◌, List, [], ◌∷◌, Option, None, Some, Result, Ok, Err, MatchBool, MatchOption, MatchResult}
use Rattle.plist_base.specs.declared.error.Error.{Error}
use Rattle.plist_base.specs.declared.event.Event.{Event}
use Rattle.plist_base.specs.declared.limited_items.LimitedItems.{LimitedItems}
use Rattle.plist_base.specs.Faults.{Fault, fault_of}
use Rattle.plist_base.specs.Events.{PlainEvent, Item, event_of}

-- the inner iterator of a limited one
abbrev pub iterator_of : {I A : Type 0} → LimitedItems I A → I
iterator_of limited = limited.inner

-- the iterator has ended
abbrev pub HasEndedLimited : {I A : Type 0} → LimitedItems I A → Type 0
HasEndedLimited limited = limited.ended ≡ true

-- `lets` maps a list of items to those that are yielded under an allowance
module _ {A : Type 0} (lets : A → List Item → List Item) where
  -- the event is admitted, and the new allowance decides on what follows it
  abbrev pub AdmitsEvent : (old : A) → PlainEvent → (new : A) → Type 0
  AdmitsEvent old event new =
      (items : List Item) → lets old (Ok event ∷ items) ≡ Ok event ∷ lets new items

  -- the inner iterator's items that the allowance admits, or none after the end
  abbrev pub items_allowed : {I : Type 0} → LimitedItems I A → List Item → List Item
  items_allowed limited items = if limited.ended then [] else lets limited.limiter items

-- `may_reach` says which faults may replace an event
module _ {A : Type 0} (lets : A → List Item → List Item) (may_reach : Fault → Type 0) where
  -- this fault, which is one that `may_reach` allows, replaces the event, and no item follows
  abbrev pub RefusesEvent : A → PlainEvent → Fault → Type 0
  RefusesEvent allowance event fault =
      may_reach fault × ((items : List Item) → lets allowance (Ok event ∷ items) ≡ Err fault ∷ [])

  -- `given` is yielded for the inner item `asked`, and `left` is a pair of the new allowance and
  -- whether the items have ended; a fault may replace an event, and any error ends the items
  abbrev pub Passes : (old : A) → (asked given : Result Event Error) → (left : A × Bool) → Type 0
  Passes old (Ok event) given left = MatchResult given
      (λ passed. (passed ≡ event) × AdmitsEvent lets old (event_of event) left.0 × (left.1 ≡ false))
      (λ error. RefusesEvent old (event_of event) (fault_of error) × (left.1 ≡ true))
  Passes old (Err error) given left = (given ≡ Err error) × (left.1 ≡ true)

  -- `given` is yielded when the inner iterator yields `asked`; `None` ends this iterator, too
  abbrev pub PassesNext : (old : A) → (asked given : Option (Result Event Error))
      → (left : A × Bool) → Type 0
  PassesNext old None given left = (given ≡ None) × (left.0 ≡ old) × (left.1 ≡ true)
  PassesNext old (Some asked) given left = MatchOption given ⊥ (λ item. Passes old asked item left)

  -- one call of `next`: it yields `None` after the end, and otherwise calls the inner iterator
  abbrev pub GivesAllowed : {I : Type 0} → (I → Option (Result Event Error) → I → Type 0)
      → LimitedItems I A → Option (Result Event Error) → LimitedItems I A → Type 0
  GivesAllowed inner_gives old item new = MatchBool old.ended
      ((item ≡ None) × (new ≡ old))
      ((asked : Option (Result Event Error)) × inner_gives old.inner asked new.inner
      × PassesNext old.limiter asked item (new.limiter, new.ended))
