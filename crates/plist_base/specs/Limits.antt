-- Items under limits: how many events there are, and how many collections are open at once.
use Rattle.std.specs.Prelude.{◌≡◌, ℕ, ◌+◌, ◌-◌, Bool, true, false, ◌&&◌, nat_le, if◌then◌else◌, List, [], ◌∷◌, Option, None, Some, Result, Ok, Err, IfSome, MatchResult, ⊤}
use Rattle.plist_base.specs.declared.error.Error.{Error}
use Rattle.plist_base.specs.declared.event.Event.{Event}
use Rattle.plist_base.specs.declared.event.EventShape.{EventShape}
use Rattle.plist_base.specs.declared.event.EventShape.TheVariants as shape
use Rattle.plist_base.specs.declared.limited_items.LimitedItems.{LimitedItems}
use Rattle.plist_base.specs.declared.limits.Limits.{Limits}
use Rattle.plist_base.specs.declared.limits.Limit.{Limit}
use Rattle.plist_base.specs.declared.limits.Limit.TheVariants as limit
use Rattle.plist_base.specs.declared.limits.LimitCounter.{LimitCounter}
use Rattle.plist_base.specs.Allowances.{AdmitsEvent, GivesAllowed, RefusesEvent, items_allowed}
use Rattle.plist_base.specs.Faults.{Fault, FaultKind, LimitReached, fault_of, fault_without_offset}
use Rattle.plist_base.specs.Events.{PlainEvent, Item, shape_of}

-- does an event of this shape open a collection?
abbrev pub opens : EventShape → Bool
opens shape.StartArray = true
opens shape.StartDictionary = true
opens shape.EndCollection = false
opens shape.Scalar = false

-- how many collections are open after an event, given how many were open before it
abbrev pub level_after : EventShape → (level : ℕ) → ℕ
level_after shape.StartArray level = level + 1
level_after shape.StartDictionary level = level + 1
level_after shape.EndCollection level = level - 1
level_after shape.Scalar level = level

-- the limit that an event exceeds after `admitted` events, while `level` collections are open
abbrev pub limit_at : Limits → (admitted level : ℕ) → PlainEvent → Option Limit
limit_at limits admitted level event =
    if nat_le limits.items admitted then Some limit.Items
    else (if opens (shape_of event) && nat_le limits.depth level then Some limit.Depth else None)

-- an event and the items after it, or the fault of the limit that it exceeds
abbrev pub event_or_limit : Option Limit → PlainEvent → (more : List Item) → List Item
event_or_limit None event more = Ok event ∷ more
event_or_limit (Some limit) event more = Err (fault_without_offset (LimitReached limit)) ∷ []

-- the items that limits admit after `admitted` events, while `level` collections are open
abbrev pub limited_from : Limits → (admitted level : ℕ) → List Item → List Item
limited_from limits admitted level [] = []
limited_from limits admitted level (Ok event ∷ items) =
    event_or_limit (limit_at limits admitted level event) event
    (limited_from limits (admitted + 1) (level_after (shape_of event) level) items)
limited_from limits admitted level (Err fault ∷ items) = Err fault ∷ []

-- the items up to the first fault; the first event that exceeds a limit becomes that limit's fault
abbrev pub limited_items : Limits → List Item → List Item
limited_items limits items = limited_from limits 0 0 items

-- the items that limits admit, or all of them without limits
abbrev pub items_within : Option Limits → List Item → List Item
items_within None items = items
items_within (Some limits) items = limited_items limits items

-- ---- the items that a counter under limits admits

-- the items of a list that the counter admits
abbrev pub limited_by : LimitCounter → List Item → List Item
limited_by limiter = limited_from limiter.limits limiter.admitted limiter.level

-- the fault is that of a limit
abbrev pub IsLimitReached : Fault → Type 0
IsLimitReached fault = (limit : Limit) × (fault ≡ fault_without_offset (LimitReached limit))

-- the event is admitted, and the new counter decides on what follows it
abbrev pub Admits : (old : LimitCounter) → PlainEvent → (new : LimitCounter) → Type 0
Admits = AdmitsEvent limited_by

-- the event is replaced by a limit's fault, and no item follows it
abbrev pub Refuses : LimitCounter → PlainEvent → Fault → Type 0
Refuses = RefusesEvent limited_by IsLimitReached

-- the fact, if the fault is that of a limit
abbrev pub IfLimitReached : FaultKind → Type 0 → Type 0
IfLimitReached (LimitReached limit) fact = fact
IfLimitReached kind fact = ⊤

-- One call over any source: an event is admitted, and a limit's fault replaces an event that isn't.
-- `before` and `after` map a list of items to those that the limits admit before and after the call.
abbrev pub KeepsLimits : {E : Type 0} → (shown : E → PlainEvent) → (before : List Item → List Item)
    → Option (Result E Error) → (after : List Item → List Item) → Type 0
KeepsLimits shown before item after = IfSome item (λ answer. MatchResult answer
    (λ event. AdmitsEvent (λ lets. lets) before (shown event) after)
    (λ error. IfLimitReached (fault_of error).kind ((event : PlainEvent)
    × RefusesEvent (λ lets. lets) IsLimitReached before event (fault_of error))))

-- the items that a counter admits, or all of them without a counter
abbrev pub limited_by_any : Option LimitCounter → List Item → List Item
limited_by_any None items = items
limited_by_any (Some limiter) items = limited_by limiter items

-- there is a counter, which replaces the event by this fault
abbrev pub RefusesAny : Option LimitCounter → PlainEvent → Fault → Type 0
RefusesAny None event fault = ⊥
RefusesAny (Some limiter) event fault = Refuses limiter event fault

-- the inner iterator's items that the limits admit, or none after the end
abbrev pub items_admitted : {I : Type 0} → LimitedItems I LimitCounter → List Item → List Item
items_admitted = items_allowed limited_by

-- one call of `next` under limits
abbrev pub GivesLimited : {I : Type 0} → (I → Option (Result Event Error) → I → Type 0)
    → LimitedItems I LimitCounter → Option (Result Event Error) → LimitedItems I LimitCounter → Type 0
GivesLimited = GivesAllowed limited_by IsLimitReached
