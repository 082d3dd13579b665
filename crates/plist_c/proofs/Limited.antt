-- The items that limits admit, after the events that were taken so far.
use Rattle.std.proofs.Common.{◌≡◌, ℕ, ◌+◌, List, [], ◌∷◌, ◌++◌, Option, None, Ok, map, sym, ap, ◌∙◌}
use Rattle.plist_base.specs.declared.limits.Limit.{Limit}
use Rattle.plist_base.specs.declared.limits.Limits.{Limits}
use Rattle.plist_base.specs.Events.{PlainEvent, Item, shape_of}
use Rattle.plist_base.specs.Limits.{event_or_limit, level_after, limit_at, limited_from, limited_items}
use Rattle.plist.proofs.PredictedItems.{event-more}

-- the first item after `admitted` events
pub limited_first : (limits : Limits) (admitted level : ℕ) (event : PlainEvent) (rest : List Item)
    (limit : Option Limit) → limit_at limits admitted level event ≡ limit
    → limited_from limits admitted level (Ok event ∷ rest)
    ≡ event_or_limit limit event
    (limited_from limits (admitted + 1) (level_after (shape_of event) level) rest)
limited_first limits admitted level event rest limit is =
    ap (λ found. event_or_limit found event
    (limited_from limits (admitted + 1) (level_after (shape_of event) level) rest)) is

-- the limits admit these events, and decide on what follows them from these counts on
abbrev pub IsLimitedAfter : Limits → List PlainEvent → (admitted level : ℕ) → Type 0
IsLimitedAfter limits done admitted level =
    (rest : List Item) → limited_items limits (map Ok done ++ rest)
    ≡ map Ok done ++ limited_from limits admitted level rest

-- one more event is admitted
pub limited_more : (limits : Limits) (done : List PlainEvent) (admitted level next above : ℕ)
    (event : PlainEvent) → IsLimitedAfter limits done admitted level
    → limit_at limits admitted level event ≡ None → next ≡ admitted + 1
    → above ≡ level_after (shape_of event) level
    → IsLimitedAfter limits (done ++ event ∷ []) next above
limited_more limits done admitted level next above event so_far within one after rest =
    ap (limited_items limits) (sym (event-more done event rest)) ∙ so_far (Ok event ∷ rest)
    ∙ ap (λ items. map Ok done ++ items)
    (limited_first limits admitted level event rest None within)
    ∙ event-more done event _
    ∙ ap (λ items. map Ok (done ++ event ∷ []) ++ items)
    (λ i. limited_from limits (sym one i) (sym after i) rest)
