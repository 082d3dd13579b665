-- What readers under limits yield, whatever their source does.
use Rattle.std.proofs.Common.{◌≡◌, Bool, true, false, ◌&&◌, cond, leb, List, [], ◌∷◌, Option, None, Some, Result, Ok, Err, refl, ap, sym, subst, ◌∙◌}
use Rattle.plist_base.specs.declared.error.Error.{Error}
use Rattle.plist_base.specs.declared.event.Event.{Event}
use Rattle.plist_base.specs.declared.event.EventShape.{EventShape}
use Rattle.plist_base.specs.declared.event.EventShape.TheVariants as shape
use Rattle.plist_base.specs.declared.limits.Limit.{Limit}
use Rattle.plist_base.specs.declared.limits.Limits.{Limits}
use Rattle.plist_base.specs.Events.{Item, PlainEvent, event_of, shape_of}
use Rattle.plist_base.specs.Faults.{Fault, fault_of}
use Rattle.plist_base.specs.Allowances.{RefusesEvent}
use Rattle.plist_base.specs.Limits.{IfLimitReached, IsLimitReached, KeepsLimits, event_or_limit, level_after, limit_at, limited_items, opens}
use Rattle.plist_callers.specs.LimitedItems.{IsEvent, IsLimit, IsStart}

abbrev Given : Type 0
Given = Option (Result Event Error)

abbrev Lets : Type 0
Lets = List Item → List Item

-- what can't be true is false
never : (b : Bool) → (b ≡ true → ⊥) → b ≡ false
never true contrary = absurd (contrary refl)
never false contrary = refl

-- an event that is admitted exceeds no limit, and is followed by the others
admitted_first : (reached : Option Limit) (event : PlainEvent) (more rest : List Item)
    → event_or_limit reached event more ≡ Ok event ∷ rest → (reached ≡ None) × (more ≡ rest)
admitted_first None event more rest is = (refl, cc)
admitted_first (Some limit) event more rest is = absurd (cc)

-- an event that exceeds no limit isn't replaced
replaced_first : (reached : Option Limit) (event : PlainEvent) (more : List Item) (fault : Fault)
    → reached ≡ None → event_or_limit reached event more ≡ Err fault ∷ [] → ⊥
replaced_first None event more fault none is = absurd (cc)
replaced_first (Some limit) event more fault none is = absurd (cc)

-- ---- no event

none_admitted : (limits : Limits) (one two : Lets) (item : Given) → limits.items ≡ 0
    → one ≡ limited_items limits → KeepsLimits event_of one item two → IsEvent item → ⊥
none_admitted limits one two None none is keeps event = event
none_admitted limits one two (Some (Err error)) none is keeps event = event
none_admitted limits one two (Some (Ok value)) none is keeps event =
    let e : limited_items limits (Ok (event_of value) ∷ []) ≡ Ok (event_of value) ∷ two [] =
    ap (λ (lets : Lets). lets (Ok (event_of value) ∷ [])) (sym is) ∙ keeps [] in
    let over : limit_at limits 0 0 (event_of value) ≡ None = (admitted_first _ _ _ _ e).0 in
    absurd (cc (rw none at over))

pub no_event : (limits : Limits) (one two : Lets) (item : Given) (b : Bool) → limits.items ≡ 0
    → one ≡ limited_items limits → KeepsLimits event_of one item two
    → (b ≡ true → IsEvent item) → b ≡ false
no_event limits one two item b none is keeps event =
    never b (λ is_event. none_admitted limits one two item none is keeps (event is_event))

-- ---- one open collection

level_one : (s : EventShape) → opens s ≡ true → level_after s 0 ≡ 1
level_one shape.StartArray is = refl
level_one shape.StartDictionary is = refl
level_one shape.EndCollection is = absurd (cc)
level_one shape.Scalar is = absurd (cc)

too_deep : (full : Bool) (s : EventShape) (items : Limit) (depth : Limit) → opens s ≡ true
    → cond full (Some items) (cond (opens s && leb 1 1) (Some depth) None) ≡ None → ⊥
too_deep true s items depth is none = absurd (cc)
too_deep false s items depth is none = absurd (cc (rw is at none))

two_starts : (limits : Limits) (one two three : Lets) (a b : Given) → limits.depth ≡ 1
    → one ≡ limited_items limits → KeepsLimits event_of one a two → KeepsLimits event_of two b three
    → IsStart a → IsStart b → ⊥
two_starts limits one two three None b deep is first second start other = start
two_starts limits one two three (Some (Err error)) b deep is first second start other = start
two_starts limits one two three (Some (Ok x)) None deep is first second start other = other
two_starts limits one two three (Some (Ok x)) (Some (Err e)) deep is first second start other = other
two_starts limits one two three (Some (Ok x)) (Some (Ok y)) deep is first second start other =
    let next = Ok (event_of y) ∷ [] in
    let e : limited_items limits (Ok (event_of x) ∷ next) ≡ Ok (event_of x) ∷ two next =
    ap (λ (lets : Lets). lets (Ok (event_of x) ∷ next)) (sym is) ∙ first next in
    let rest = (admitted_first _ _ _ _ e).1 ∙ second [] in
    let level = level_one (shape_of (event_of x)) start in
    let over = (admitted_first _ _ _ _ (rw level at rest)).0 in
    too_deep _ (shape_of (event_of y)) _ _ other (rw deep at over)

pub no_second : (limits : Limits) (one two three : Lets) (a b : Given) (first second : Bool)
    → limits.depth ≡ 1 → one ≡ limited_items limits → KeepsLimits event_of one a two
    → KeepsLimits event_of two b three → (first ≡ true → IsStart a) → (second ≡ true → IsStart b)
    → first ≡ true → second ≡ false
no_second limits one two three a b first second deep is keeps more start other begun =
    never second (λ also. two_starts limits one two three a b deep is keeps more (start begun)
    (other also))

-- ---- one event

all_within : (s : EventShape) (depth : Limit)
    → cond (opens s && leb 1 0) (Some depth) None ≡ None
all_within shape.StartArray depth = refl
all_within shape.StartDictionary depth = refl
all_within shape.EndCollection depth = refl
all_within shape.Scalar depth = refl

pub no_limit : (limits : Limits) (one two : Lets) (item : Given) (b : Bool) → limits.depth ≡ 1
    → limits.items ≡ 1 → one ≡ limited_items limits → KeepsLimits event_of one item two
    → (b ≡ true → IsLimit item) → b ≡ false
no_limit limits one two item b deep few is keeps reached = never b (λ is_limit. by item keeps (reached is_limit))
  where
    by : (item : Given) → KeepsLimits event_of one item two → IsLimit item → ⊥
    by None keeps limit = limit
    by (Some (Ok value)) keeps limit = limit
    by (Some (Err error)) keeps limit =
        let replaced = subst (λ kind. IfLimitReached kind ((event : PlainEvent) × RefusesEvent (λ (lets : Lets). lets)
        IsLimitReached one event (fault_of error))) limit.1 keeps in
        let event = replaced.0 in
        let within : limit_at limits 0 0 event ≡ None = rw (deep, few) (all_within (shape_of event) _) in
        replaced_first _ event _ (fault_of error) within
        (ap (λ (lets : Lets). lets (Ok event ∷ [])) (sym is) ∙ replaced.1.1 [])
