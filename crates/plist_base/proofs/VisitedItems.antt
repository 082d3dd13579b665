-- The items that a source yields, one by one or in a visit.
use Rattle.std.proofs.Common.{◌≡◌, ◌⊎◌, inl, inr, ℕ, List, [], ◌∷◌, ◌++◌, Option, None, Some, IfSome, Result, Ok, Err, map, refl, ap, subst, ◌∙◌}
use Rattle.std.proofs.lemmas.Option.{IfSome_then}
use Rattle.std.specs.declared.ops.ControlFlow.TheVariants.{Continue}
use Rattle.plist_base.specs.declared.error.Error.{Error}
use Rattle.plist_base.specs.declared.event.Event.{Event}
use Rattle.plist_base.specs.declared.visitor.Visited.{Visited}
use Rattle.plist_base.specs.Events.{PlainEvent, Item, event_of}
use Rattle.plist_base.specs.FirstItems.{GivesFirstIfKnown, StopsIf}
use Rattle.plist_base.specs.VisitedItems.{HasNamed}
use Rattle.plist_base.specs.VisitedItems.{NoneLeft, VisitsKnown, WantsAll, YieldsFirst}
use Rattle.plist_base.specs.Visits.{Flow, HandsOverAll, PlainItem, TakesTurn, Visits, YieldsAll, last_turn, plain_item}
use Rattle.plist_base.proofs.FirstItems.{first_weaker_if_known, plain_first}
use Rattle.plist_base.proofs.Visits.{given_all}

-- the first of the remaining items is yielded; `Io` and `OutOfMemory` are always possible
abbrev pub Comes : (before : Option (List Item)) → PlainItem → (after : Option (List Item)) → Type 0
Comes = GivesFirstIfKnown (λ event. event) NoneLeft NoneLeft

-- what says more about `Io` and `OutOfMemory` implies `Comes`
pub comes_first : (io memory : List Item → Type 0) (before after : Option (List Item))
    (item : PlainItem)
    → GivesFirstIfKnown (λ event. event) (StopsIf io) (StopsIf memory) before item after
    → Comes before item after
comes_first io memory =
    first_weaker_if_known (λ event. event) (StopsIf io) (StopsIf memory) NoneLeft NoneLeft
    (λ _ _ stops. stops.1) (λ _ _ stops. stops.1)

-- the first of the remaining items is the one that an iterator yields
pub plain_comes : (io memory : List Item → Type 0) (before after : Option (List Item))
    (item : Option (Result Event Error))
    → GivesFirstIfKnown event_of (StopsIf io) (StopsIf memory) before item after
    → Comes before (plain_item item) after
plain_comes io memory before after item first =
    comes_first io memory before after (plain_item item)
    (plain_first (StopsIf io) (StopsIf memory) before after item first)

module _ {V : Type 0} (step : V → PlainEvent → Flow → V → Type 0) where
  -- the visitor took one more event, and wanted more after it
  wants_then : (old last new : V) (events : List PlainEvent) (event : PlainEvent)
      → WantsAll step old events last → step last event (Continue tt) new
      → WantsAll step old (events ++ event ∷ []) new
  wants_then old last new [] event is taken =
      (new, subst (λ l. step l event (Continue tt) new) is taken, refl)
  wants_then old last new (first ∷ events) event (next, one, others) taken =
      (next, one, wants_then next last new events event others taken)

  -- what a token named is still named after the visitor took one more event
  pub named_then : (names : V → (token : ℕ) → PlainEvent → Type 0) (token : ℕ)
      (event next : PlainEvent) (old new : V) → HasNamed step names token event old
      → step old next (Continue tt) new → HasNamed step names token event new
  named_then names token event next old new has taken = record {
    past = has.past;
    events = has.events ++ next ∷ [];
    named = has.named;
    since = wants_then has.past old new has.events next has.since taken;
  }

here : (o p : Option (List Item)) → p ≡ o
    → IfSome o (λ all. (left : List Item) × (p ≡ Some left) × (all ≡ left))
here None p is = tt
here (Some all) p is = (all, is, refl)

module _ {I : Type 0} (yields : I → PlainItem → I → Type 0) (coming : I → Option (List Item))
    (comes : (old : I) (item : PlainItem) (new : I) → yields old item new
    → Comes (coming old) item (coming new)) where
  pub all_came : (old new : I) (events : List PlainEvent) → YieldsAll yields old events new
      → IfSome (coming old) (λ all. (left : List Item) × (coming new ≡ Some left)
      × (all ≡ map Ok events ++ left))
  all_came old new [] is = here (coming old) (coming new) (ap coming is)
  all_came old new (event ∷ events) (next, one, others) =
      IfSome_then (coming old) (comes old (Some (Ok event)) next one) (λ all (mid, to, is).
      let (left, last, same) = rw to at (all_came next new events others) in
      (left, last, is ∙ ap (λ l. Ok event ∷ l) same))

  -- the last item that was yielded is the first one after these events
  pub came_last : (old left new : I) (events : List PlainEvent) (item : PlainItem)
      → YieldsAll yields old events left → yields left item new
      → IfSome (coming old) (λ all. (rest : List Item) × (more : List Item)
      × (all ≡ map Ok events ++ rest) × YieldsFirst rest item more)
  came_last old left new events item through last =
      IfSome_then (coming old) (all_came old left events through) (λ all (rest, to, is).
      let (more, after, next) = rw to at (comes left item new last) in (rest, more, is, next))

  module _ {V : Type 0} (step : V → PlainEvent → Flow → V → Type 0) where
    taken_all : (old new : I × V) (events : List PlainEvent)
        → HandsOverAll yields step old events new → WantsAll step old.1 events new.1
    taken_all old new [] is = ap (λ (now : I × V). now.1) is
    taken_all old new (event ∷ events) (next, one, others) =
        (next.1, one.taken, taken_all next new events others)

    wanted_more : (old new : I × V) (events : List PlainEvent)
        → HandsOverAll yields step old events new → (events ≡ [])
        ⊎ ((event : PlainEvent) × (next : V) × step old.1 event (Continue tt) next)
    wanted_more old new [] is = inl refl
    wanted_more old new (event ∷ events) (next, one, others) = inr (event, next.1, one.taken)

    ends_with : (turn : Option (Result Flow Error)) (left new : I × V) (all : List Item)
        → coming left.0 ≡ Some all → TakesTurn yields step left turn new
        → (more : List Item) × (coming new.0 ≡ Some more)
        × TakesTurn YieldsFirst step (all, left.1) turn (more, new.1)
    ends_with None left new all is (none, same) =
        let (more, to, first) = rw is at (comes left.0 None new.0 none) in
        (more, to, (first, same))
    ends_with (Some (Ok flow)) left new all is (event, one) =
        let (more, to, first) = rw is at (comes left.0 (Some (Ok event)) new.0 one.given) in
        (more, to, (event, record { given = first; taken = one.taken }))
    ends_with (Some (Err error)) left new all is (fault, same) =
        let (more, to, first) = rw is at (comes left.0 (Some (Err error)) new.0 fault) in
        (more, to, (first, same))

    -- a visit hands over the first of the remaining items
    pub visits_known : (answer : Result Visited Error) (old new : I × V)
        → Visits yields step old answer new
        → VisitsKnown step (coming old.0, old.1) answer (coming new.0, new.1)
    visits_known answer old new visit = IfSome_then (coming old.0)
        (all_came old.0 visit.left.0 visit.events (given_all yields step old visit.left visit.events visit.handed))
        (λ all (rest, to, is).
        let (more, after, ended) = ends_with (last_turn answer) visit.left new rest to visit.ended in (
          more,
          after,
          record {
            events = visit.events;
            left = (rest, visit.left.1);
            items = is;
            taken = taken_all old visit.left visit.events visit.handed;
            wanted = wanted_more old visit.left visit.events visit.handed;
            ended = ended;
          },
        ))
