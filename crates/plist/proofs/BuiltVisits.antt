-- A value that is built from the events of a visit.
use Rattle.std.proofs.Common.{◌≡◌, inl, inr, List, [], ◌∷◌, ◌++◌, Option, None, Some, Result, Ok, Err, map, refl, sym, ap, ◌∙◌, subst, IfOk, IfErr}
use Rattle.std.proofs.iter.Next as it
use Rattle.std.proofs.lemmas.Option.{none-some, same_Some}
use Rattle.std.specs.Iterator.{Yields}
use Rattle.std.specs.declared.ops.ControlFlow.TheVariants.{Continue}
use Rattle.plist_base.specs.declared.error.Error.{Error}
use Rattle.plist_base.specs.declared.event.Event.{Event}
use Rattle.plist_base.specs.declared.visitor.Visited.{Visited}
use Rattle.plist_base.specs.declared.visitor.Visited.TheVariants.{Ended, Stopped}
use Rattle.plist_base.specs.Events.{PlainEvent, Item, event_of}
use Rattle.plist_base.specs.Faults.{Fault, fault_of}
use Rattle.plist_base.specs.Trees.{Tree}
use Rattle.plist_base.specs.Visits.{HandsOver, HandsOverAll, PlainItem, Visits, YieldsPlain, plain_item}
use Rattle.plist_base.proofs.Visits.{kept_all}
use Rattle.plist.specs.declared.collect.ValueVisitor.{ValueVisitor}
use Rattle.plist.specs.declared.value.Value.{Value}
use Rattle.plist.specs.Builder.{BuildsEvent, built_of}
use Rattle.plist.specs.Building.{IsUnfinished, complete_tree, nothing_built}
use Rattle.plist.specs.Collecting.{Collects, CollectsTo, IsBuiltFrom, RefusesOne, built_tree, item_by}
use Rattle.plist.specs.ValueTrees.{tree_of}
use Rattle.plist.proofs.BuilderItems.{TookAll, finished, refused-last, seen-more, took-more, took-none}

-- what contracts see of an item that a source yields
abbrev see : Result PlainEvent Error → Item
see = item_by (λ (event : PlainEvent). event)

module _ {I : Type 0} (yields : I → PlainItem → I → Type 0) where
  -- the events that were yielded so far were taken
  pub record HasTaken (first : I) (now : I × ValueVisitor) : Type 0 where
    pub taken : List (Result PlainEvent Error)
    pub gave : Yields yields first taken now.0
    pub holds : TookAll (map see taken) (built_of now.1.builder)
    pub fine : now.1.result ≡ Ok tt

  -- one more event is taken
  taken_next : (first : I) (now new : I × ValueVisitor) (event : PlainEvent) → HasTaken first now
      → HandsOver yields BuildsEvent now event (Continue tt) new → HasTaken first new
  taken_next first now new event here one = record {
    taken = here.taken ++ Ok event ∷ [];
    gave = it.Yields-more yields first here.taken now.0 (Ok event) new.0 here.gave one.given;
    holds = seen-more see here.taken (Ok event) (λ xs. TookAll xs (built_of new.1.builder))
        (took-more (map see here.taken) (Ok event) (built_of now.1.builder) (built_of new.1.builder)
        here.holds one.taken.0);
    fine = one.taken.1 ∙ here.fine;
  }

  -- all events that were handed over were taken
  taken_all : (old left : I × ValueVisitor) (events : List PlainEvent)
      → built_of old.1.builder ≡ nothing_built → old.1.result ≡ Ok tt
      → HandsOverAll yields BuildsEvent old events left → HasTaken old.0 left
  taken_all old left events empty fine handed = kept_all yields BuildsEvent (HasTaken old.0)
      (λ now new event here one. taken_next old.0 now new event here one) old left events
      (record {
        taken = [];
        gave = refl;
        holds = took-none (built_of old.1.builder) empty;
        fine = fine;
      }) handed

  module _ (old new : I × ValueVisitor) (empty : built_of old.1.builder ≡ nothing_built)
      (fine : old.1.result ≡ Ok tt) where
    -- if the builder rejected no event, the result is that of the builder after the last event
    pub collected_end : (value : Result Value Error) (visited : Visited)
        → Visits yields BuildsEvent old (Ok visited) new → new.1.result ≡ Ok tt
        → IfOk value (λ v. complete_tree (built_of new.1.builder).unfinished ≡ Some (tree_of v))
        → IfErr value (λ error. IsUnfinished (built_of new.1.builder) (fault_of error))
        → CollectsTo (λ (event : PlainEvent). event) yields old.0 (built_tree value) new.0
    collected_end value Stopped visit works complete unfinished =
        let rejected = visit.ended.1.taken.1 in absurd (cc (rejected, works))
    collected_end value Ended visit works complete unfinished =
        let all = taken_all old visit.left visit.events empty fine visit.handed in (
          all.taken,
          visit.left.0,
          all.gave,
          finished (new.0 ≡ visit.left.0)
              (yields visit.left.0 None new.0) (map see all.taken) (built_of new.1.builder) value
              visit.ended.0 (subst (λ (v : ValueVisitor). TookAll (map see all.taken) (built_of v.builder))
              (sym visit.ended.1) all.holds) complete unfinished,
        )

    -- the builder rejected the last event with this error
    pub collected_stop : (error : Error) (visited : Visited)
        → Visits yields BuildsEvent old (Ok visited) new → new.1.result ≡ Err error
        → CollectsTo (λ (event : PlainEvent). event) yields old.0 (Err (fault_of error)) new.0
    collected_stop error Ended visit is =
        let all = taken_all old visit.left visit.events empty fine visit.handed in
        let same = ap (λ (v : ValueVisitor). v.result) visit.ended.1 in
        absurd (cc (all.fine, same, is))
    collected_stop error Stopped visit is =
        let all = taken_all old visit.left visit.events empty fine visit.handed in
        let (event, one) = visit.ended in
        let (given, was, refused) = one.taken in
        let same : given ≡ error = cc (was, is) in
        let ends = yields new.0 None new.0 in (
          all.taken ++ Ok event ∷ [],
          new.0,
          it.Yields-more yields old.0 all.taken visit.left.0 (Ok event) new.0 all.gave one.given,
          seen-more see all.taken (Ok event)
              (λ xs. IsBuiltFrom (new.0 ≡ new.0) ends xs (Err (fault_of error)))
              (refused-last (new.0 ≡ new.0) ends (map see all.taken) (Ok event)
              (built_of visit.left.1.builder) (fault_of error) refl all.holds
              (subst (λ e. RefusesOne (built_of visit.left.1.builder).unfinished (Ok event)
              (fault_of e)) same (refused all.holds.2))),
        )

    -- an error replaced an event
    pub collected_error : (error : Error) → Visits yields BuildsEvent old (Err error) new
        → CollectsTo (λ (event : PlainEvent). event) yields old.0 (Err (fault_of error)) new.0
    collected_error error visit =
        let all = taken_all old visit.left visit.events empty fine visit.handed in
        let ends = yields new.0 None new.0 in (
          all.taken ++ Err error ∷ [],
          new.0,
          it.Yields-more yields old.0 all.taken visit.left.0 (Err error) new.0 all.gave visit.ended.0,
          seen-more see all.taken (Err error)
              (λ xs. IsBuiltFrom (new.0 ≡ new.0) ends xs (Err (fault_of error)))
              (refused-last (new.0 ≡ new.0) ends (map see all.taken) (Err (fault_of error))
              (built_of visit.left.1.builder) (fault_of error) refl all.holds refl),
        )

-- ---- a source that is an iterator

-- an item is seen as what the source yields
seen_item : (given : Result Event Error) (item : Result PlainEvent Error)
    → Some item ≡ plain_item (Some given) → item_by event_of given ≡ see item
seen_item (Ok event) item is = sym (ap see (same_Some _ _ is))
seen_item (Err error) item is = sym (ap see (same_Some _ _ is))

-- a fact about the end of the items follows from another one
ends_as : (stops ends other : Type 0) (items : List Item) (answer : Result Tree Fault)
    → (ends → other) → IsBuiltFrom stops ends items answer → IsBuiltFrom stops other items answer
ends_as stops ends other items (Ok tree) follows (events, whole, is, end, alike, last) =
    (events, whole, is, follows end, alike, last)
ends_as stops ends other items (Err fault) follows (events, unfinished, nested, alike, inl error) =
    (events, unfinished, nested, alike, inl error)
ends_as stops ends other items (Err fault) follows
    (events, unfinished, nested, alike, inr (inl refused)) =
    (events, unfinished, nested, alike, inr (inl refused))
ends_as stops ends other items (Err fault) follows
    (events, unfinished, nested, alike, inr (inr (is, end, kind, none))) =
    (events, unfinished, nested, alike, inr (inr (is, follows end, kind, none)))

module _ {I : Type 0} (next_gives : I → Option (Result Event Error) → I → Type 0) where
  -- the items of the iterator that the source yielded
  record Given (iter left : I) (taken : List (Result PlainEvent Error)) : Type 0 where
    given : List (Result Event Error)
    gave : Yields next_gives iter given left
    seen : map (item_by event_of) given ≡ map see taken

  given_of : (iter left : I) (taken : List (Result PlainEvent Error))
      → Yields (YieldsPlain next_gives) iter taken left → Given iter left taken
  given_of iter left [] is = record { given = []; gave = is; seen = refl }
  given_of iter left (item ∷ taken) (next, (first, gives, is), more) =
      by first gives is (given_of next left taken more)
    where
      by : (first : Option (Result Event Error)) → next_gives iter first next
          → Some item ≡ plain_item first → Given next left taken → Given iter left (item ∷ taken)
      by None gives is others = absurd (none-some item (sym is))
      by (Some one) gives is others =
          record {
            given = one ∷ others.given;
            gave = (next, gives, others.gave);
            seen = cc (seen_item one item is, others.seen);
          }

  -- the source ends where the iterator does
  end_of : (left after : I) → YieldsPlain next_gives left None after → next_gives left None after
  end_of left after (None, gives, is) = gives
  end_of left after (Some (Ok event), gives, is) = absurd (none-some _ is)
  end_of left after (Some (Err error), gives, is) = absurd (none-some _ is)

  -- a value that is built from what the source yields is built from the iterator's items
  pub collects_items : (iter : I) (answer : Result Tree Fault)
      → Collects (λ (event : PlainEvent). event) (YieldsPlain next_gives) iter answer
      → Collects event_of next_gives iter answer
  collects_items iter answer (after, (taken, left, gave, built)) =
      let items = given_of iter left taken gave in (
        after,
        (
          items.given,
          left,
          items.gave,
          ends_as (after ≡ left)
              (YieldsPlain next_gives left None after) (next_gives left None after)
              (map (item_by event_of) items.given) answer (end_of left after)
              (subst (λ xs. IsBuiltFrom (after ≡ left) (YieldsPlain next_gives left None after) xs answer)
              (sym items.seen) built),
        ),
      )
