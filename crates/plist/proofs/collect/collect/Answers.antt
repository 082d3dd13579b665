use Rattle.std.proofs.Common.{◌≡◌, [], ◌∷◌, ◌++◌, map, None, Err, refl, sym, subst}
use Rattle.std.proofs.iter.Next as it
use Rattle.std.proofs.lemmas.Result.{err_from_is_err_and}
use Rattle.plist_base.specs.Faults.{fault_of}
use Rattle.plist.specs.Builder.{built_of}
use Rattle.plist.specs.Collecting.{Collects, IsBuiltFrom, RefusesOne, TakesOne, built_tree, item_by}
use Rattle.plist.proofs.BuilderItems.{TookAll, took-none, took-more, refused-last, finished, seen-more}
use Rattle.plist.proofs.PredictedItems.{as-seen}
use Rattle.plist.proofs.collect.collect.Goals as goal

pub loop-item-init : goal.loop-item-init
loop-item-init g c =
    it.begun c.requires.can c.requires.ends
    (took-none _ c.new-builder.ensures)

pub loop-item-preserved : goal.loop-item-preserved
loop-item-preserved g c =
    let kept = c.loop-item.invariant in
    let see = item_by g.E.AnyEvent.plain in
    let now = built_of c.write_to.new.builder in
    it.again kept c.in-Some.item c.in-Some.is (c.next.ensures.steps, c.next.ensures.goes)
    (seen-more see kept.seen c.in-Some.item (λ xs. TookAll xs now)
    (took-more (map see kept.seen) (see c.in-Some.item) (built_of c.loop-item.builder) now
    kept.holds (subst (λ item. TakesOne (built_of c.loop-item.builder) (see item) now)
    (sym c.in_ok-item.was) c.in_ok-write_to.ensures.taken)))

pub returns-in_err-item : goal.returns-in_err-item
returns-in_err-item g c =
    let kept = c.loop-item.invariant in
    let see = item_by g.E.AnyEvent.plain in
    let item = c.in-Some.item in
    let fault = fault_of c.in_err-item.field-0.0 in
    let left = c.next.new.self in
    let ends = g.I.Iterator.next_gives left None left in
    let gave = it.Yields-more g.I.Iterator.next_gives c.args.items kept.seen c.loop-item.rest item
    left kept.gave (it.said g.I.Iterator.next_gives c.in-Some.is c.next.ensures.steps) in
    let refused = subst (λ it. RefusesOne (built_of c.loop-item.builder).unfinished (see it) fault)
    (sym c.in_err-item.was) refl in
    let value : Collects g.E.AnyEvent.plain g.I.Iterator.next_gives c.args.items (Err fault) = (
      left,
      (
        kept.seen ++ item ∷ [],
        left,
        gave,
        seen-more see kept.seen item (λ xs. IsBuiltFrom (left ≡ left) ends xs (Err fault))
            (refused-last (left ≡ left) ends (map see kept.seen) (see item)
            (built_of c.loop-item.builder) fault refl kept.holds refused),
      ),
    ) in
    let f = err_from_is_err_and c.from_residual.result c.from_residual.ensures.1 in
    rw (f.1, f.2) record {
      value = value;
      shown = λ coming shows. as-seen _ _ coming shows _ (Err fault) value;
    }

pub returns-in_err-write_to : goal.returns-in_err-write_to
returns-in_err-write_to g c =
    let kept = c.loop-item.invariant in
    let see = item_by g.E.AnyEvent.plain in
    let item = c.in-Some.item in
    let fault = fault_of c.in_err-write_to.field-0.0 in
    let left = c.next.new.self in
    let ends = g.I.Iterator.next_gives left None left in
    let gave = it.Yields-more g.I.Iterator.next_gives c.args.items kept.seen c.loop-item.rest item
    left kept.gave (it.said g.I.Iterator.next_gives c.in-Some.is c.next.ensures.steps) in
    let refused = subst (λ it. RefusesOne (built_of c.loop-item.builder).unfinished (see it) fault)
    (sym c.in_ok-item.was) c.in_err-write_to.ensures.refused in
    let value : Collects g.E.AnyEvent.plain g.I.Iterator.next_gives c.args.items (Err fault) = (
      left,
      (
        kept.seen ++ item ∷ [],
        left,
        gave,
        seen-more see kept.seen item (λ xs. IsBuiltFrom (left ≡ left) ends xs (Err fault))
            (refused-last (left ≡ left) ends (map see kept.seen) (see item)
            (built_of c.loop-item.builder) fault refl kept.holds refused),
      ),
    ) in
    let f = err_from_is_err_and c.from_residual-in_err-write_to.result
    c.from_residual-in_err-write_to.ensures.1 in
    rw (f.1, f.2) record {
      value = value;
      shown = λ coming shows. as-seen _ _ coming shows _ (Err fault) value;
    }

pub returns : goal.returns
returns g c =
    let kept = c.loop-item.invariant in
    let left = c.loop-item.rest in
    let after = c.next.new.self in
    let value : Collects g.E.AnyEvent.plain g.I.Iterator.next_gives c.args.items
    (built_tree c.finish.result) = (
      after,
      (
        kept.seen,
        left,
        kept.gave,
        finished (after ≡ left) (g.I.Iterator.next_gives left None after)
            (map (item_by g.E.AnyEvent.plain) kept.seen) (built_of c.loop-item.builder)
            c.finish.result (it.said g.I.Iterator.next_gives c.in_default.is c.next.ensures.steps)
            kept.holds c.finish.ensures.complete c.finish.ensures.refused,
      ),
    ) in record {
      value = value;
      shown = λ coming shows. as-seen _ _ coming shows _ (built_tree c.finish.result) value;
    }
