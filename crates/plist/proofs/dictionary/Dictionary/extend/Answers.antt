use Rattle.std.proofs.Common.{◌∙◌, subst, sym, String, Global}
use Rattle.std.proofs.lemmas.Result.{err_from_is_err_and}
use Rattle.std.proofs.iter.Next as it
use Rattle.plist_pairs.specs.Bulk.{ExtendsBy}
use Rattle.plist_pairs.proofs.Inserts.{inserted-more}
use Rattle.plist.specs.declared.value.Value.{Value}
use Rattle.plist.specs.ValueTrees.{pairs_of}
use Rattle.plist.proofs.dictionary.Dictionary.extend.Goals as goal

pub loop-key-preserved : goal.loop-key-preserved
loop-key-preserved g c =
    let kept = c.loop-key.invariant in
    let row : String Global × Value = (c.in-Some.key, c.in-Some.value) in
    it.again kept row c.in-Some.is (c.next.ensures.steps, c.next.ensures.goes)
    (inserted-more (pairs_of c.args.self.now) (pairs_of c.loop-key.self) (pairs_of c.set.new.self)
    kept.seen row kept.holds c.in_ok-set.ensures.pairs)

pub returns-in_err-set-clause-pairs : goal.returns-in_err-set-clause-pairs
returns-in_err-set-clause-pairs g c =
    let kept = c.loop-key.invariant in
    let row : String Global × Value = (c.in-Some.key, c.in-Some.value) in
    let gave = it.Yields-more g.I.IntoIter.Iterator.next_gives c.into_iter-rest.result kept.seen
    c.loop-key.rest row c.next.new.self kept.gave
    (it.said g.I.IntoIter.Iterator.next_gives c.in-Some.is c.next.ensures.steps) in
    let refused = err_from_is_err_and c.from_residual.result c.from_residual.ensures.1 in (
      c.into_iter-rest.result,
      c.into_iter-rest.ensures.into_iter_gives,
      subst (λ r. ExtendsBy g.I.IntoIter.Iterator.next_gives c.into_iter-rest.result
          (pairs_of c.args.self.now) r (pairs_of c.set.new.self)) (sym refused.1) (
            kept.seen,
            row,
            (c.next.new.self, gave),
            c.in_err-set.ensures.unchanged ∙ kept.holds,
            rw c.in_err-set.ensures.unchanged c.in_err-set.ensures.absent,
          ),
    )
