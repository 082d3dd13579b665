use Rattle.std.proofs.Common.{rules, ◌≡◌, List, ℕ, string_bytes, refl, subst, swap, arith}
use Rattle.plist_pairs.specs.Bulk.{AnswersAtPair}
use Rattle.plist_pairs.proofs.PairColumns.{columns}
use Rattle.plist_pairs.proofs.RetainLoop.{kept-all, step-one, step-other}
use Rattle.plist_pairs.proofs.pairs.Pairs.retain.Goals.{then-keep, else-keep}
use Rattle.plist_pairs.proofs.pairs.Pairs.retain.Goals as goal

pub loop-i-preserved : goal.loop-i-preserved
loop-i-preserved g c =
    let A = AnswersAtPair g.F.Fn c.args.keep in
    let l = c.loop-i in
    let x : List ℕ × _ = (string_bytes c.pair_at.result.0.now, c.pair_at.result.1.now) in
    let answered : A x c.keep.result = record {
      key = c.pair_at.result.0;
      value = c.pair_at.result.1;
      shows = (refl, refl);
      says = c.keep.ensures;
    } in
    elim c.if-keep.branch [
      | then-keep w ↦
          let moved : c.if-keep.self ≡ swap l.self l.kept l.i = search (rules, columns, w.self-is) in
          step-one A c.args.self.now l.self c.if-keep.self l.i l.kept x l.invariant
          c.pair_at.ensures c.if-keep.kept (subst (A x) w.if-keep.true answered) moved w.kept-is
      | else-keep w ↦ step-other A c.args.self.now l.self c.if-keep.self l.i l.kept x l.invariant
          c.pair_at.ensures c.if-keep.kept (subst (A x) w.if-keep.false answered) w.self-is
          w.kept-is
    ]

pub returns : goal.returns
returns g c =
    let l = c.loop-i in
    record {
      kept = kept-all (AnswersAtPair g.F.Fn c.args.keep) c.args.self.now l.self c.truncate.new.self
          l.i l.kept l.invariant (omega arith)
          c.truncate.ensures;
    }
