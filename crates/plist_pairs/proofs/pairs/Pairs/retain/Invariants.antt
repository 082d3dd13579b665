use Rattle.plist_pairs.specs.Bulk.{AnswersAtPair}
use Rattle.plist_pairs.proofs.RetainLoop.{KeptSoFar}
use Rattle.plist_pairs.proofs.pairs.Pairs.retain.Given as goal

abbrev pub invariant-loop-i : goal.invariant-loop-i
invariant-loop-i g l = KeptSoFar (AnswersAtPair g.F.Fn l.keep) l.initial.self l.self l.i l.kept
