use Rattle.plist.specs.ValueTrees.{pairs_of}
use Rattle.plist.proofs.Equality.{ItemsLeft, PairsLeft}
use Rattle.plist.proofs.equal.DeferredPairs.+same.Given as goal

abbrev pub invariant-compare_items-loop-i : goal.invariant-compare_items-loop-i
invariant-compare_items-loop-i l =
    ItemsLeft l.items.items l.others.items l.initial.self l.i l.self

abbrev pub invariant-compare_pairs-loop-i : goal.invariant-compare_pairs-loop-i
invariant-compare_pairs-loop-i l =
    PairsLeft (pairs_of l.pairs) (pairs_of l.others) l.initial.self l.i l.self
