use Rattle.std.proofs.Common.{◌≡◌, take}
use Rattle.plist.specs.ValueTrees.{pairs_of, tree_pairs}
use Rattle.plist.proofs.dictionary.Dictionary.clone.Given as goal

abbrev pub invariant-loop-i : goal.invariant-loop-i
invariant-loop-i l = tree_pairs (pairs_of l.copies) ≡ take l.i (tree_pairs (pairs_of l.self))
