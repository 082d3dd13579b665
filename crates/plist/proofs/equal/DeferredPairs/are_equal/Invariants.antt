use Rattle.std.proofs.Common.{◌≡◌}
use Rattle.plist.specs.inner.DeferredPairs.{are_same, to_compare, waiting}
use Rattle.plist.proofs.equal.DeferredPairs.are_equal.Given as goal

abbrev pub invariant-loop-pair : goal.invariant-loop-pair
invariant-loop-pair l = are_same (waiting l.self) ≡ are_same (waiting l.initial.self)

abbrev pub decreases-loop-pair : goal.decreases-loop-pair
decreases-loop-pair l = to_compare (waiting l.self)
