use Rattle.std.proofs.Common.{◌≡◌, ◌-◌, length}
use Rattle.plist_base.specs.ByteTests.{CopiesPassing}
use Rattle.plist_base.proofs.byte_test.copy_many.Given as goal

abbrev pub decreases-loop-at : goal.decreases-loop-at
decreases-loop-at g l = l.last - l.at

abbrev pub invariant-loop-at : goal.invariant-loop-at
invariant-loop-at g l = record {
  front : CopiesPassing g.T.ByteTest.passes l.at l.bytes l.target;
  size : length l.target ≡ length l.initial.target;
}
