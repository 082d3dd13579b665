use Rattle.std.proofs.Common.{◌≡◌, length}
use Rattle.plist_base.specs.ByteTests.{CopiesPassing}
use Rattle.plist_base.proofs.byte_test.copy_few.Given as goal

abbrev pub invariant-loop-index : goal.invariant-loop-index
invariant-loop-index g l = record {
  front : CopiesPassing g.T.ByteTest.passes l.index l.bytes l.target;
  size : length l.target ≡ length l.initial.target;
}
