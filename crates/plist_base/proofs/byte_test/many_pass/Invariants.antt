use Rattle.std.proofs.Common.{◌-◌, take}
use Rattle.plist_base.specs.ByteTests.{EachByte}
use Rattle.plist_base.proofs.byte_test.many_pass.Given as goal

abbrev pub decreases-loop-at : goal.decreases-loop-at
decreases-loop-at g l = l.last - l.at

abbrev pub invariant-loop-at : goal.invariant-loop-at
invariant-loop-at g l = EachByte g.T.ByteTest.passes (take l.at l.bytes)
