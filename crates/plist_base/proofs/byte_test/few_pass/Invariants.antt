use Rattle.std.proofs.Common.{take}
use Rattle.plist_base.specs.ByteTests.{EachByte}
use Rattle.plist_base.proofs.byte_test.few_pass.Given as goal

abbrev pub invariant-loop-byte : goal.invariant-loop-byte
invariant-loop-byte g l = EachByte g.T.ByteTest.passes (take l.byte-index l.bytes)
