use Rattle.std.proofs.Common.{arith, length, ◌-◌}
use Rattle.plist_base.proofs.ByteBlocks.{each_covered}
use Rattle.plist_base.proofs.byte_test.all_pass.Goals as goal

pub returns-then-eight : goal.returns-then-eight
returns-then-eight g c = λ both.
    each_covered g.T.ByteTest.passes c.args.bytes.now (length c.args.bytes.now - 8) 8 8
    (omega arith) (omega arith) (c.eight.ensures c.if-eight.true)
    (c.eight-then-eight.ensures both)
