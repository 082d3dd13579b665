use Rattle.std.proofs.Common.{arith, length, ◌-◌}
use Rattle.plist_base.proofs.ByteBlocks.{copies_fewer}
use Rattle.plist_base.proofs.byte_test.copy_passing.Goals as goal

pub copy_eight-requires-then-bytes-ge8-clause-before :
    goal.copy_eight-requires-then-bytes-ge8-clause-before
copy_eight-requires-then-bytes-ge8-clause-before g c =
    copies_fewer g.T.ByteTest.passes c.args.bytes.now c.copy_eight.new.target
    (length c.args.bytes.now - 8) 8 (omega arith) (c.copy_eight.ensures.copied c.if-not-copy_eight.false)
