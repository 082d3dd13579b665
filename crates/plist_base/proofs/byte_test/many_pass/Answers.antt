use Rattle.std.proofs.Common.{arith}
use Rattle.plist_base.proofs.ByteBlocks.{each_covered, each_more}
use Rattle.plist_base.proofs.byte_test.many_pass.Goals as goal

pub loop-at-preserved : goal.loop-at-preserved
loop-at-preserved g c =
    each_more g.T.ByteTest.passes c.args.bytes.now c.loop-at.at 16 (omega (arith, c.requires))
    c.loop-at.invariant (c.sixteen.ensures c.if-not-sixteen.false)

pub returns : goal.returns
returns g c = λ last.
    each_covered g.T.ByteTest.passes c.args.bytes.now _ 16 c.loop-at.at (omega arith)
    (omega (arith, c.requires)) c.loop-at.invariant (c.sixteen-2.ensures last)
