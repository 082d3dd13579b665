use Rattle.plist_base.proofs.ByteBlocks.{copies_more}
use Rattle.plist_base.proofs.byte_test.copy_eight.Goals as goal

pub returns-clause-copied : goal.returns-clause-copied
returns-clause-copied g c = λ _.
    copies_more g.T.ByteTest.passes c.args.bytes.now c.args.target.now c.args.at 8
    c.requires.within c.requires.same c.requires.before (c.eight.ensures c.if-not-eight.false)
