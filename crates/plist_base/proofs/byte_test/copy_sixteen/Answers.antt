use Rattle.plist_base.proofs.ByteBlocks.{copies_more}
use Rattle.plist_base.proofs.byte_test.copy_sixteen.Goals as goal

pub returns-clause-copied : goal.returns-clause-copied
returns-clause-copied g c = λ _.
    copies_more g.T.ByteTest.passes c.args.bytes.now c.args.target.now c.args.at 16
    c.requires.within c.requires.same c.requires.before (c.sixteen.ensures c.if-not-sixteen.false)
