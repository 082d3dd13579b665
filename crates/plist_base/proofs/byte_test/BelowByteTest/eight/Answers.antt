use Rattle.std.proofs.Common.{arith}
use Rattle.plist_base.proofs.ByteBlocks.{each_below}
use Rattle.plist_base.proofs.byte_test.BelowByteTest.eight.Goals as goal

pub returns : goal.returns
returns g c = each_below 8 g.row.LIMIT c.args.bytes (omega arith) c.fits-bytes.0
