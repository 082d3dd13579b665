use Rattle.plist_base.proofs.Utf16Blocks.{block_of}
use Rattle.plist_base.proofs.utf16.ascii_block.Goals as goal

pub returns-then-not_zero-not_ascii-eq0 : goal.returns-then-not_zero-not_ascii-eq0
returns-then-not_zero-not_ascii-eq0 c =
    block_of c.args.units.now c.requires c.if-not_zero-not_ascii-eq0.true
