use Rattle.std.proofs.Common.{arith}
use Rattle.plist_base.proofs.Utf16Blocks.{block_chars, block_paired}
use Rattle.plist_base.proofs.utf16.Utf16Chars.next_eight_ascii.Goals as goal

pub invariant_of-self-clause-paired : goal.invariant_of-self-clause-paired
invariant_of-self-clause-paired c =
    let chars = c.args.self.now in
    block_paired _ _ c.in_ok-block.block
    (block_chars chars.bytes.now chars.at c.in_ok-block.block (omega (arith, c.if-self-lt8.false))
    c.in_ok-block.ensures) chars.paired
