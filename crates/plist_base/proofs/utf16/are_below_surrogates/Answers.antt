use Rattle.std.proofs.Common.{arith, refl}
use Rattle.plist_base.proofs.ByteBlocks.{each_below}
use Rattle.plist_base.proofs.Utf16Blocks.{at_evens, first_bytes}
use Rattle.plist_base.proofs.utf16.are_below_surrogates.Goals as goal

pub returns : goal.returns
returns c = λ none k below.
    let units = c.args.units.now in
    let less = each_below 8 0xd8 (first_bytes units) (omega arith) refl none k below in
    omega (arith, at_evens units c.requires k below, less)
