use Rattle.std.proofs.Common.{arith}
use Rattle.plist_base.proofs.Utf16Shares.{ones_from}
use Rattle.plist_base.proofs.utf16.count_from.Goals as goal

pub returns : goal.returns
returns c = ones_from c.args.least 8 c.args.units (omega arith) c.fits-units.0
