use Rattle.std.proofs.Common.{arith}
use Rattle.plist_base.proofs.Utf16Shares.{from_fewer, shares_from}
use Rattle.plist_base.proofs.utf16.eight_shares.Goals as goal

pub overflow_sub-surrogates : goal.overflow_sub-surrogates
overflow_sub-surrogates c = omega (
  arith,
  from_fewer c.args.units,
  c.count_from-3.ensures,
  c.count_from-4.ensures,
)

pub returns-clause-value : goal.returns-clause-value
returns-clause-value c = omega (
  arith,
  from_fewer c.args.units,
  shares_from c.args.units,
  c.fits-units.0,
  c.count_from.ensures,
  c.count_from-2.ensures,
  c.count_from-3.ensures,
  c.count_from-4.ensures,
)
