use Rattle.std.proofs.Common.{arith}
use Rattle.plist_base.proofs.Utf16Units.{next_lone}
use Rattle.plist_base.proofs.utf16.char_at.Goals as goal

pub returns : goal.returns
returns c =
    let unit = c.unit_at-unit.ensures.value in
    rw (c.from_u32_unchecked.ensures, unit)
    (next_lone _ c.args.at c.requires (omega (arith, unit, c.unit_at-unit.ensures.small))
    (grind (arith, unit, c.else-unit-ge55296.either)))
