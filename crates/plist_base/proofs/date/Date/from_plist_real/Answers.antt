use Rattle.std.proofs.Common.{refl}
use Rattle.plist_base.specs.Date.{second_of_bits, real_second, real_exponent, real_mantissa, real_scale, whole_seconds, parts_left, parts_of, parts_in_second}
use Rattle.plist_base.proofs.DateRounding.{zeros_small}
use Rattle.plist_base.proofs.date.Date.from_plist_real.Goals as goal

pub invariant_of-result : goal.invariant_of-result
unfolding second_of_bits real_second real_exponent real_mantissa real_scale whole_seconds parts_left
    parts_of parts_in_second
invariant_of-result c = ((refl, zeros_small 8), refl)
