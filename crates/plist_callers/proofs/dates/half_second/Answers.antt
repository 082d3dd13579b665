use Rattle.std.proofs.Common.{refl, rules}
use Rattle.plist_base.specs.Date.{has_fraction, parts_in_second, parts_left, parts_of, real_exponent, real_mantissa, real_scale, real_second, second_of_bits, whole_seconds}
use Rattle.plist_callers.proofs.dates.half_second.Goals as goal

pub returns-in-Ok : goal.returns-in-Ok
unfolding has_fraction parts_in_second parts_left parts_of real_exponent real_mantissa real_scale
returns-in-Ok c = c.to_xml_format.ensures.fraction (rw c.in-Ok.ensures.bytes refl)

pub returns-in-Err : goal.returns-in-Err
unfolding second_of_bits real_second real_exponent real_mantissa real_scale whole_seconds
    parts_left parts_of parts_in_second
returns-in-Err c = search rules
