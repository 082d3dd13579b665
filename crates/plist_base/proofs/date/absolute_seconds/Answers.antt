use Rattle.std.proofs.Common.{◌≡◌, ◌<◌, ◌^◌, arith}
use Rattle.std.proofs.lemmas.Bool.Decides.{nat_tests}
use Rattle.plist_base.specs.Date.{real_exponent, real_mantissa, real_scale}
use Rattle.plist_base.proofs.DateShifts.{parts_near}
use Rattle.plist_base.proofs.date.absolute_seconds.Goals as goal
use Rattle.plist_base.proofs.date.absolute_seconds.Goals.{then-exponent-eq0, else-exponent-eq0}

pub returns-clause-near : goal.returns-clause-near
unfolding real_exponent real_mantissa real_scale
returns-clause-near c =
    let mantissa : (c.if-exponent-eq0.mantissa ≡ real_mantissa c.args.bits)
    × (c.if-exponent-eq0.mantissa < 2 ^ 53) =
    elim c.if-exponent-eq0.branch [
      | then-exponent-eq0 w ↦ (grind (arith, nat_tests), omega arith)
      | else-exponent-eq0 w ↦ (grind (arith, nat_tests), omega arith)
    ] in
    let scale : c.max.result ≡ real_scale c.args.bits = omega arith in
    parts_near c.args.bits c.if-exponent-eq0.mantissa c.max.result c.min-shift.result
    mantissa.0 scale mantissa.1 (omega arith) (omega arith) (omega arith) (grind arith)
