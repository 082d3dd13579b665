use Rattle.std.proofs.Common.{◌≡◌, ◌∙◌, true, Some, sym, ap, arith, rules, FitsSigned, w32}
use Rattle.std.proofs.lemmas.Int.{ints, to_z-of_z}
use Rattle.jiff_core.proofs.SignedLemmas.{signed_arith}
use Rattle.plist_base.specs.UnixSeconds.{day_in, has_separators, time_in, zone_in}
use Rattle.plist_base.proofs.DatePrinting.{spelled}
use Rattle.plist_base.proofs.date_text.unix_second_of_text.Goals as goal

pub returns : goal.returns
returns c =
    let text = c.args.text.now in
    let days = c.in_ok-day.ensures.bound in
    let times = c.in_ok-time.ensures.bound in
    let zones = c.in_ok-zone.ensures.bound in
    let day_fits : FitsSigned w32 c.in_ok-day.day = omega (arith, signed_arith, days) in
    let zone_fits : FitsSigned w32 c.in_ok-zone.zone = omega (arith, signed_arith, zones) in
    let from_day = simp to_z-of_z at c.from.ensures in
    let from_zone = simp to_z-of_z at c.from-3.ensures in
    let day : day_in text ≡ Some c.in_ok-day.day = search rules in
    let time : time_in text ≡ Some c.in_ok-time.time = search rules in
    let zone : zone_in text ≡ Some c.in_ok-zone.zone = search rules in
    let marks : has_separators text ≡ true = search rules in
    record {
      is = ap Some (omega (arith, ints, from_day, c.from-2.ensures, from_zone, days, times, zones))
          ∙ sym (spelled _ _ _ _ marks day time zone);
    }
