use Rattle.std.proofs.Common.{rules, ap, ◌≡◌, ◌∙◌, ◌+◌, ◌*◌, pos, neg_ℤ, sym, Some, arith}
use Rattle.std.proofs.lemmas.Int.{ints}
use Rattle.plist_base.specs.UnixSeconds.{zone_in}
use Rattle.plist_base.proofs.date_text.zone_in.Goals as goal

pub returns-in-45-clause-is : goal.returns-in-45-clause-is
returns-in-45-clause-is c =
    let behind = neg_ℤ (pos (c.in_ok-hours.hours * 3600 + c.in_ok-minutes.minutes * 60)) in
    let zone : zone_in c.args.text.now ≡ Some behind = search rules in
    ap Some {y = behind} (omega (arith, ints, c.from.ensures, c.from-2.ensures)) ∙ sym zone
