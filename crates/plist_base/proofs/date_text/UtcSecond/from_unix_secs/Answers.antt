use Rattle.std.proofs.Common.{◌≡◌, ℤ, ◌<◌, ◌∙◌, ◌≤ℤ◌, ◌<ℤ◌, pos, refl, arith, rules, FitsSigned, w16, w64}
use Rattle.std.specs.Int.{int_div_euclid, int_rem_euclid}
use Rattle.std.proofs.lemmas.Int.{ints, to_z-of_z}
use Rattle.jiff_core.proofs.SignedLemmas.{signed_arith, int_div_euclid-parts, int_rem_euclid-parts}
use Rattle.jiff_core.specs.Date.{epoch_day}
use Rattle.plist_base.proofs.DatePrinting.{before_years, in_years, on_day, printed}
use Rattle.plist_base.proofs.OneDateText.{one_text, year_of_text}
use Rattle.plist_base.proofs.date_text.UtcSecond.from_unix_secs.Goals as goal
use Rattle.plist_base.proofs.date_text.UtcSecond.from_unix_secs.Goals.{In-Ok}

day_fits : (second day : ℤ) → FitsSigned w64 second → day ≡ int_div_euclid second (pos 86400)
    → FitsSigned w64 day
day_fits second day fits is =
    omega (arith, signed_arith, is, int_div_euclid-parts second 86400 (omega arith), fits)

-- the date is that of the second's day
date_of_second : (c : In-Ok) → epoch_day c.in-Ok.date ≡ int_div_euclid c.args.second (pos 86400)
date_of_second c =
    let second_fits : FitsSigned w64 c.args.second = search rules in
    let div : c.div_euclid.result ≡ int_div_euclid c.args.second (pos 86400) = simp to_z-of_z at
    c.div_euclid.ensures in
    let fits = day_fits _ _ second_fits div in
    (simp to_z-of_z at c.in-Ok.ensures.value) ∙ div

pub returns-in-Ok-clause-year : goal.returns-in-Ok-clause-year
returns-in-Ok-clause-year c =
    let date = c.in-Ok.date in
    let year_fits : FitsSigned w16 date.year = omega (arith, signed_arith, date.year_in) in
    let test = simp to_z-of_z at c.if-date-ge0.true in
    let later : pos 0 ≤ℤ date.year = omega (arith, signed_arith, test) in (
      λ _. in_years _ date (date_of_second (goal.at.returns-in-Ok-clause-year c).In-Ok) later,
      λ _. refl,
    )

pub returns-in_default-clause-year : goal.returns-in_default-clause-year
returns-in_default-clause-year c =
    let date = c.in-Ok.date in
    let year_fits : FitsSigned w16 date.year = omega (arith, signed_arith, date.year_in) in
    let test = simp to_z-of_z at c.if-date-ge0.false in
    let earlier : date.year <ℤ pos 0 = omega (arith, signed_arith, test) in (
      λ h. cc h,
      λ inside. absurd (before_years _ date
          (date_of_second (goal.at.returns-in_default-clause-year c).In-Ok) earlier inside),
    )

pub returns-in-Ok-clause-text : goal.returns-in-Ok-clause-text
returns-in-Ok-clause-text c =
    let date = c.in-Ok.date in
    let parts = int_rem_euclid-parts c.args.second 86400 (omega arith) in
    let second_fits : FitsSigned w64 c.args.second = search rules in
    let rem : c.rem_euclid.result ≡ int_rem_euclid c.args.second (pos 86400) = simp to_z-of_z at
    c.rem_euclid.ensures.value in
    let rem_fits : FitsSigned w64 c.rem_euclid.result = omega (arith, signed_arith, rem, parts) in
    let time = simp to_z-of_z at c.unsigned_abs-second.ensures.value in
    let of_day : pos c.unsigned_abs-second.result ≡ int_rem_euclid c.args.second (pos 86400) = omega
    (arith, signed_arith, ints, time, rem, parts) in
    let year_fits : FitsSigned w16 date.year = omega (arith, signed_arith, date.year_in) in
    let test = simp to_z-of_z at c.if-date-ge0.true in
    let year = simp to_z-of_z at c.unsigned_abs-year.ensures.value in
    let same : pos c.unsigned_abs-year.result ≡ date.year = omega
    (arith, signed_arith, ints, year, test) in
    let below : c.unsigned_abs-second.result < 86400 = omega (arith, signed_arith, of_day, parts) in
    on_day c.args.second _ c.unsigned_abs-second.result _
    (date_of_second (goal.at.returns-in-Ok-clause-text c).In-Ok) of_day
    (printed date _ _ same (omega (arith, signed_arith, date.year_in.1, same)) below)

pub returns-in-Ok-clause-only : goal.returns-in-Ok-clause-only
returns-in-Ok-clause-only c =
    λ other is. one_text _ _ _ (returns-in-Ok-clause-text c) is

pub returns-in_default-clause-only : goal.returns-in_default-clause-only
returns-in_default-clause-only c =
    λ other is. let has = (returns-in_default-clause-year c).1 (year_of_text _ _ is)
    in cc
