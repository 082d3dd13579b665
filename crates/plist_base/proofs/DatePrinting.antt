-- What is printed for a second in UTC is parsed as that second. A second is in the years 0 to 9999
-- if its day is.
use Rattle.std.proofs.Common.{◌≡◌, ℕ, ℤ, pos, ◌+ℤ◌, ◌*ℤ◌, ◌<ℤ◌, ◌≤ℤ◌, ◌<◌, inl, inr, refl, arith, ◌+◌, ◌*◌, ◌/◌, ◌%◌, true, List, [], ◌∷◌, ◌++◌, ◌-ℤ◌, Some, sym, ap, subst, ◌∙◌}
use Rattle.std.specs.Int.{int_div_euclid, int_rem_euclid, IsInRange}
use Rattle.jiff_core.specs.Calendar.{days_from_civil, IsEpochDay, days_in_month}
use Rattle.jiff_core.specs.Date.{epoch_day}
use Rattle.jiff_core.specs.declared.civil.date.Date.{Date}
use Rattle.jiff_core.proofs.SignedLemmas.{signed_arith, int_div_euclid-parts, int_rem_euclid-parts}
use Rattle.jiff_core.proofs.DateLemmas.{cases_date, epoch_day-lt, epoch_day_range, epoch_day_same, days_from_civil-max}
use Rattle.plist_base.specs.UnixSeconds.{HasFourDigitYear, day_in, day_number, has_separators, second_of_day, time_in, two_digits, unix_second_of_text, zone_in, IsTextOfSecond}
use Rattle.std.proofs.lemmas.Bool.{cases_lt}
use Rattle.std.proofs.lemmas.Fmt.{decimal_digit, decimal_step}
use Rattle.std.specs.Fmt.{padded_integral, char_count}
use Rattle.jiff_core.proofs.CalendarLemmas.{days_in_month_bounds}
use Rattle.plist_base.specs.UnixSeconds.{utc_text, two_digit_text}

-- 0000-01-01
first : Date
first = record {
  year = pos 0;
  month = 1;
  day = 1;
  year_in = (omega arith, omega arith);
  month_in =
      (omega arith, omega arith);
  day_in = (omega arith, omega arith);
}

abbrev first_day : ℤ
first_day = days_from_civil (pos 0) 1 1

first_is : epoch_day first ≡ first_day
unfolding first
first_is = refl

not_before : (date : Date) → pos 0 ≤ℤ date.year → first_day ≤ℤ epoch_day date
unfolding first
not_before date later =
    elim (cases_date date first) [
      | inl (inl year) ↦ absurd (omega (arith, signed_arith, year))
      | inl (inr (year, inl month)) ↦ absurd (omega (arith, date.month_in.0))
      | inl (inr (year, inr (month, day))) ↦ absurd (omega (arith, date.day_in.0))
      | inr (inl after) ↦ omega (arith, signed_arith, epoch_day-lt first date after)
      | inr (inr (year, month, day)) ↦ omega
          (arith, signed_arith, epoch_day_same date first year month day)
    ]

before : (date : Date) → date.year <ℤ pos 0 → epoch_day date <ℤ first_day
unfolding first
before date year = epoch_day-lt date first (inl year)

pub in_years : (second : ℤ) (date : Date) → epoch_day date ≡ int_div_euclid second (pos 86400)
    → pos 0 ≤ℤ date.year → HasFourDigitYear second
in_years second date is later =
    let low = not_before date later in
    let high = epoch_day_range date in
    let parts = int_div_euclid-parts second 86400 (omega arith) in
    (omega (arith, signed_arith, is), omega (arith, signed_arith, is, days_from_civil-max))

-- a second is in these years if its day is
pub second_in_years : (second : ℤ) (date : Date) (time : ℕ)
    → (epoch_day date *ℤ pos 86400 +ℤ pos time) ≡ second → time < 86400 → pos 0 ≤ℤ date.year
    → HasFourDigitYear second
second_in_years second date time is small later =
    let low = not_before date later in
    let high = epoch_day_range date in
    (omega (arith, signed_arith, is), omega (arith, signed_arith, is, days_from_civil-max))

pub before_years : (second : ℤ) (date : Date) → epoch_day date ≡ int_div_euclid second (pos 86400)
    → date.year <ℤ pos 0 → HasFourDigitYear second → ⊥
before_years second date is year inside =
    let low = before date year in
    let parts = int_div_euclid-parts second 86400 (omega arith) in
    omega (arith, signed_arith, is, inside.0)

pub day_of_years : (second : ℤ) → HasFourDigitYear second
    → IsEpochDay (int_div_euclid second (pos 86400))
day_of_years second inside =
    let low = epoch_day_range first in
    let parts = int_div_euclid-parts second 86400 (omega arith) in (
      omega (arith, signed_arith, inside.0, first_is),
      omega
          (arith, signed_arith, inside.1, days_from_civil-max),
    )

-- ---- two digits

abbrev pub two_text : ℕ → List ℕ
two_text n = (48 + n / 10) ∷ (48 + n % 10) ∷ []

pub places_are_digits : (n : ℕ) → n < 100 → two_digit_text n ≡ two_text n
unfolding padded_integral char_count
places_are_digits n small = elim (cases_lt n 10) [
  | inl one ↦
      let high : n / 10 ≡ 0 = omega arith in
      let low : n % 10 ≡ n = omega arith in rw (decimal_digit n one, high, low) refl
  | inr two ↦ rw (decimal_step n two (omega arith), decimal_digit (n / 10) (omega arith)) refl
]

digits_back : (n : ℕ) → n < 100 → two_digits (48 + n / 10) (48 + n % 10) ≡ Some n
unfolding two_digits
digits_back n small = grind arith

-- ---- the parts

day_is : (year month day : ℕ) → IsInRange 1 12 month
    → IsInRange 1 (days_in_month (pos year) month) day
    → day_number year month day ≡ Some (days_from_civil (pos year) month day)
unfolding day_number
day_is year month day in_year in_month = grind (arith, in_year, in_month)

time_is : (hour minute second : ℕ) → hour < 24 → minute < 60 → second < 60
    → second_of_day hour minute second ≡ Some (hour * 3600 + minute * 60 + second)
unfolding second_of_day
time_is hour minute second h m s = grind (arith, h, m, s)

-- ---- the text

abbrev pub text_from : (century year month day hour minute second : List ℕ) → List ℕ
text_from century year month day hour minute second =
    century ++ (year ++ 45 ∷ (month ++ 45
    ∷ (day ++ 84 ∷ (hour ++ 58 ∷ (minute ++ 58 ∷ (second ++ 90 ∷ []))))))

reads : (century year month day hour minute second : ℕ) (n : ℤ) (s : ℕ) → century < 100 → year < 100
    → month < 100 → day < 100 → hour < 100 → minute < 100 → second < 100
    → day_number (century * 100 + year) month day ≡ Some n
    → second_of_day hour minute second ≡ Some s
    → unix_second_of_text (text_from (two_text century) (two_text year) (two_text month)
    (two_text day) (two_text hour) (two_text minute) (two_text second))
    ≡ Some ((n *ℤ pos 86400 +ℤ pos s) -ℤ pos 0)
unfolding unix_second_of_text
reads century year month day hour minute second n s c y m d h i k is_day is_time =
    rw (
      digits_back _ c,
      digits_back _ y,
      digits_back _ m,
      digits_back _ d,
      digits_back _ h,
      digits_back _ i,
      digits_back _ k,
      is_day,
      is_time,
    ) refl

-- the text of a second of a day spells it
pub printed : (date : Date) (year second : ℕ) → pos year ≡ date.year → year < 10000 → second < 86400
    → IsTextOfSecond (epoch_day date *ℤ pos 86400 +ℤ pos second)
    (utc_text record {
      century = year / 100;
      year = year % 100;
      month = date.month;
      day =
          date.day;
      hour = second / 3600;
      minute = second / 60 % 60;
      second = second % 60;
    })
printed date year second is small in_day =
    let month : date.month < 100 = omega (arith, date.month_in.1) in
    let day : date.day < 100 = omega
    (arith, date.day_in.1, (days_in_month_bounds date.year date.month).0) in
    let in_month : IsInRange 1 (days_in_month (pos year) date.month) date.day = subst
    (λ (y : ℤ). IsInRange 1 (days_in_month y date.month) date.day) (sym is) date.day_in in
    let same : year / 100 * 100 + year % 100 ≡ year = omega arith in
    let day_is : day_number (year / 100 * 100 + year % 100) date.month date.day
    ≡ Some (epoch_day date) =
    ap (λ y. day_number y date.month date.day) same
    ∙ day_is year date.month date.day date.month_in in_month
    ∙ ap (λ z. Some (days_from_civil z date.month date.day)) is in
    let time : second / 3600 * 3600 + second / 60 % 60 * 60 + second % 60 ≡ second = omega arith in
    let time_is : second_of_day (second / 3600) (second / 60 % 60) (second % 60)
    ≡ Some second = time_is (second / 3600) (second / 60 % 60) (second % 60) (omega arith)
    (omega arith) (omega arith) ∙ ap Some time in
    rw (
      places_are_digits (year / 100) (omega arith),
      places_are_digits (year % 100) (omega arith),
      places_are_digits date.month month,
      places_are_digits date.day day,
      places_are_digits (second / 3600) (omega arith),
      places_are_digits (second / 60 % 60) (omega arith),
      places_are_digits (second % 60) (omega arith),
    ) (record {
      spells = reads _ _ _ _ _ _ _ _ _ (omega arith) (omega arith) month day (omega arith) (omega arith)
          (omega arith) day_is time_is ∙ ap Some (omega (arith, signed_arith));
      letter = refl;
      utc = refl;
    })

-- a text spells the second of its day, time and zone
pub spelled : (text : List ℕ) (day zone : ℤ) (time : ℕ) → has_separators text ≡ true
    → day_in text ≡ Some day → time_in text ≡ Some time → zone_in text ≡ Some zone
    → unix_second_of_text text ≡ Some ((day *ℤ pos 86400 +ℤ pos time) -ℤ zone)
unfolding unix_second_of_text
spelled text day zone time marks is_day is_time is_zone = rw (marks, is_day, is_time, is_zone) refl

-- a text of a second, given its day and the second of its day
pub on_day : (second day : ℤ) (time : ℕ) (text : List ℕ) → day ≡ int_div_euclid second (pos 86400)
    → pos time ≡ int_rem_euclid second (pos 86400)
    → IsTextOfSecond (day *ℤ pos 86400 +ℤ pos time) text → IsTextOfSecond second text
on_day second day time text is_day is_time of_parts =
    let parts = int_rem_euclid-parts second 86400 (omega arith) in
    let sum : (day *ℤ pos 86400 +ℤ pos time) ≡ second = omega
    (arith, signed_arith, is_day, is_time, parts) in subst (λ s. IsTextOfSecond s text) sum of_parts
