-- A second of the years 0 to 9999 has one text.
use Rattle.std.proofs.Common.{◌≡◌, ℕ, zero, suc, ◌+◌, ◌*◌, ◌/◌, ◌%◌, ◌<◌, Bool, true, cond, List, [], ◌∷◌, length, ℤ, pos, ◌+ℤ◌, ◌-ℤ◌, ◌*ℤ◌, Option, None, Some, slice_index, refl, sym, ap, ◌∙◌, rules, arith}
use Rattle.std.proofs.lemmas.Option.{cond_some}
use Rattle.std.proofs.lemmas.Bool.Decides.{nat_tests}
use Rattle.std.specs.Int.{IsInRange}
use Rattle.jiff_core.specs.Calendar.{days_from_civil, days_in_month}
use Rattle.jiff_core.specs.Date.{epoch_day}
use Rattle.jiff_core.specs.declared.civil.date.Date.{Date}
use Rattle.jiff_core.proofs.DateLemmas.{epoch_day_injective}
use Rattle.jiff_core.proofs.SignedLemmas.{signed_arith}
use Rattle.plist_base.specs.UnixSeconds.{day_number, has_separators, of_both, of_three, second_of_day, two_digits_at, two_digits, unix_second_of_text, zone_in, HasFourDigitYear, IsTextOfSecond}
use Rattle.plist_base.proofs.DatePrinting.{before_years, day_of_years, in_years, second_in_years, two_text, text_from}

-- ---- the parts of a result

abbrev IsSome : {A : Type 0} → Option A → A → Type 0
IsSome {A} option value = ◌≡◌ {A = Option A} option (Some value)

by_test : {A : Type 0} (b : Bool) (option : Option A) (value : A)
    → IsSome (cond b option None) value → (b ≡ true) × IsSome option value
by_test b option value is = search rules

both : {A : Type 0} (a b : Option ℕ) (make : ℕ → ℕ → Option A) (value : A)
    → IsSome (of_both a b make) value
    → (x : ℕ) × (y : ℕ) × IsSome a x × IsSome b y × IsSome (make x y) value
both a b make value is = search rules

three : {A : Type 0} (a b c : Option ℕ) (make : ℕ → ℕ → ℕ → Option A) (value : A)
    → IsSome (of_three a b c make) value → (x : ℕ) × (y : ℕ) × (z : ℕ) × IsSome a x × IsSome b y
    × IsSome c z × IsSome (make x y z) value
three a b c make value is = search rules

has_parts : (day : Option ℤ) (time : Option ℕ) (at : Option ℤ) (second : ℤ)
    → IsSome (of_three day time at (λ d t z. Some ((d *ℤ pos 86400 +ℤ pos t) -ℤ z))) second
    → (d : ℤ) × (t : ℕ) × (z : ℤ) × IsSome day d × IsSome time t × IsSome at z
    × (((d *ℤ pos 86400 +ℤ pos t) -ℤ z) ≡ second)
has_parts day time at second is = search rules

-- ---- the digits

-- these are the two digits of a number
record Digits (tens ones n : ℕ) : Type 0 where
  small : n < 100
  high : tens ≡ 48 + n / 10
  low : ones ≡ 48 + n % 10

digits : (tens ones n : ℕ) → IsSome (two_digits tens ones) n → Digits tens ones n
unfolding two_digits
digits tens ones n is = record {
  small = grind (arith, nat_tests, is);
  high = grind (arith, nat_tests, is);
  low = grind (arith, nat_tests, is);
}

-- ---- the numbers

-- the calendar has this day
record Day (year month day : ℕ) : Type 0 where
  in_year : IsInRange 1 12 month
  in_month : IsInRange 1 (days_in_month (pos year) month) day

day_made : (year month day : ℕ) (number : ℤ) → IsSome (day_number year month day) number
    → Day year month day × (days_from_civil (pos year) month day ≡ number)
unfolding day_number
day_made year month day number is = (
  record { in_year = grind (arith, nat_tests, is); in_month = grind (arith, nat_tests, is) },
  (cond_some _ _ number is).1,
)

-- a day has this hour, this minute and this second
record Time (hour minute second : ℕ) : Type 0 where
  hours : hour < 24
  minutes : minute < 60
  seconds : second < 60

time_made : (hour minute second time : ℕ) → IsSome (second_of_day hour minute second) time
    → Time hour minute second × (hour * 3600 + minute * 60 + second ≡ time)
unfolding second_of_day
time_made hour minute second time is = (
  record {
    hours = grind (arith, nat_tests, is);
    minutes = grind (arith, nat_tests, is);
    seconds = grind (arith, nat_tests, is);
  },
  (cond_some _ _ time is).1,
)

-- ---- the elements of a text

abbrev front : (count from : ℕ) → List ℕ → List ℕ
front zero from text = []
front (suc count) from text = slice_index text from ∷ front count (suc from) text

front_after_marker : (count from x : ℕ) (text : List ℕ)
    → front count (suc from) (x ∷ text) ≡ front count from text
front_after_marker zero from x text = refl
front_after_marker (suc count) from x text =
    ap (λ rest. slice_index text from ∷ rest) (front_after_marker count (suc _) x text)

-- a text consists of its elements
elements : (count : ℕ) (text : List ℕ) → length text ≡ count → text ≡ front count 0 text
elements zero [] is = refl
elements (suc count) (x ∷ text) is =
    ap (λ rest. x ∷ rest) (elements count text (omega (arith, is))
    ∙ sym (front_after_marker _ 0 x _))
elements count text is = absurd (omega (arith, is))

-- the separators are at their offsets
record Marks (text : List ℕ) : Type 0 where
  year : slice_index text 4 ≡ 45
  month : slice_index text 7 ≡ 45
  hour : slice_index text 13 ≡ 58
  minute : slice_index text 16 ≡ 58

marks : (text : List ℕ) → has_separators text ≡ true → Marks text
marks text is = search rules

-- a text with `Z` as its zone ends there, and is in UTC
zone_made : (text : List ℕ) (zone : ℤ) → slice_index text 19 ≡ 90 → IsSome (zone_in text) zone
    → (length text ≡ 20) × (zone ≡ pos 0)
zone_made text zone letter is = search rules

-- ---- one text

abbrev text_of : (century year month day hour minute second : ℕ) → List ℕ
text_of century year month day hour minute second =
    text_from (two_text century) (two_text year) (two_text month) (two_text day) (two_text hour)
    (two_text minute) (two_text second)

-- the numbers of the text of a second
record Numbers (second : ℤ) (text : List ℕ) : Type 0 where
  century : ℕ
  year : ℕ
  month : ℕ
  day : ℕ
  hour : ℕ
  minute : ℕ
  seconds : ℕ
  century_small : century < 100
  year_small : year < 100
  date : Day (century * 100 + year) month day
  time : Time hour minute seconds
  is : (days_from_civil (pos (century * 100 + year)) month day *ℤ pos 86400 +ℤ pos
      (hour * 3600 + minute * 60 + seconds)) ≡ second
  text_is : text ≡ text_of century year month day hour minute seconds

numbers : (second : ℤ) (text : List ℕ) → IsTextOfSecond second text → Numbers second text
unfolding unix_second_of_text
numbers second text is =
    let test = by_test _ _ second is.spells in
    let m = marks text test.0 in
    let (days, of_day, zone, is_days, is_time, is_zone, sum) = has_parts _ _ _ _ test.1 in
    let z = zone_made _ _ is.utc is_zone in
    let (whole, month, day, is_year, is_month, is_day, date_is) = three _ _ _ _ _ is_days in
    let (century, year, is_high, is_low, year_is) = both (two_digits_at text 0) (two_digits_at text 2)
    (λ high low. Some (high * 100 + low)) whole is_year in
    let (hour, minute, seconds, is_hour, is_minute, is_second, time_is) = three _ _ _ _ _ is_time in
    let same : century * 100 + year ≡ whole = cc in
    let made : IsSome (day_number (century * 100 + year) month day) days = rw same date_is in
    let date = day_made _ _ _ _ made in
    let time = time_made _ _ _ _ time_is in
    let c0 = digits _ _ _ is_high in
    let c1 = digits _ _ _ is_low in
    let c2 = digits _ _ _ is_month in
    let c3 = digits _ _ _ is_day in
    let c4 = digits _ _ _ is_hour in
    let c5 = digits _ _ _ is_minute in
    let c6 = digits _ _ _ is_second in
    let written : front 20 0 text ≡ text_of century year month day hour minute seconds = λ k.
    c0.high k ∷ c0.low k ∷ c1.high k ∷ c1.low k ∷ m.year k ∷ c2.high k ∷ c2.low k ∷ m.month k
    ∷ c3.high k ∷ c3.low k
    ∷ is.letter k ∷ c4.high k ∷ c4.low k ∷ m.hour k ∷ c5.high k ∷ c5.low k ∷ m.minute k ∷ c6.high k
    ∷ c6.low k ∷ is.utc k ∷ [] in
    record {
      century = century;
      year = year;
      month = month;
      day = day;
      hour = hour;
      minute = minute;
      seconds = seconds;
      century_small = c0.small;
      year_small = c1.small;
      date = date.0;
      time = time.0;
      is = omega (arith, signed_arith, date.1, time.1, z.1, sum);
      text_is = elements 20 _ z.0 ∙ written;
    }

-- the date of these numbers
date_of : (second : ℤ) (text : List ℕ) → Numbers second text → Date
date_of second text n = record {
  year = pos (n.century * 100 + n.year);
  month = n.month;
  day = n.day;
  year_in = (omega (arith, signed_arith), omega (arith, signed_arith));
  month_in = n.date.in_year;
  day_in = n.date.in_month;
}

-- a second that has a text is in one of the years 0 to 9999
pub year_of_text : (second : ℤ) (text : List ℕ) → IsTextOfSecond second text
    → HasFourDigitYear second
unfolding date_of
year_of_text second text is =
    let n = numbers _ _ is in
    second_in_years _ (date_of _ _ n) _ n.is
    (omega arith) (omega (arith, signed_arith))

-- a second determines its day and its second of the day
apart : (d e : ℤ) (t u : ℕ) (second : ℤ) → t < 86400 → u < 86400
    → (d *ℤ pos 86400 +ℤ pos t) ≡ second → (e *ℤ pos 86400 +ℤ pos u) ≡ second → (d ≡ e) × (t ≡ u)
apart d e t u second small other is_d is_e =
    (omega (arith, signed_arith, is_d, is_e), omega (arith, signed_arith, is_d, is_e))

pub one_text : (second : ℤ) (text other : List ℕ) → IsTextOfSecond second text
    → IsTextOfSecond second other → other ≡ text
unfolding date_of
one_text second text other is is_other =
    let n = numbers _ _ is in
    let k = numbers _ _ is_other in
    let day_time = apart _ (epoch_day (date_of _ _ k))
    (n.hour * 3600 + n.minute * 60 + n.seconds) (k.hour * 3600 + k.minute * 60 + k.seconds)
    second (omega arith) (omega arith) n.is k.is in
    let dates = epoch_day_injective (date_of _ _ n) (date_of _ _ k) day_time.0 in
    let times = day_time.1 in
    let years : n.century * 100 + n.year ≡ k.century * 100
    + k.year = omega (arith, signed_arith, dates.0) in
    let century : k.century ≡ n.century = omega arith in
    let year : k.year ≡ n.year = omega arith in
    let hour : k.hour ≡ n.hour = omega arith in
    let minute : k.minute ≡ n.minute = omega arith in
    let seconds : k.seconds ≡ n.seconds = omega arith in
    k.text_is
    ∙ (λ i. text_of (century i) (year i) (sym dates.1 i) (sym dates.2 i) (hour i) (minute i)
    (seconds i))
    ∙ sym n.text_is

-- rules for the years 0 to 9999
pub ruleset years = (before_years, day_of_years, in_years, one_text, year_of_text)
