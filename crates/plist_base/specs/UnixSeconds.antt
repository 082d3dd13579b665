-- The Unix second that the text of a date spells. The text is in a profile of RFC 3339, such as
-- `2001-01-01T00:00:00Z` or `2001-01-01 01:30:00+01:30`.
use Rattle.std.specs.Prelude.{◌≡◌, ℕ, ◌^◌, [], ◌∷◌, ◌++◌, ◌+◌, ◌-◌, ◌*◌, nat_le, nat_lt, Bool, if◌then◌else◌, ◌&&◌, ◌||◌, ◌==◌, List, length, slice_index, ℤ, pos, neg_ℤ, ◌+ℤ◌, ◌-ℤ◌, ◌*ℤ◌, ◌≤ℤ◌, ◌<ℤ◌, Option, None, Some}
use Rattle.std.specs.Char.{is_ascii_digit}
use Rattle.std.specs.Fmt.{format_spec, styled_decimal}
use Rattle.std.specs.Int.{is_in_range}
use Rattle.jiff_core.specs.Calendar.{days_from_civil, days_in_month}
use Rattle.plist_base.specs.declared.date_text.UtcSecond.{UtcSecond}

-- ---- numbers

-- the number that two digits spell, or `None` if one isn't a digit
unfoldable pub two_digits : (tens ones : ℕ) → Option ℕ
two_digits tens ones =
    if is_ascii_digit tens && is_ascii_digit ones then Some ((tens - 48) * 10 + (ones - 48)) else None

-- the number that the two digits at an offset of a text spell
abbrev pub two_digits_at : (text : List ℕ) (place : ℕ) → Option ℕ
two_digits_at text place = two_digits (slice_index text place) (slice_index text (place + 1))

-- `make` applied to two values, if both exist
abbrev pub of_both : {A B C : Type 0} → Option A → Option B → (A → B → Option C) → Option C
of_both (Some a) (Some b) make = make a b
of_both a b make = None

-- `make` applied to three values, if all exist
abbrev pub of_three : {A B C D : Type 0} → Option A → Option B → Option C → (A → B → C → Option D)
    → Option D
of_three (Some a) b c make = of_both b c (make a)
of_three None b c make = None

-- the number that the four digits at an offset of a text spell
abbrev pub four_digits_at : (text : List ℕ) (place : ℕ) → Option ℕ
four_digits_at text place =
    of_both (two_digits_at text place) (two_digits_at text (place + 2)) (λ high low. Some (high * 100 + low))

-- ---- the parts

-- the number of days from 1970-01-01 to a date, or `None` if the calendar doesn't have it
unfoldable pub day_number : (year month day : ℕ) → Option ℤ
day_number year month day =
    if is_in_range 1 12 month && is_in_range 1 (days_in_month (pos year) month) day then
    Some (days_from_civil (pos year) month day) else None

-- the second of the day at this time, or `None` if a part is out of range
unfoldable pub second_of_day : (hour minute second : ℕ) → Option ℕ
second_of_day hour minute second =
    if nat_lt hour 24 && nat_lt minute 60 && nat_lt second 60 then
    Some (hour * 3600 + minute * 60 + second) else None

-- how many seconds a zone is ahead of UTC, or `None` if a part is out of range
abbrev pub offset : (sign hours minutes : ℕ) → Option ℤ
offset sign hours minutes =
    if nat_lt hours 24 && nat_lt minutes 60 then
    (if sign == 43 then Some (pos (hours * 3600 + minutes * 60))
    else (if sign == 45 then Some (neg_ℤ (pos (hours * 3600 + minutes * 60))) else None))
    else None

-- ---- the text

-- is the text long enough, with the separators of a date and a time at their offsets?
abbrev pub has_separators : List ℕ → Bool
has_separators text =
    nat_le 20 (length text) && (slice_index text 4 == 45) && (slice_index text 7 == 45)
    && ((slice_index text 10 == 84) || (slice_index text 10 == 116) || (slice_index text 10 == 32))
    && (slice_index text 13 == 58) && (slice_index text 16 == 58)

-- the number of days from 1970-01-01 to the `YYYY-MM-DD` at offset 0
abbrev pub day_in : List ℕ → Option ℤ
day_in text = of_three (four_digits_at text 0) (two_digits_at text 5) (two_digits_at text 8) day_number

-- the second of the day at the `HH:MM:SS` at offset 11
abbrev pub time_in : List ℕ → Option ℕ
time_in text = of_three (two_digits_at text 11) (two_digits_at text 14) (two_digits_at text 17) second_of_day

-- how many seconds the zone at the end, `Z`, `z` or a sign with `HH:MM`, is ahead of UTC
abbrev pub zone_in : List ℕ → Option ℤ
zone_in text =
    if length text == 20 then
    (if (slice_index text 19 == 90) || (slice_index text 19 == 122) then Some (pos 0) else None)
    else (if (length text == 25) && (slice_index text 22 == 58) then
    of_both (two_digits_at text 20) (two_digits_at text 23) (offset (slice_index text 19)) else None)

-- the Unix second that a text spells, or `None` if it spells no date
unfoldable pub unix_second_of_text : List ℕ → Option ℤ
unix_second_of_text text =
    if has_separators text then of_three (day_in text) (time_in text) (zone_in text)
    (λ day time zone. Some ((day *ℤ pos 86400 +ℤ pos time) -ℤ zone)) else None

-- the text spells this second as it is printed, with `T` and `Z`
pub record IsTextOfSecond (second : ℤ) (text : List ℕ) : Type 0 where
  pub spells : unix_second_of_text text ≡ Some second
  pub letter : slice_index text 10 ≡ 84
  pub utc : slice_index text 19 ≡ 90

-- the Unix second is in one of the years 0 to 9999
abbrev pub HasFourDigitYear : ℤ → Type 0
HasFourDigitYear second =
    ((days_from_civil (pos 0) 1 1 *ℤ pos 86400) ≤ℤ second)
    × (second <ℤ ((days_from_civil (pos 9999) 12 31 +ℤ pos 1) *ℤ pos 86400))

-- ---- the printed text

-- a number in decimal, with a zero before a single digit
abbrev pub two_digit_text : ℕ → List ℕ
two_digit_text number = styled_decimal (format_spec 32 0 4 2 (2 ^ 64 - 1)) number

-- the second as `YYYY-MM-DDTHH:MM:SSZ`
abbrev pub utc_text : UtcSecond → List ℕ
utc_text utc =
    two_digit_text utc.century ++ (two_digit_text utc.year ++ 45
    ∷ (two_digit_text utc.month ++ 45 ∷ (two_digit_text utc.day
    ++ 84 ∷ (two_digit_text utc.hour ++ 58
    ∷ (two_digit_text utc.minute ++ 58 ∷ (two_digit_text utc.second ++ 90 ∷ []))))))
