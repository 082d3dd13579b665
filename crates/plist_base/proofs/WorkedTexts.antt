-- The text forms of some dates, integers and data.
use Prim.Native.String.{String}
use Rattle.std.specs.Prelude.{map, ℕ, ◌≡◌, ◌-◌, ◌^◌, ℤ, pos, negsuc, Option, None, Some, List, [], ◌∷◌, ◌++◌, replicate, refl, codes}
use Rattle.base64.proofs.OnLiterals.{base64_on_literals}
use Rattle.jiff_core.specs.Calendar.{days_from_civil, days_of_months, days_of_years, day_count}
use Rattle.plist_base.specs.UnixSeconds.{unix_second_of_text, two_digits, day_number, second_of_day}
use Rattle.plist_base.specs.IntegerText.{integer_of_text}
use Rattle.plist_base.specs.DataText.{data_text, data_of_text}

-- each row has a text, and what it spells, or `None`
abbrev AreRead : (List ℕ → Option ℤ) → List (String × Option ℤ) → Type 0
AreRead read rows = map (λ row. read (codes row.0)) rows ≡ map (λ row. row.1) rows

-- ---- dates

-- the epoch, a zone, no leap day in 1900, and no leap second
dates : AreRead unix_second_of_text (
    ("1970-01-01T00:00:00Z", Some (pos 0))
    ∷ ("2001-01-01t00:00:00+01:00", Some (pos 978303600))
    ∷ ("1900-02-29T00:00:00Z", None)
    ∷ ("2000-01-01T23:59:60Z", None) ∷ [])
unfolding unix_second_of_text two_digits day_number second_of_day days_from_civil days_of_years
    days_of_months day_count
dates = refl

-- ---- integers

-- the limits of the range, signs, leading zeros, prefixes, and texts without digits
integers : AreRead integer_of_text (
    ("18446744073709551615", Some (pos (2 ^ 64 - 1)))
    ∷ ("18446744073709551616", None)
    ∷ ("-9223372036854775808", Some (negsuc (2 ^ 63 - 1)))
    ∷ ("-9223372036854775809", None)
    ∷ ("-1", Some (negsuc 0))
    ∷ ("-0", Some (pos 0))
    ∷ ("+5", Some (pos 5))
    ∷ ("007", Some (pos 7))
    ∷ ("0x0x10", Some (pos 16))
    ∷ ("0x0xff", Some (pos 255))
    ∷ ("0x+fF", Some (pos 255))
    ∷ ("-0x1", None)
    ∷ ("0x", None)
    ∷ ("", None) ∷ [])
unfolding integer_of_text
integers = refl

-- ---- data

-- no line, a full line, and a second line of one byte
written_data : (data_text [] ≡ []) × (data_text (replicate 51 0) ≡ replicate 68 65)
    × (data_text (replicate 52 0) ≡ replicate 68 65 ++ 10 ∷ codes "AA==")
unfolding base64_on_literals data_text
written_data = (refl, refl, refl)

-- white space is ignored, and missing padding and surplus bits are rejected
read_data : (data_of_text (codes "A A\n==") ≡ Some (0 ∷ [])) × (data_of_text (codes "AA=") ≡ None)
    × (data_of_text (codes "AB==") ≡ None)
unfolding base64_on_literals data_of_text
read_data = (refl, refl, refl)
