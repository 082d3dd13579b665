-- The integer that a text spells: hexadecimal after `0x`, or decimal. How an `Integer` is stored, and
-- the order of two values.
use Rattle.std.specs.Prelude.{◌≡◌, ℕ, ◌-◌, ◌^◌, ◌≤ℤ◌, ◌<ℤ◌, Bool, false, if◌then◌else◌, ◌&&◌, ◌==◌, nat_lt, List, ◌∷◌, length, ℤ, pos, negsuc, Option, None, Some, Result, MatchResult}
use Rattle.std.specs.List.{list_all}
use Rattle.std.specs.Option.{option_or}
use Rattle.std.specs.Ordering.{MatchOrdering}
use Rattle.std.specs.declared.cmp.Ordering.{Ordering}
use Rattle.std.specs.Char.{is_digit}
use Rattle.std.specs.Str.Parse.{digits_value, signed_digits_value, without_leading_plus, without_leading_sign}
use Rattle.plist_base.specs.declared.integer.Number.{Number}
use Rattle.plist_base.specs.declared.integer.Number.TheVariants as number

-- does the text begin with `0x`?
abbrev pub has_prefix : List ℕ → Bool
has_prefix (a ∷ b ∷ rest) = (a == 48) && (b == 120)
has_prefix _ = false

-- the text after every leading `0x`
abbrev pub without_prefixes : List ℕ → List ℕ
without_prefixes (a ∷ b ∷ rest) =
    if (a == 48) && (b == 120) then without_prefixes rest else a ∷ b ∷ rest
without_prefixes text = text

-- has the text at least one digit, and nothing else?
abbrev pub is_numeral : (radix : ℕ) → List ℕ → Bool
is_numeral radix digits = nat_lt 0 (length digits) && list_all (λ c. is_digit c radix) digits

-- the unsigned 64-bit number that the text spells, with an optional plus sign, or `None`
abbrev pub unsigned_of_text : (radix : ℕ) → List ℕ → Option ℤ
unsigned_of_text radix text =
    let digits = without_leading_plus text in
    if is_numeral radix digits && nat_lt (digits_value radix digits) (2 ^ 64) then
    Some (pos (digits_value radix digits)) else None

-- does the number fit into 64 signed bits?
abbrev pub fits_signed : ℤ → Bool
fits_signed (pos n) = nat_lt n (2 ^ 63)
fits_signed (negsuc n) = nat_lt n (2 ^ 63)

-- the signed 64-bit number that the text spells in decimal, with an optional sign, or `None`
abbrev pub signed_of_text : List ℕ → Option ℤ
signed_of_text text =
    if is_numeral 10 (without_leading_sign text) && fits_signed (signed_digits_value 10 text) then
    Some (signed_digits_value 10 text) else None

-- the integer that a text spells: hexadecimal after `0x`, else signed or unsigned decimal
unfoldable pub integer_of_text : List ℕ → Option ℤ
integer_of_text text =
    if has_prefix text then unsigned_of_text 16 (without_prefixes text) else
    option_or (signed_of_text text) (unsigned_of_text 10 text)

-- the result is the number that the text spells, or `Err` if it spells no number
abbrev pub SpellsInteger : {E : Type 0} → List ℕ → Result ℤ E → Type 0
SpellsInteger text answer =
    MatchResult answer (λ number. integer_of_text text ≡ Some number)
    (λ _. integer_of_text text ≡ None)

-- ---- how an `Integer` is stored, and the order of two

-- the value of an integer that is stored in this form
abbrev pub whole : Number → ℤ
whole (number.Negative z) = z
whole (number.Unsigned n) = pos n

-- the form in which an integer is stored
abbrev pub number_for : ℤ → Number
number_for (pos n) = number.Unsigned n
number_for (negsuc n) = number.Negative (negsuc n)

-- the value is from -2 ^ 63 to 2 ^ 64 - 1, and `held` is the form in which it is stored
abbrev pub IsNumberOf : ℤ → Number → Type 0
IsNumberOf z held =
    (negsuc (2 ^ 63 - 1) ≤ℤ z) × (z <ℤ pos (2 ^ 64)) × (number_for z ≡ held)

-- this is how two integers compare
abbrev pub IsOrderOf : (left right : ℤ) → Ordering → Type 0
IsOrderOf left right order =
    MatchOrdering order (left <ℤ right) (left ≡ right) (right <ℤ left)
