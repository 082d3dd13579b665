-- What an escape in a quoted string denotes, from the byte after its backslash on:
--
--     escape    letter                  the byte of the letter in `simple_escape`
--               octal octal octal       the character of that number
--               U unit                  the character of the unit, which isn't a surrogate
--               U unit \ U unit         the character of a surrogate pair; the second `U` may be `u`
--     unit      hex hex hex hex
--
-- An octal number or a unit is taken as a whole before its digits are checked.
use Rattle.std.specs.Prelude.{ℕ, ◌-◌, Bool, if◌then◌else◌, ◌&&◌, ◌||◌, ◌==◌, codes, nat_lt, nat_le, List, [], ◌∷◌, ◌++◌, slice_index, Option, None, Some, Result, Ok, Err, encode_utf8}
use Rattle.std.specs.List.{list_all, zip}
use Rattle.std.specs.Map.{lookup}
use Rattle.std.specs.Option.{option_map_or}
use Rattle.std.specs.Char.{is_digit}
use Rattle.std.specs.Char.Utf16.{is_high_surrogate, is_low_surrogate, surrogate_pair_char}
use Rattle.std.specs.Str.Parse.{digits_value}
use Rattle.plist_base.specs.Faults.{FaultKind, InvalidUtf16String, InvalidUtf8AsciiStream, InvalidOctalString, UnclosedString}
use Rattle.plist_ascii.specs.TokenPrefixes.{Taken, taken, past_one, after_byte, code_of, in_sequence, is_one_of, needs}

-- the byte that a letter denotes, or `None`
abbrev pub simple_escape : ℕ → Option ℕ
simple_escape c = lookup (λ letter. c == letter)
    (zip (codes "\\\"'abfnrtv") (codes "\\\"'\u{7}\u{8}\u{c}\n\r\t\u{b}"))

-- NeXTSTEP's characters 128 to 255 in Unicode
abbrev pub nextstep : List ℕ
nextstep =
    codes "\u{a0}ÀÁÂÃÄÅÇÈÉÊËÌÍÎÏÐÑÒÓÔÕÖÙÚÛÜÝÞµ×÷"
    ++ codes "©¡¢£⁄¥ƒ§¤’“«‹›ﬁﬂ®–†‡·¦¶•‚„”»…‰¬¿"
    ++ codes "¹ˋ´ˆ˜¯˘˙¨²˚¸³˝˛ˇ—±¼½¾àáâãäåçèéêë"
    ++ codes "ìÆíªîïðñŁØŒºòóôõöæùúûıüýłøœßþÿ��"

-- the character of an octal number: NeXTSTEP's from 128 to 255, and otherwise Unicode's
unfoldable pub octal_char : ℕ → ℕ
octal_char n = if nat_le 128 n && nat_lt n 256 then slice_index nextstep (n - 128) else n

-- the character of three octal digits, or a fault if one of the bytes isn't an octal digit
unfoldable pub octal_text : List ℕ → Result (List ℕ) FaultKind
octal_text digits =
    if list_all (λ c. is_digit c 8) digits
    then Ok (encode_utf8 (octal_char (digits_value 8 digits))) else Err InvalidOctalString

-- an octal escape, whose first digit c has been taken
abbrev pub octal_escape : ℕ → List ℕ → Taken (List ℕ)
octal_escape c = needs 2 (λ digits. octal_text (c ∷ digits))

-- the number that hexadecimal digits spell, or `None` if one of the bytes isn't a digit
abbrev pub unit_of : List ℕ → Option ℕ
unit_of digits =
    if list_all (λ c. is_digit c 16) digits then Some (digits_value 16 digits) else None

-- a UTF-16 code unit, which four hexadecimal digits spell
abbrev pub code_unit : List ℕ → Taken ℕ
code_unit = needs 4 (λ digits. option_map_or Ok (unit_of digits) (Err InvalidUtf16String))

-- is the unit a surrogate, which is half of a pair?
abbrev pub is_surrogate : ℕ → Bool
is_surrogate u = is_high_surrogate u || is_low_surrogate u

-- the character of a high surrogate followed by a low one, or a fault
abbrev pub pair_text : (high low : ℕ) → Result (List ℕ) FaultKind
pair_text high low =
    if is_high_surrogate high && is_low_surrogate low then
    Ok (encode_utf8 (surrogate_pair_char high low)) else Err InvalidUtf16String

-- the second half of a surrogate pair: a backslash, `u` or `U`, and a unit; if the first two bytes
-- aren't these, only the first of them is taken
abbrev pub low_half : List ℕ → Taken ℕ
low_half [] = taken 0 (Err UnclosedString)
low_half (c ∷ []) = taken 1 (Err InvalidUtf16String)
low_half (c ∷ letter ∷ rest) =
    if (c == code_of "\\") && is_one_of "uU" letter then past_one (past_one (code_unit rest))
    else taken 1 (Err InvalidUtf16String)

-- what follows `U`: a unit and, if it is a surrogate, the second half of a pair
abbrev pub unicode_escape : List ℕ → Taken (List ℕ)
unicode_escape = in_sequence code_unit (λ unit rest.
    if is_surrogate unit then in_sequence low_half (λ low _. taken 0 (pair_text unit low)) rest
    else taken 0 (Ok (encode_utf8 unit)))

-- the bytes that an escape denotes, whose backslash has been taken
unfoldable pub escape : List ℕ → Taken (List ℕ)
escape = after_byte (λ c rest.
    if c == code_of "U" then unicode_escape rest else if is_digit c 8 then octal_escape c rest
    else taken 0
    (option_map_or (λ byte. Ok (byte ∷ [])) (simple_escape c) (Err InvalidUtf8AsciiStream)))
