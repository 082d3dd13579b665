-- The units of a string.
use Rattle.std.proofs.Common.{rules, ◌≡◌, ℕ, ◌+◌, ◌*◌, ◌<◌, ◌≤◌, Bool, true, false, List, [], ◌∷◌, ◌++◌, length, flat_map, chars, IsUtf8, nat_lt, refl, ap, sym, ◌∙◌, arith, length-append}
use Rattle.std.specs.Char.Escape.{encode_utf16}
use Rattle.std.specs.Char.{encode_utf8, len_utf8}
use Rattle.std.specs.Int.{bytes_high_first}
use Rattle.std.specs.Prelude.{◌&&◌}
use Rattle.std.specs.Str.{encode_utf8_all}
use Rattle.std.proofs.Math.Utf8.{scalars}
use Rattle.std.proofs.lemmas.Bool.{lt-ltb}
use Rattle.std.proofs.lemmas.Bool.Decides.{nat_tests}
use Rattle.std.proofs.lemmas.Grind.{flat_map-append}
use Rattle.std.proofs.lemmas.List.{nil_from_length}
use Rattle.std.proofs.lemmas.List.Elements.{All-from_get_or}
use Rattle.std.proofs.lemmas.List.Folds.{list_all-append}
use Rattle.std.proofs.lemmas.List.Sums.{list_all-from_AllPass}
use Rattle.std.proofs.lemmas.Str.{chars_past_char, chars-nil, length-encode, chars-encodes}
use Rattle.plist_base.specs.ByteTests.{EachByte}
use Rattle.plist_base.specs.Utf16.{units_of, utf16_form}
use Rattle.plist_buffer.specs.inner.LongContents.{is_ascii_text}

pub units_empty : (text : List ℕ) → length text ≡ 0 → units_of text ≡ []
unfolding units_of
units_empty text none =
    ap (flat_map _) (ap chars (nil_from_length _ none) ∙ chars-nil)

pub units_step : (text rest : List ℕ) (c : ℕ) → IsUtf8 text → text ≡ encode_utf8 c ++ rest
    → units_of text ≡ encode_utf16 c ++ units_of rest
unfolding units_of
units_step text rest c utf8 parts =
    ap (flat_map _) (chars_past_char _ _ c utf8 parts)

pub units_are : (text cs : List ℕ) → scalars cs ≡ true → encode_utf8_all cs ≡ text
    → units_of text ≡ flat_map encode_utf16 cs
unfolding units_of
units_are text cs s e = ap (flat_map _) (ap chars (sym e) ∙ chars-encodes cs s)

-- a character has no more units than bytes
pub few_units : (c : ℕ) → length (encode_utf16 c) ≤ length (encode_utf8 c)
few_units c = grind (arith, nat_tests, length-encode)

pub few_units_in : (cs : List ℕ) → length (flat_map encode_utf16 cs) ≤ length (encode_utf8_all cs)
few_units_in [] = omega arith
few_units_in (c ∷ cs) =
    omega (arith, few_units c, few_units_in cs, length-append {A = ℕ})

-- ---- the form of a string

-- the form of a character and of those that follow it
pub form_step : (text rest : List ℕ) (c : ℕ) → IsUtf8 text → text ≡ encode_utf8 c ++ rest
    → utf16_form text ≡ flat_map (bytes_high_first 2) (encode_utf16 c) ++ utf16_form rest
form_step text rest c utf8 parts =
    ap (flat_map (bytes_high_first 2)) (units_step text rest c utf8 parts)
    ∙ flat_map-append (bytes_high_first 2) (encode_utf16 c) (units_of rest)

pub form_empty : (text : List ℕ) → length text ≡ 0 → utf16_form text ≡ []
form_empty text none = ap (flat_map (bytes_high_first 2)) (units_empty text none)

-- each unit has two bytes
two_bytes : (units : List ℕ) → length (flat_map (bytes_high_first 2) units) ≡ 2 * length units
two_bytes [] = refl
two_bytes (u ∷ units) = omega (arith, two_bytes units)

-- the form of a string has two bytes for each unit
pub form_length : (text : List ℕ) → length (utf16_form text) ≡ 2 * length (units_of text)
form_length text = two_bytes (units_of text)

-- ---- strings that aren't ASCII

-- a character from 128 on isn't ASCII
wide_char : (c : ℕ) → 128 ≤ c → is_ascii_text (encode_utf8 c) ≡ false
unfolding encode_utf8
wide_char c from = grind (arith, nat_tests)

and_false : (b : Bool) → b && false ≡ false
and_false b = search rules

-- characters aren't ASCII if the first one isn't
pub wide_first : (c : ℕ) (cs : List ℕ) → 128 ≤ c → is_ascii_text (encode_utf8_all (c ∷ cs)) ≡ false
wide_first c cs from = grind (arith, list_all-append (λ byte. nat_lt byte 128) (encode_utf8 c), wide_char c from)

-- characters aren't ASCII if those after the first one aren't
pub wide_later : (c : ℕ) (cs : List ℕ) → is_ascii_text (encode_utf8_all cs) ≡ false
    → is_ascii_text (encode_utf8_all (c ∷ cs)) ≡ false
wide_later c cs later = grind (arith, list_all-append (λ byte. nat_lt byte 128) (encode_utf8 c), and_false)

-- the bytes of a character and of those that follow it
pub bytes_step : (c : ℕ) (cs : List ℕ)
    → length (encode_utf8_all (c ∷ cs)) ≡ len_utf8 c + length (encode_utf8_all cs)
bytes_step c cs =
    omega (arith, length-append (encode_utf8 c) (encode_utf8_all cs), length-encode c)

-- a string whose bytes are ASCII is one in ASCII
pub ascii_text : (text : List ℕ) → EachByte (λ byte. byte < 128) text → is_ascii_text text ≡ true
ascii_text text each =
    list_all-from_AllPass (λ byte. nat_lt byte 128) text
    (All-from_get_or (λ byte. nat_lt byte 128 ≡ true) text 0 (λ i within. lt-ltb _ 128 (each i within)))
