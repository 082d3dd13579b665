-- The units of strings in UTF-16: they are counted by the bytes of a string in UTF-8, and they are
-- the object of a string that is given by them.
use Rattle.std.proofs.Common.{◌≡◌, inl, inr, ℕ, ◌+◌, ◌*◌, ◌/◌, ◌%◌, ◌<◌, ◌≤◌, List, [], ◌∷◌, length, flat_map, IsUtf8, refl, ap, sym, ◌∙◌, arith, length-append, false, ◌++◌, sum_by}
use Rattle.std.specs.Char.Escape.{encode_utf16}
use Rattle.std.specs.Char.{encode_utf8}
use Rattle.std.specs.Str.{encode_utf8_all}
use Rattle.std.proofs.lemmas.List.Sums.{sum_by-append, sum_by-cons}
use Rattle.std.proofs.lemmas.Bool.{cases_lt, le-ltb, lt-ltb}
use Rattle.plist_base.specs.Utf16.{units_of, IsUtf16, utf16_form, utf8_of_utf16}
use Rattle.plist_binwrite.specs.Forms.{units_begun, length_form, scalar_form}
use Rattle.plist_buffer.proofs.TextUnits.{units_are, form_length}
use Rattle.std.proofs.lemmas.Str.{len_utf8_bounds, length-encode}
use Rattle.plist_base.specs.Trees.{String}
use Rattle.plist_base.specs.declared.marker.CountedKind.TheVariants as kind
use Rattle.plist_base.proofs.Utf16Units.{len_of_unit}
use Rattle.plist_buffer.specs.inner.LongContents.{is_ascii_text}

-- ---- units counted by bytes in UTF-8

-- a byte after the first of a character begins none
continues : (c : ℕ) → units_begun (128 + c % 64) ≡ 0
continues c = grind arith

begins_one : (b : ℕ) → 0xc0 ≤ b → b < 0xf0 → units_begun b ≡ 1
begins_one b least most = grind arith

begins_two : (b : ℕ) → 0xf0 ≤ b → units_begun b ≡ 2
begins_two b least = grind arith

-- the bytes of a character count its units
units_of_char : (c : ℕ) → sum_by units_begun (encode_utf8 c) ≡ length (encode_utf16 c)
unfolding encode_utf8
units_of_char c = elim (cases_lt c 0x80) [
  | inl one ↦ rw (lt-ltb c 0x80 one, lt-ltb c 0x80 one, lt-ltb c 0x1_0000 (omega (arith, one))) refl
  | inr two ↦ elim (cases_lt c 0x800) [
    | inl low ↦ rw (
      le-ltb c 0x80 two,
      lt-ltb c 0x800 low,
      lt-ltb c 0x1_0000 (omega (arith, low)),
    ) (omega (arith, begins_one (192 + c / 64) (omega arith) (omega (arith, low)), continues c))
    | inr three ↦ elim (cases_lt c 0x1_0000) [
      | inl low ↦ rw (le-ltb c 0x80 two, le-ltb c 0x800 three, lt-ltb c 0x1_0000 low) (omega (
        arith,
        begins_one (224 + c / 4096) (omega arith) (omega (arith, low)),
        continues (c / 64),
        continues c,
      ))
      | inr four ↦ rw (le-ltb c 0x80 two, le-ltb c 0x800 three, le-ltb c 0x1_0000 four) (omega (
        arith,
        begins_two (240 + c / 262144) (omega arith),
        continues (c / 4096),
        continues (c / 64),
        continues c,
      ))
    ]
  ]
]

units_of_chars : (cs : List ℕ)
    → sum_by units_begun (encode_utf8_all cs) ≡ length (flat_map encode_utf16 cs)
units_of_chars [] = refl
units_of_chars (c ∷ cs) = omega (
  arith,
  sum_by-append units_begun (encode_utf8 c) (encode_utf8_all cs),
  units_of_char c,
  units_of_chars cs,
  length-append (encode_utf16 c) (flat_map encode_utf16 cs),
)

-- the bytes of a string count its units
pub units_counted : (text : List ℕ) → IsUtf8 text
    → sum_by units_begun text ≡ length (units_of text)
units_counted text is =
    ap (sum_by units_begun) (sym is.1.1) ∙ units_of_chars is.0
    ∙ ap length (sym (units_are text is.0 is.1.0 is.1.1))

-- a byte counts at most two units
few_begun : (b : ℕ) → units_begun b ≤ 2
few_begun b = grind arith

pub few_units_begun : (bytes : List ℕ) → sum_by units_begun bytes ≤ 2 * length bytes
few_units_begun [] = omega arith
few_units_begun (b ∷ bytes) =
    omega (arith, few_begun b, few_units_begun bytes, sum_by-cons units_begun b bytes)

-- ---- strings that are given by their units

module _ (bytes text : List ℕ) (valid : IsUtf16 bytes) (is : utf8_of_utf16 bytes ≡ text) where
  form : bytes ≡ utf16_form text
  form = valid.form ∙ ap utf16_form is

  -- the units of the string are counted by their bytes
  pub count_is : length bytes / 2 ≡ length (units_of text)
  count_is = omega (arith, ap length form, form_length text)

  -- the object of a string that isn't ASCII has its units
  pub wide_object : is_ascii_text text ≡ false → length_form kind.WideText (length bytes / 2) ++ bytes
      ≡ scalar_form (String text)
  wide_object wide =
      rw wide (ap (λ n. length_form kind.WideText n ++ bytes) count_is
      ∙ ap (λ l. length_form kind.WideText (length (units_of text)) ++ l) form)

  pub wide_size : is_ascii_text text ≡ false
      → length (length_form kind.WideText (length bytes / 2)) + length bytes
      ≡ length (scalar_form (String text))
  wide_size wide = omega (
    arith,
    ap length (wide_object wide),
    length-append (length_form kind.WideText (length bytes / 2)) bytes,
  )

-- a character has at most three bytes for each unit
few_bytes : (c : ℕ) → length (encode_utf8 c) ≤ 3 * length (encode_utf16 c)
few_bytes c = elim (cases_lt c 0x1_0000) [
  | inl low ↦ rw (lt-ltb c 0x1_0000 low) (omega (arith, length-encode c, len_of_unit c low))
  | inr high ↦ rw (le-ltb c 0x1_0000 high) (omega (arith, length-encode c, len_utf8_bounds c))
]

few_bytes_in : (cs : List ℕ)
    → length (encode_utf8_all cs) ≤ 3 * length (flat_map encode_utf16 cs)
few_bytes_in [] = omega arith
few_bytes_in (c ∷ cs) = omega (
  arith,
  few_bytes c,
  few_bytes_in cs,
  length-append (encode_utf16 c) (flat_map encode_utf16 cs),
  length-append (encode_utf8 c) (encode_utf8_all cs),
)

-- a string has at most three bytes for each unit
pub text_bound : (bytes text : List ℕ) → IsUtf16 bytes → utf8_of_utf16 bytes ≡ text → IsUtf8 text
    → 2 * length text ≤ 3 * length bytes
text_bound bytes text valid is (cs, (s, e)) = omega (
  arith,
  few_bytes_in cs,
  ap length e,
  ap length (units_are text cs s e),
  ap length (form bytes text valid is),
  form_length text,
)
