-- A string in UTF-16 has one form, and is read back from it.
use Rattle.std.proofs.Common.{◌≡◌, ℕ, zero, suc, ◌+◌, ◌-◌, ◌*◌, ◌/◌, ◌%◌, ◌<◌, ◌≤◌, ◌⊎◌, inl, inr, true, false, List, [], ◌∷◌, ◌++◌, length, get_or, map, take, flat_map, Some, ap, sym, refl, subst, ◌∙◌, arith, zero-add, not, is_some, chars, IsUtf8}
use Rattle.std.specs.Char.Escape.{encode_utf16}
use Rattle.std.specs.Char.Utf16.{has_unpaired_surrogate, lone_unit_char, surrogate_pair_char, utf16_chars, utf16_lossy_chars}
use Rattle.std.specs.Int.{byte_at, bytes_high_first}
use Rattle.std.specs.Char.{encode_utf8}
use Rattle.std.specs.List.{list_any, range_with_len, sum_by}
use Rattle.std.proofs.lemmas.List.{length-append, take_all, take_more}
use Rattle.std.proofs.lemmas.List.Sums.{sum_by-append, sum_by_push}
use Rattle.std.proofs.lemmas.Str.{length-encode, chars-encodes, len_utf8_bounds, utf16_chars-nil, utf16_chars_lone, utf16_chars_pair}
use Rattle.plist_base.specs.Utf16.{utf8_share}
use Rattle.std.specs.Option.{unwrap_or}
use Rattle.std.specs.Str.{encode_utf8_all}
use Rattle.std.proofs.Math.Utf8.{scalar, scalar_cases, scalars}
use Rattle.std.proofs.lemmas.Bool.{cases_lt, false≢true, lt-ltb, le-ltb, and_parts}
use Rattle.std.proofs.lemmas.List.FromFn.{fill_by_all, get_or-map-range_with_len}
use Rattle.std.proofs.str.Utf16.{IsPair, lone_unit_char_surrogate, one_unit, pair_units, two_units}
use Rattle.plist_base.specs.Container.{number_at, number_of, numbers_spelled}
use Rattle.plist_base.specs.Object.{Scalar, text_of_units}
use Rattle.plist_base.specs.Trees.{String}
use Rattle.plist_base.specs.Utf16.{ArePaired, IsUtf16, chars_of_utf16, units_of, unit_at, utf16_form, utf8_of_utf16}
use Rattle.plist_base.proofs.Utf16Units.{lone_char, nth_unit, scalar_of, units_length}

-- ---- the bytes of units

-- each is a byte
abbrev pub IsBytes : List ℕ → Type 0
IsBytes bytes = (i : ℕ) → get_or bytes i 0 < 256

-- the units in two bytes and those that follow
units-two : (a b : ℕ) (rest : List ℕ)
    → numbers_spelled 2 (a ∷ b ∷ rest) ≡ number_of (a ∷ b ∷ []) ∷ numbers_spelled 2 rest
units-two a b rest =
    let n = length rest / 2 in
    let long : length (a ∷ b ∷ rest) / 2 ≡ suc n = omega arith in
    sym (fill_by_all (λ i. number_at (a ∷ b ∷ rest) (i * 2) 2)
    (number_of (a ∷ b ∷ []) ∷ numbers_spelled 2 rest) (suc n) 0
    (ap suc (units_length rest)) each
    ∙ ap (λ k. map (λ i. number_at (a ∷ b ∷ rest) (i * 2) 2) (range_with_len 0 k)) (sym long))
  where
    each : (k : ℕ) → k < suc (length rest / 2)
        → get_or (number_of (a ∷ b ∷ []) ∷ numbers_spelled 2 rest) k 0
        ≡ number_at (a ∷ b ∷ rest) (k * 2) 2
    each zero below = refl
    each (suc k) below =
        let more : suc k * 2 ≡ suc (suc (k * 2)) = omega arith in
        rw more (get_or-map-range_with_len (λ i. number_at rest (i * 2) 2) 0 (length rest / 2) k k 0
        (omega (arith, below)) (zero-add k))

-- the two bytes of a unit
unit_bytes : (a b : ℕ) → a < 256 → b < 256
    → bytes_high_first 2 (number_of (a ∷ b ∷ [])) ≡ a ∷ b ∷ []
unit_bytes a b high low =
    let first : byte_at 1 (number_of (a ∷ b ∷ [])) ≡ a = omega (arith, high, low) in
    let second : byte_at 0 (number_of (a ∷ b ∷ [])) ≡ b = omega (arith, high, low) in
    λ i. first i ∷ second i ∷ []

-- whole units are written as the bytes from which they were read
bytes_again : (bytes : List ℕ) → length bytes % 2 ≡ 0 → IsBytes bytes
    → flat_map (bytes_high_first 2) (numbers_spelled 2 bytes) ≡ bytes
bytes_again [] whole small = refl
bytes_again (a ∷ []) whole small = absurd (omega (arith, whole))
bytes_again (a ∷ b ∷ rest) whole small =
    let others = bytes_again rest (omega (arith, whole)) (λ i. small (suc (suc i))) in
    ap (flat_map (bytes_high_first 2)) (units-two a b rest)
    ∙ (λ i. unit_bytes a b (small 0) (small 1) i ++ others i)

first_small : (a b : ℕ) (us : List ℕ) → a < 256 → b < 256
    → ((i : ℕ) → get_or us i 0 < 65536)
    → (i : ℕ) → get_or (number_of (a ∷ b ∷ []) ∷ us) i 0 < 65536
first_small a b us high low rest zero = omega (arith, high, low)
first_small a b us high low rest (suc i) = rest i

-- each unit has sixteen bits
units_small : (bytes : List ℕ) → IsBytes bytes → (i : ℕ) → get_or (numbers_spelled 2 bytes) i 0 < 65536
units_small [] small i = omega arith
units_small (a ∷ []) small i = omega arith
units_small (a ∷ b ∷ rest) small i = rw (units-two a b rest)
    (first_small a b (numbers_spelled 2 rest) (small 0) (small 1)
    (λ i. units_small rest (λ i. small (suc (suc i))) i) i)

-- ---- units and their characters

-- the characters of these units are characters, and have these units
record Again (units : List ℕ) : Type 0 where
  chars : scalars (utf16_lossy_chars units) ≡ true
  back : flat_map encode_utf16 (utf16_lossy_chars units) ≡ units
  size : sum_by utf8_share units ≡ length (encode_utf8_all (utf16_lossy_chars units))

again_nil : Again []
again_nil = record { chars = rw utf16_chars-nil refl; back = rw utf16_chars-nil refl; size = rw utf16_chars-nil refl }

abbrev AreSmall : List ℕ → Type 0
AreSmall us = (i : ℕ) → get_or us i 0 < 65536

-- the units have this character
record IsOwn (c : ℕ) (own : List ℕ) : Type 0 where
  one : scalar c ≡ true
  of : encode_utf16 c ≡ own
  share : sum_by utf8_share own ≡ length (encode_utf8 c)

-- the units are those of their characters if each has sixteen bits, and each unit adds at least one
-- byte
record HasChars (us : List ℕ) : Type 0 where
  again : AreSmall us → Again us
  enough : length us ≤ length (encode_utf8_all (utf16_lossy_chars us))

-- a character with its units before others
chars_more : (c : ℕ) (own us : List ℕ) → utf16_chars (own ++ us) ≡ Some c ∷ utf16_chars us
    → length own ≤ length (encode_utf8 c) → (AreSmall (own ++ us) → IsOwn c own × AreSmall us)
    → HasChars us → HasChars (own ++ us)
chars_more c own us is enough small rest = record {
  again = λ all. let (char, others) = small all in let left = rest.again others in record {
    chars = rw (is, char.one) left.chars;
    back = rw (is, char.of) (ap (λ l. own ++ l) left.back);
    size = rw is (omega (
      arith,
      sum_by-append utf8_share own us,
      char.share,
      left.size,
      length-append (encode_utf8 c) (encode_utf8_all (utf16_lossy_chars us)),
    ));
  };
  enough = rw is (omega (
    arith,
    enough,
    rest.enough,
    length-append own us,
    length-append (encode_utf8 c) (encode_utf8_all (utf16_lossy_chars us)),
  ));
}

paired_more : (c : ℕ) (own us : List ℕ) → utf16_chars (own ++ us) ≡ Some c ∷ utf16_chars us
    → has_unpaired_surrogate (own ++ us) ≡ false → has_unpaired_surrogate us ≡ false
paired_more c own us is paired = rw is at paired

-- what a unit is that begins units without unpaired surrogates
data FirstUnit (u : ℕ) (us : List ℕ) : Type 0 where
  Lone : (u < 55296) ⊎ (57344 ≤ u) → FirstUnit u us
  Paired : IsPair u (get_or us 0 0) → FirstUnit u us

lone : (u : ℕ) (us : List ℕ) → (u < 55296) ⊎ (57344 ≤ u)
    → utf16_chars (u ∷ us) ≡ Some u ∷ utf16_chars us
lone u us outside =
    utf16_chars_lone u us (λ pair. grind arith)
    ∙ ap (λ o. o ∷ utf16_chars us) (lone_char u outside)

pair_or_not : (u v : ℕ) → IsPair u v ⊎ (IsPair u v → ⊥)
pair_or_not u v = grind arith

first_unit : (u : ℕ) (us : List ℕ) → has_unpaired_surrogate (u ∷ us) ≡ false → FirstUnit u us
first_unit u us paired = elim (cases_lt u 55296) [
  | inl low ↦ Lone (inl low)
  | inr from ↦ elim (cases_lt u 57344) [
    | inr high ↦ Lone (inr high)
    | inl below ↦ elim (pair_or_not u (get_or us 0 0)) [
      | inl pair ↦ Paired pair
      | inr apart ↦ absurd (false≢true (sym paired
          ∙ rw (utf16_chars_lone u us apart, lone_unit_char_surrogate u from below) refl))
    ]
  ]
]

share_lone : (u : ℕ) → u < 65536 → (u < 55296) ⊎ (57344 ≤ u)
    → sum_by utf8_share (u ∷ []) ≡ length (encode_utf8 u)
share_lone u small outside = rw (length-encode u) (grind (arith, outside))

len_pair : (c : ℕ) → 0x1_0000 ≤ c → length (encode_utf8 c) ≡ 4
len_pair c high = rw (length-encode c) (grind arith)

share_pair : (u v : ℕ) → IsPair u v
    → sum_by utf8_share (u ∷ v ∷ []) ≡ length (encode_utf8 (surrogate_pair_char u v))
share_pair u v pair = rw (len_pair (surrogate_pair_char u v) (omega arith)) (grind (arith, pair))

chars_lone : (u : ℕ) (us : List ℕ) → (u < 55296) ⊎ (57344 ≤ u) → HasChars us → HasChars (u ∷ us)
chars_lone u us outside rest =
    chars_more u (u ∷ []) us (lone u us outside) (omega (arith, length-encode u, len_utf8_bounds u))
    (λ small. (
      record {
        one = scalar_of u (omega (arith, small 0)) outside;
        of = one_unit u (small 0);
        share = share_lone u (small 0) outside;
      },
      λ i. small (suc i),
    )) rest

chars_pair : (u v : ℕ) (us : List ℕ) → IsPair u v → HasChars us → HasChars (u ∷ v ∷ us)
chars_pair u v us pair rest =
    let code = surrogate_pair_char u v in
    chars_more code (u ∷ v ∷ []) us (utf16_chars_pair u v us pair)
    (omega (arith, len_pair code (omega arith)))
    (λ small. (
      record {
        one = scalar_of code (omega (arith, pair.1, pair.3)) (inr (omega arith));
        of = ap encode_utf16 {x = code} {y = 0x1_0000 + ((u - 0xD800) * 0x400 + (v - 0xDC00))} (omega arith)
            ∙ pair_units u v pair.0 pair.2 pair.3;
        share = share_pair u v pair;
      },
      λ i. small (suc (suc i)),
    )) rest

has_chars : (us : List ℕ) → has_unpaired_surrogate us ≡ false → HasChars us
has_chars [] paired = record { again = λ small. again_nil; enough = omega arith }
has_chars (u ∷ []) paired = elim (first_unit u [] paired) [
  | Lone outside ↦ chars_lone u [] outside (has_chars [] (rw utf16_chars-nil refl))
  | Paired pair ↦ absurd (omega (arith, pair.2))
]
has_chars (u ∷ v ∷ us) paired = elim (first_unit u (v ∷ us) paired) [
  | Lone outside ↦ chars_lone u (v ∷ us) outside (has_chars (v ∷ us)
      (paired_more u (u ∷ []) (v ∷ us) (lone u (v ∷ us) outside) paired))
  | Paired pair ↦ chars_pair u v us pair (has_chars us
      (paired_more (surrogate_pair_char u v) (u ∷ v ∷ []) us (utf16_chars_pair u v us pair) paired))
]

form_is : (bytes : List ℕ) → length bytes % 2 ≡ 0 → IsBytes bytes
    → Again (numbers_spelled 2 bytes) → bytes ≡ utf16_form (utf8_of_utf16 bytes)
unfolding units_of
form_is bytes whole small of =
    sym (ap (λ cs. flat_map (bytes_high_first 2) (flat_map encode_utf16 cs))
    (chars-encodes _ of.chars)
    ∙ ap (flat_map (bytes_high_first 2)) of.back ∙ bytes_again bytes whole small)

-- bytes with whole units without unpaired surrogates are the form of their string
pub is_utf16 : (bytes : List ℕ) → length bytes % 2 ≡ 0 → IsBytes bytes → ArePaired bytes
    → IsUtf16 bytes
is_utf16 bytes whole small paired = record {
  whole = whole;
  paired = paired;
  form = form_is bytes whole small
      ((has_chars (numbers_spelled 2 bytes) paired).again (units_small bytes small));
}

-- ---- a string is read back from its form

lone_is : (c : ℕ) → scalar c ≡ true → lone_unit_char c ≡ Some c
lone_is c s = elim (scalar_cases c s) [ inl a ↦ lone_char c (inl a) | inr a ↦ lone_char c (inr a.0) ]

pair_is : (c : ℕ) → 0x1_0000 ≤ c → surrogate_pair_char (0xD800 + (c - 0x1_0000) / 0x400)
    (0xDC00 + (c - 0x1_0000) % 0x400) ≡ c
pair_is c high = omega arith

units_back : (cs : List ℕ) → scalars cs ≡ true
    → utf16_chars (flat_map encode_utf16 cs) ≡ map Some cs
units_back [] s = utf16_chars-nil
units_back (c ∷ cs) s =
    let k = and_parts (scalar c) (scalars cs) s in
    let rest = units_back cs k.1 in
    elim (cases_lt c _) [
      | inl low ↦ rw (lt-ltb c 0x1_0000 low)
          (utf16_chars_lone c _ (λ p. elim (scalar_cases c k.0) [
            | inl l ↦ omega arith
            | inr l ↦ omega (arith, l.0, p.1)
          ])
          ∙ (λ i. lone_is c k.0 i ∷ rest i))
      | inr high ↦ rw (le-ltb c 0x1_0000 high)
          (utf16_chars_pair (0xD800 + (c - 0x1_0000) / 0x400) (0xDC00 + (c - 0x1_0000) % 0x400)
          (flat_map encode_utf16 cs) (elim (scalar_cases c k.0) [
            | inl a ↦ absurd (omega arith)
            | inr a ↦ (omega arith, omega (arith, a.1), omega arith, omega arith)
          ]) ∙ (λ i. Some (pair_is c high i) ∷ rest i))
    ]

all_paired : (cs : List ℕ) → list_any (λ o. not (is_some o)) (map Some cs) ≡ false
all_paired [] = refl
all_paired (c ∷ cs) = all_paired cs

none_lost : (cs : List ℕ) → map (λ o. unwrap_or o 0xFFFD) (map Some cs) ≡ cs
none_lost [] = refl
none_lost (c ∷ cs) = ap (λ l. c ∷ l) (none_lost cs)

-- the units of characters are a string
pub text_of_chars : (cs : List ℕ) → scalars cs ≡ true
    → text_of_units (flat_map encode_utf16 cs) ≡ Scalar (String (encode_utf8_all cs))
text_of_chars cs s = rw (units_back cs s, all_paired cs, none_lost cs) refl

unit_more : (u : ℕ) (us : List ℕ) → u < 65536
    → numbers_spelled 2 (flat_map (bytes_high_first 2) us) ≡ us
    → numbers_spelled 2 (flat_map (bytes_high_first 2) (u ∷ us)) ≡ u ∷ us
unit_more u us small rest =
    let same : number_of (byte_at 1 u ∷ byte_at 0 u ∷ []) ≡ u = omega (arith, small) in
    units-two (byte_at 1 u) (byte_at 0 u) (flat_map (bytes_high_first 2) us)
    ∙ (λ i. same i ∷ rest i)

units_read : (cs : List ℕ) → scalars cs ≡ true
    → numbers_spelled 2 (flat_map (bytes_high_first 2) (flat_map encode_utf16 cs))
    ≡ flat_map encode_utf16 cs
units_read [] s = refl
units_read (c ∷ cs) s =
    let k = and_parts (scalar c) (scalars cs) s in
    let rest = units_read cs k.1 in
    elim (cases_lt c _) [
      | inl low ↦ rw (one_unit c low) (unit_more c _ low rest)
      | inr high ↦ elim (scalar_cases c k.0) [
        | inl a ↦ absurd (omega (arith, a, high))
        | inr a ↦ rw (two_units c high) (unit_more _ _ (omega (arith, a.1))
            (unit_more _ _ (omega arith) rest))
      ]
    ]

whole_units : (us : List ℕ) → length (flat_map (bytes_high_first 2) us) % 2 ≡ 0
whole_units [] = refl
whole_units (u ∷ us) = omega (arith, whole_units us)

-- a string is read back from its form in UTF-16
pub form_back : (text : List ℕ) → IsUtf8 text → utf8_of_utf16 (utf16_form text) ≡ text
unfolding units_of
form_back text (cs, (s, is)) =
    let units = ap (flat_map encode_utf16) (ap chars (sym is) ∙ chars-encodes cs s) in
    rw (units, units_read cs s, units_back cs s, none_lost cs) is

-- the form of a string in UTF-16 is one
pub form_valid : (text : List ℕ) → IsUtf8 text → IsUtf16 (utf16_form text)
unfolding units_of
form_valid text (cs, (s, is)) =
    let units = ap (flat_map encode_utf16) (ap chars (sym is) ∙ chars-encodes cs s) in
    record {
      whole = whole_units _;
      paired = rw (units, units_read cs s, units_back cs s) (all_paired cs);
      form = ap utf16_form (sym (form_back text (cs, (s, is))));
    }

-- ---- the length in UTF-8

-- one more unit is counted
pub share_more : (bytes : List ℕ) (at size unit : ℕ) → at < length bytes / 2
    → unit ≡ unit_at bytes at → size ≡ sum_by utf8_share (take at (numbers_spelled 2 bytes))
    → size + utf8_share unit ≡ sum_by utf8_share (take (at + 1) (numbers_spelled 2 bytes))
share_more bytes at size unit below is so_far =
    let units = numbers_spelled 2 bytes in
    let here : get_or units at 0 ≡ unit = nth_unit bytes at below ∙ sym is in
    rw (
      take_more units at 0 (omega (arith, below, units_length bytes)),
      here,
      sum_by_push utf8_share (take at units) unit,
      ← so_far,
    ) refl

form_bytes : (us : List ℕ) → IsBytes (flat_map (bytes_high_first 2) us)
form_bytes [] i = omega arith
form_bytes (u ∷ us) zero = omega arith
form_bytes (u ∷ us) (suc zero) = omega arith
form_bytes (u ∷ us) (suc (suc i)) = form_bytes us i

again_valid : (bytes : List ℕ) → IsUtf16 bytes → Again (numbers_spelled 2 bytes)
again_valid bytes valid = (has_chars (numbers_spelled 2 bytes) valid.paired).again
    (units_small bytes (subst IsBytes (sym valid.form) (form_bytes (units_of (utf8_of_utf16 bytes)))))

-- a string in UTF-16 is one in UTF-8
pub utf8_of_valid : (bytes : List ℕ) → IsUtf16 bytes → IsUtf8 (utf8_of_utf16 bytes)
utf8_of_valid bytes valid = (chars_of_utf16 bytes, ((again_valid bytes valid).chars, refl))

-- the units count the bytes of their string in UTF-8
pub shares_all : (bytes : List ℕ) (at : ℕ) → IsUtf16 bytes → length bytes / 2 ≤ at
    → sum_by utf8_share (take at (numbers_spelled 2 bytes)) ≡ length (utf8_of_utf16 bytes)
shares_all bytes at valid all =
    rw (take_all at (numbers_spelled 2 bytes) (omega (arith, all, units_length bytes)))
    (again_valid bytes valid).size

-- a string has at least as many bytes in UTF-8 as units
pub no_fewer_bytes : (bytes : List ℕ) → ArePaired bytes
    → length bytes / 2 ≤ length (utf8_of_utf16 bytes)
no_fewer_bytes bytes paired =
    omega (arith, units_length bytes, (has_chars (numbers_spelled 2 bytes) paired).enough)
