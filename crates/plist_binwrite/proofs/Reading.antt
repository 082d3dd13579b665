-- How each form is read back, whatever follows: numbers and lengths, the head of a file, and objects.
use Rattle.std.proofs.Common.{◌≡◌, inl, inr, ℕ, zero, suc, ◌+◌, ◌-◌, ◌*◌, ◌%◌, ◌^◌, ◌<◌, ◌≤◌, ℤ, pos, negsuc, cond, nat_le, List, [], ◌∷◌, ◌++◌, length, take, drop, get_or, Option, None, Some, refl, ap, sym, ◌∙◌, arith, append_assoc, length-append, flat_map, true, nat_eq, Ok, false}
use Rattle.std.specs.List.{starts_with, zip}
use Rattle.std.proofs.lemmas.Bool.{lt-ltb, le-ltb, le-leb, cases_lt, and_parts}
use Rattle.std.proofs.lemmas.Int.{ints}
use Rattle.std.proofs.lemmas.List.{drop-drop, length-map}
use Rattle.std.proofs.lemmas.List.FromFn.{fill_by_all}
use Rattle.std.proofs.Math.Seq.{take-append_seam, drop-append_seam}
use Rattle.std.proofs.Math.Nat.{mul-div_cancel}
use Rattle.std.specs.Map.{keys_of, values_of}
use Rattle.plist_base.specs.Trees as trees
use Rattle.plist_base.specs.Container.{number_of, number_at, numbers_spelled, magic, trailer_in, is_width, head_with, head_of}
use Rattle.plist_base.specs.Object.{Object, Scalar, Counted, byte_of, high_half, layout_of, length_that_follows, meaning_of_front, object_in, signed, integer_in_range, Array, Dictionary, Faulty, text_of_units, dictionary, date, date_if_any}
use Rattle.plist_base.specs.declared.marker.CountedKind.{CountedKind}
use Rattle.plist_base.specs.declared.marker.Marker.TheVariants as mark
use Rattle.plist_binwrite.specs.Forms.{integer_marker, unsigned_form, length_form, scalar_form, IsWritableScalar, AllFit, least_width, table_form, reference_width, form, IsWritable}
use Rattle.std.specs.Int.{bytes_high_first}
use Rattle.plist_binwrite.proofs.NumberForms.{length_short, length_long, at_width, length-big_endian, number_back}
use Rattle.plist_binwrite.specs.Written.{table_and_trailer, trailer_of}
use Rattle.std.specs.Char.Escape.{encode_utf16}
use Rattle.std.proofs.lemmas.Grind.{flat_map-append}
use Rattle.std.proofs.lemmas.Str.{is_utf8-from_IsUtf8}
use Rattle.plist_base.specs.declared.marker.CountedKind.TheVariants as kind
use Rattle.plist_base.specs.Utf16.{units_of}
use Rattle.plist_buffer.specs.inner.LongContents.{is_ascii_text}
use Rattle.std.proofs.Math.Utf8.{scalar, scalars, scalar_cases}
use Rattle.plist_base.specs.declared.real.RealBits.TheVariants.{Four, Eight}
use Rattle.plist_base.proofs.Utf16Forms.{text_of_chars}
use Rattle.plist_base.proofs.Layouts.{layout-data, layout-text, layout-wide_text, layout-array, layout-dictionary}
use Rattle.plist_buffer.proofs.TextUnits.{few_units_in, units_are}
use Rattle.plist_buffer.proofs.Uniques.{all_both}

-- ---- the front of some bytes

pub take_front : (xs rest : List ℕ) (n : ℕ) → length xs ≡ n → take n (xs ++ rest) ≡ xs
take_front xs rest n e = rw (← e) (take-append_seam xs _)

pub drop_front : (xs rest : List ℕ) (n : ℕ) → length xs ≡ n → drop n (xs ++ rest) ≡ rest
drop_front xs rest n e = rw (← e) (drop-append_seam xs _)

-- if the first n bytes are `xs`, applying a function to these and to the bytes after them means
-- applying it to `xs` and `rest`
parted : {A : Type 0} (f : List ℕ → List ℕ → A) (none : A) (xs rest : List ℕ) (n : ℕ)
    → length xs ≡ n → cond (nat_le n (length (xs ++ rest)))
    (f (take n (xs ++ rest)) (drop n (xs ++ rest))) none ≡ f xs rest
parted f none xs rest n e =
    rw (
      ← e,
      le-leb (length xs) (length (xs ++ rest)) (omega (arith, length-append xs rest)),
      take-append_seam xs _,
      drop-append_seam xs _,
    ) refl

pub front : (size : ℕ) (meaning : List ℕ → Object) (content rest : List ℕ) → length content ≡ size
    → meaning_of_front size meaning (content ++ rest) ≡ meaning content
front size meaning content rest e = parted (λ a b. meaning a) _ _ _ _ e

number_front : (f : ℕ → Object) (w n : ℕ) (rest : List ℕ) → n < 256 ^ w
    → meaning_of_front w (λ content. f (number_of content)) (bytes_high_first w n ++ rest) ≡ f n
number_front f w n rest h =
    front w (λ content. f (number_of content)) (bytes_high_first w n) rest (length-big_endian w n)
    ∙ ap f (number_back w n h)

-- ---- integers

natural_read : (width n : ℕ) (rest : List ℕ) → n < 2 ^ 63
    → object_in width (unsigned_form n ++ rest) ≡ Scalar (trees.Integer (pos n))
unfolding object_in
natural_read width n rest h =
    let low = number_front (λ k. Scalar (trees.Integer (pos k))) in
    at_width n (λ w. object_in width (byte_of (integer_marker w) ∷ bytes_high_first w n ++ rest)
    ≡ Scalar (trees.Integer (pos n)))
    (low 1 n rest) (low 2 n rest) (low 4 n rest)
    (number_front (λ k. Scalar (trees.Integer (signed 64 k))) 8 n rest (omega (arith, h))
    ∙ rw (lt-ltb n (2 ^ 63) h) refl)

signed_negative : (m : ℕ) → m < 2 ^ 63 → signed 64 (2 ^ 64 - suc m) ≡ negsuc m
signed_negative m h = rw (le-ltb (2 ^ 64 - suc m) (2 ^ 63) (omega arith)) (omega (arith, ints))

pub integer_read : (width : ℕ) (z : ℤ) (rest : List ℕ) → IsWritableScalar (trees.Integer z)
    → object_in width (scalar_form (trees.Integer z) ++ rest) ≡ Scalar (trees.Integer z)
unfolding object_in
integer_read width (pos n) rest range =
    elim (cases_lt n (2 ^ 63)) [
      | inl low ↦ rw (lt-ltb n (2 ^ 63) low) (natural_read width n rest low)
      | inr high ↦ let fits : n < 2 ^ 64 = omega (arith, ints, range.1) in
          rw (le-ltb n (2 ^ 63) high)
          (number_front (λ k. integer_in_range (signed 128 k)) 16 n rest (omega arith)
          ∙ rw (lt-ltb n (2 ^ 127) (omega arith), lt-ltb n (2 ^ 64) fits) refl)
    ]
integer_read width (negsuc m) rest range =
    number_front (λ k. Scalar (trees.Integer (signed 64 k))) 8 (2 ^ 64 - suc m) rest (omega arith)
    ∙ ap (λ z. Scalar (trees.Integer z)) (signed_negative m (omega (arith, ints, range.0)))

pub uid_read : (width n : ℕ) (rest : List ℕ) → n < 2 ^ 64
    → object_in width (scalar_form (trees.Uid n) ++ rest) ≡ Scalar (trees.Uid n)
unfolding object_in
uid_read width n rest h =
    let back = number_front (λ k. Scalar (trees.Uid k)) in
    at_width n (λ w. object_in width (byte_of (mark.Uid w) ∷ bytes_high_first w n ++ rest)
    ≡ Scalar (trees.Uid n))
    (back 1 n rest) (back 2 n rest) (back 4 n rest) (back 8 n rest (omega (arith, h)))

-- ---- lengths

-- a length that follows a marker is read back
follows : (n : ℕ) (rest : List ℕ) → n < 2 ^ 64
    → length_that_follows (unsigned_form n ++ rest) ≡ Some (n, rest)
follows n rest h =
    at_width n (λ w. length_that_follows (byte_of (integer_marker w) ∷ bytes_high_first w n ++ rest)
    ≡ Some (n, rest))
    (taken 1) (taken 2) (taken 4) (taken 8 (omega (arith, h)))
  where
    taken : (w : ℕ) → n < 256 ^ w → cond {A = Option (ℕ × List ℕ)}
        (nat_le w (length (bytes_high_first w n ++ rest)))
        (Some (number_of (take w (bytes_high_first w n ++ rest)), drop w (bytes_high_first w n ++ rest))) None
        ≡ Some (n, rest)
    taken w small =
        parted (λ a b. Some (number_of a, b)) _ (bytes_high_first w n) rest w (length-big_endian w n)
        ∙ ap (λ k. Some (k, rest)) (number_back w n small)

-- an object with this many elements is read back
pub counted : {size : ℕ} {meaning : ℕ → List ℕ → Object} (width : ℕ) (kind : CountedKind) (count : ℕ)
    (content rest : List ℕ)
    → ((m : ℕ) → high_half kind * 16 ≤ m → m ≤ high_half kind * 16 + 15 → layout_of width m ≡ Counted size meaning)
    → count < 2 ^ 64 → length content ≡ count * size
    → object_in width ((length_form kind count ++ content) ++ rest) ≡ meaning count content
unfolding object_in
counted {size} {meaning} width kind count content rest layout small len =
    let read = front (count * size) (meaning count) content rest len in
    elim (cases_lt count 15) [
      | inl short ↦
          let m : (high_half kind * 16 + count) % 16 ≡ count = omega arith in
          rw (
            length_short kind count short,
            layout (high_half kind * 16 + count) (omega arith) (omega arith),
            m,
            lt-ltb count 15 short,
          ) read
      | inr long ↦
          let m : (high_half kind * 16 + 15) % 16 ≡ 15 = omega arith in
          let following = ap length_that_follows (append_assoc (unsigned_form count) content rest)
          ∙ follows count (content ++ rest) small in
          rw (
            length_long kind count long,
            layout (high_half kind * 16 + 15) (omega arith) (omega arith),
            m,
            following,
          ) read
    ]

-- ---- numbers one after another

pub length-table : (w : ℕ) (xs : List ℕ) → length (flat_map (bytes_high_first w) xs) ≡ length xs * w
length-table w [] = omega arith
length-table w (x ∷ xs) =
    let more : suc (length xs) * w ≡ w + length xs * w = grind arith in
    omega (
      arith,
      length-table w xs,
      length-big_endian w x,
      length-append (bytes_high_first w x) (flat_map (bytes_high_first w) xs),
    )

number_there : (w : ℕ) (xs : List ℕ) (k : ℕ) → AllFit w xs → k < length xs
    → get_or xs k 0 ≡ number_of (take w (drop (k * w) (flat_map (bytes_high_first w) xs)))
number_there w [] k fit h = absurd (omega arith)
number_there w (x ∷ xs) zero fit h =
    let none : zero * w ≡ 0 = omega arith in
    rw (none, take_front (bytes_high_first w x) (flat_map (bytes_high_first w) xs) w (length-big_endian w x))
    (sym (number_back w x fit.0))
number_there w (x ∷ xs) (suc k) fit h =
    let more : suc k * w ≡ w + k * w = grind arith in
    rw (
      more,
      ← drop-drop (k * w) w (bytes_high_first w x ++ flat_map (bytes_high_first w) xs),
      drop_front (bytes_high_first w x) (flat_map (bytes_high_first w) xs) w (length-big_endian w x),
    ) (number_there w xs k fit.1 (omega arith))

pub numbers_back : (w : ℕ) (xs : List ℕ) → 0 < w → AllFit w xs
    → numbers_spelled w (flat_map (bytes_high_first w) xs) ≡ xs
numbers_back w xs positive fit =
    rw (length-table w xs, mul-div_cancel (length xs) {n = w} positive)
    (sym (fill_by_all (λ i. number_at (flat_map (bytes_high_first w) xs) (i * w) w) xs (length xs) 0 refl
    (λ k h. number_there w xs k fit h)))

width_is : (n : ℕ) → is_width (least_width n) ≡ true
unfolding least_width
width_is n = grind arith

pub width_positive : (n : ℕ) → 0 < least_width n
unfolding least_width
width_positive n = grind arith

trailer_back : (ow rf count at : ℕ) → count < 2 ^ 64 → at < 2 ^ 64
    → trailer_in (0 ∷ 0 ∷ 0 ∷ 0 ∷ 0 ∷ 0 ∷ ow ∷ rf
    ∷ table_form 8 (count ∷ 0 ∷ at ∷ []))
    ≡ record { offset_width = ow; reference_width = rf; count = count; root = 0; table = at }
trailer_back ow rf count at few short =
    let a : number_of (ow ∷ []) ≡ ow = omega arith in
    let b : number_of (rf ∷ []) ≡ rf = omega arith in
    let c = number_back 8 _ (omega arith) in
    let z = number_back 8 0 (omega arith) in
    let t = number_back 8 at (omega arith) in
    λ i. record { offset_width = a i; reference_width = b i; count = c i; root = z i; table = t i }

head_with_is : (bytes offsets : List ℕ) (trailer ow rf count at : ℕ) → is_width ow ≡ true
    → is_width rf ≡ true → at + count * ow ≤ trailer
    → numbers_spelled ow (take (count * ow) (drop at bytes)) ≡ offsets
    → head_with bytes trailer
    (record { offset_width = ow; reference_width = rf; count = count; root = 0; table = at })
    ≡ Ok (record { trailer = trailer; reference_width = rf; root = 0; places = offsets })
head_with_is bytes offsets trailer ow rf count at a b h e =
    rw (a, b, le-ltb _ _ h, e) refl

head_whole : (bytes : List ℕ) → starts_with nat_eq bytes magic ≡ true → 32 ≤ length bytes
    → head_of bytes ≡ head_with bytes (length bytes - 32)
    (trailer_in (drop (length bytes - 32) bytes))
unfolding head_of
head_whole bytes e h =
    let big : 8 ≤ length bytes = omega arith in
    rw (le-ltb _ 8 big, e, le-ltb _ 32 h) refl

module _ (body offsets : List ℕ) where
  abbrev file : List ℕ
  file = magic ++ body

  abbrev wide : ℕ
  wide = least_width (length file)

  abbrev table : List ℕ
  table = table_form wide offsets

  abbrev trailer : List ℕ
  trailer = trailer_of (length offsets) (length file)

  -- the offset of the trailer
  abbrev pub last : ℕ
  last = length file + length offsets * wide

  -- the file with its offset table and trailer
  abbrev pub whole : List ℕ
  whole = file ++ table_and_trailer offsets (length file)

  length_front : length (file ++ table) ≡ last
  length_front = omega (arith, length-append file table, length-table wide offsets)

  regroup : whole ≡ (file ++ table) ++ trailer
  regroup = sym (append_assoc file _ _)

  pub length_closed : length whole ≡ last + 32
  length_closed =
      let n : length trailer ≡ 32 = refl in
      omega (arith, n, ap length regroup, length-append (file ++ table) trailer, length_front)

  pub front_is : take last whole ≡ file ++ table
  front_is = ap (take _) regroup ∙ take_front _ trailer last length_front

  pub head_is : length offsets < 2 ^ 64 → length file < 2 ^ 64 → AllFit wide offsets
      → head_of whole ≡ Ok (record {
        trailer = last;
        reference_width = reference_width (length offsets);
        root = 0;
        places = offsets;
      })
  head_is few short fit =
      let at : length whole - 32 ≡ last = omega (arith, length_closed) in
      let end : drop last whole ≡ trailer =
      ap (drop last) regroup ∙ drop_front (file ++ table) trailer last length_front in
      let back : numbers_spelled wide (take (length offsets * wide) (drop (length file) whole))
      ≡ offsets = rw (
        drop-append_seam file (table ++ trailer),
        take_front table trailer _ (length-table wide offsets),
      ) (numbers_back wide offsets (width_positive (length file)) fit) in
      head_whole whole refl (omega (arith, length_closed))
      ∙ rw (at, end) (ap (head_with whole last)
      (trailer_back wide (reference_width (length offsets)) (length offsets) (length file) few short)
      ∙ head_with_is whole offsets last wide (reference_width (length offsets)) (length offsets)
      (length file) (width_is (length file)) (width_is (length offsets - 1)) (omega arith) back)

-- ---- objects

-- ---- strings

unit_bounds : (c : ℕ) → scalar c ≡ true → AllFit 2 (encode_utf16 c)
unit_bounds c s =
    elim (cases_lt c _) [
      | inl low ↦ rw (lt-ltb c 0x1_0000 low) (low, tt)
      | inr high ↦ elim (scalar_cases c s) [
        | inl a ↦ absurd (omega arith)
        | inr a ↦ rw (le-ltb c 0x1_0000 high) (omega (arith, a.1), (omega (arith, a.1), tt))
      ]
    ]

units_fit : (cs : List ℕ) → scalars cs ≡ true → AllFit 2 (flat_map encode_utf16 cs)
units_fit [] s = tt
units_fit (c ∷ cs) s =
    let k = and_parts (scalar c) (scalars cs) s in
    all_both _ _ _ (unit_bounds c k.0) (units_fit cs k.1)

pub text_read : (width : ℕ) (t rest : List ℕ) → IsWritableScalar (trees.String t)
    → object_in width (scalar_form (trees.String t) ++ rest) ≡ Scalar (trees.String t)
text_read width t rest is =
    elim (is_ascii_text t) as (λ b. object_in width
    (cond b (length_form kind.Text (length t) ++ t)
    (length_form kind.WideText (length (units_of t)) ++ table_form 2 (units_of t)) ++ rest)
    ≡ Scalar (trees.String t)) [
      | true ↦ counted width kind.Text (length t) t rest (layout-text width) is.1 (omega arith)
          ∙ rw (is_utf8-from_IsUtf8 t is.0) refl
      | false ↦
          counted width kind.WideText (length (units_of t)) (flat_map (bytes_high_first 2) (units_of t)) rest
          (layout-wide_text width) few (length-table 2 (units_of t))
          ∙ ap text_of_units (numbers_back 2 (units_of t) (omega arith)
          (rw units (units_fit is.0.0 is.0.1.0))
          ∙ units) ∙ text_of_chars is.0.0 is.0.1.0
          ∙ ap (λ l. Scalar (trees.String l)) is.0.1.1
    ]
  where
    units : units_of t ≡ flat_map encode_utf16 is.0.0
    units = units_are t is.0.0 is.0.1.0 is.0.1.1

    few : length (units_of t) < 2 ^ 64
    few = omega (arith, is.1, ap length units, few_units_in is.0.0, ap length is.0.1.1)

-- ---- any object

scalar_read : (width : ℕ) (x : trees.Scalar) (rest : List ℕ) → IsWritableScalar x
    → object_in width (scalar_form x ++ rest) ≡ Scalar x
unfolding object_in
scalar_read width (trees.Boolean true) rest is = front 0
    (λ _. Scalar (trees.Boolean true)) [] rest refl
scalar_read width (trees.Boolean false) rest is = front 0
    (λ _. Scalar (trees.Boolean false)) [] rest refl
scalar_read width (trees.Data v) rest is =
    counted width kind.Data (length v) v rest (layout-data width) is (omega arith)
scalar_read width (trees.Date v) rest is = front 8 date v rest is.1 ∙ ap date_if_any is.0
scalar_read width (trees.Integer v) rest is = integer_read width v rest is
scalar_read width (trees.Real (Four v)) rest is =
    front 4 (λ content. Scalar (trees.Real (Four content))) v rest is
scalar_read width (trees.Real (Eight v)) rest is =
    front 8 (λ content. Scalar (trees.Real (Eight content))) v rest is
scalar_read width (trees.String v) rest is = text_read width v rest is
scalar_read width (trees.Uid v) rest is = uid_read width v rest is

zip_is : (ps : List (ℕ × ℕ)) → zip (keys_of ps) (values_of ps) ≡ ps
zip_is [] = refl
zip_is (p ∷ ps) = ap (λ l. p ∷ l) (zip_is ps)

pub dictionary_is : (ps : List (ℕ × ℕ)) → dictionary (length ps) (keys_of ps ++ values_of ps)
    ≡ Dictionary ps
dictionary_is ps =
    rw (
      ← length-map ps (λ pair. pair.0),
      take-append_seam _ _,
      drop-append_seam _ _,
      zip_is ps,
    ) refl

pub form_read : (w : ℕ) → 0 < w → (o : Object) (rest : List ℕ) → IsWritable w o
    → object_in w (form w o ++ rest) ≡ o
form_read w positive (Scalar x) rest is = scalar_read w x rest is
form_read w positive (Array items) rest is =
    counted w kind.Array (length items) (flat_map (bytes_high_first w) items) rest (layout-array w) is.0
    (length-table w items)
    ∙ ap Array (numbers_back w items positive is.1)
form_read w positive (Dictionary ps) rest is =
    let many : length (keys_of ps ++ values_of ps) * w ≡ length ps * (2 * w) =
    simp (length-append, length-map) (grind arith) in
    rw (← flat_map-append (bytes_high_first w) (keys_of ps) (values_of ps))
    (counted w kind.Dictionary (length ps)
    (flat_map (bytes_high_first w) (keys_of ps ++ values_of ps)) rest
    (layout-dictionary w) is.0 (length-table w (keys_of ps ++ values_of ps) ∙ many)
    ∙ ap (dictionary (length ps)) (numbers_back w (keys_of ps ++ values_of ps) positive
    (all_both _ (keys_of ps) (values_of ps) is.1 is.2))
    ∙ dictionary_is ps)
form_read w positive (Faulty kind) rest is = absurd is
