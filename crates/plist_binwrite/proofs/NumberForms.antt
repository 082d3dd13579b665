-- Big-endian numbers, the least width of a number, and the bytes of each form of a number or a length,
-- and of numbers that are put one after another.
use Rattle.std.proofs.Common.{◌≡◌, inl, inr, ℕ, zero, suc, ◌+◌, ◌-◌, ◌*◌, ◌/◌, ◌%◌, ◌^◌, ◌<◌, ◌≤◌, length, take, refl, ap, sym, subst, ◌∙◌, arith, [], ◌∷◌, ◌++◌, List, get_or, map, append-nil, flat_map}
use Rattle.std.specs.Int.{byte_at, bytes_high_first}
use Rattle.std.specs.Int.Digits.{number_from_digits_after}
use Rattle.std.proofs.Math.Nat.{pow-succ', dvd-mul_right, mod-mod_of_dvd, mul-div-mul_right}
use Rattle.std.proofs.lemmas.Bool.{lt-ltb, le-ltb, cases_lt}
use Rattle.std.proofs.lemmas.Nat.{div-mul-add, mod_below, pow-add}
use lib.Arith.{mod-mul}
use native.Mathlib.Nat.{mod-eq_of_lt, div-eq_of_lt}
use Rattle.plist_base.specs.Container.{number_of}
use Rattle.plist_binwrite.specs.Forms.{least_width, unsigned_form, length_form, table_form}
use Rattle.plist_base.specs.Object.{high_half}
use Rattle.plist_base.specs.declared.marker.CountedKind.{CountedKind}
use Rattle.std.proofs.lemmas.List.{map-append, take_more}
use Rattle.std.proofs.lemmas.Grind.{flat_map-append}

-- ---- the least width

-- what is true of 1, 2, 4 and 8, each if it is wide enough, is true of the least width
pub at_width : (n : ℕ) (P : ℕ → Type 0) → (n < 256 ^ 1 → P 1) → (n < 256 ^ 2 → P 2)
    → (n < 256 ^ 4 → P 4) → P 8 → P (least_width n)
unfolding least_width
at_width n P one two four eight = elim (cases_lt n (2 ^ 8)) [
  | inl a ↦ rw (lt-ltb n _ a) (one a)
  | inr a ↦ rw (le-ltb n _ a) (elim (cases_lt n (2 ^ 16)) [
    | inl b ↦ rw (lt-ltb n _ b) (two b)
    | inr b ↦ rw (le-ltb n _ b) (elim (cases_lt n (2 ^ 32)) [
      | inl d ↦ rw (lt-ltb n _ d) (four d)
      | inr d ↦ rw (le-ltb n _ d) eight
    ])
  ])
]

pub width_holds : (n : ℕ) → n < 2 ^ 64 → n < 256 ^ least_width n
width_holds n h = at_width n (λ w. n < 256 ^ w) (λ a. a) (λ a. a) (λ a. a) (omega arith)

-- ---- big-endian numbers

pub length-big_endian : (w n : ℕ) → length (bytes_high_first w n) ≡ w
length-big_endian zero n = refl
length-big_endian (suc w) n = ap suc (length-big_endian w n)

pow_positive : (w : ℕ) → 0 < 256 ^ w
pow_positive zero = omega arith
pow_positive (suc w) = omega (arith, pow-succ' 256 w, pow_positive w)

byte_is : (w n : ℕ) → byte_at w n ≡ n / 256 ^ w % 256
byte_is zero n = let e : n / 256 ^ 0 ≡ n = omega arith in rw e refl
byte_is (suc w) n = refl

high_digit : (w n : ℕ) → n % 256 ^ suc w ≡ byte_at w n * 256 ^ w + n % 256 ^ w
high_digit w n =
    rw (byte_is w n, pow-succ' 256 w) (mod-mul n (omega arith)
    (pow_positive w))

number_after : (w m n : ℕ) → number_from_digits_after 256 m (bytes_high_first w n)
    ≡ m * 256 ^ w + n % 256 ^ w
number_after zero m n = let z : n % 256 ^ 0 ≡ 0 = omega arith in omega arith
number_after (suc w) m n =
    rw (number_after w _ n, high_digit w n, pow-succ' 256 w) (grind arith)

-- a number that is written is read back
pub number_back : (w n : ℕ) → n < 256 ^ w → number_of (bytes_high_first w n) ≡ n
number_back w n h = omega (arith, number_after w 0 n, mod-eq_of_lt h)

-- ---- numbers in the highest bytes of another one

eight_bits : (d : ℕ) → 2 ^ (8 * d) ≡ 256 ^ d
eight_bits zero = refl
eight_bits (suc d) =
    let more : 8 * suc d ≡ 8 + 8 * d = omega arith in
    rw (more, pow-add 2 8 (8 * d), eight_bits d, pow-succ' 256 d) refl

-- byte w of n is byte w + d of n times 256^d, whose first eight bytes are kept
shifted_byte : (w d n : ℕ) → w + d < 8 → byte_at (w + d) (n * 256 ^ d % 256 ^ 8) ≡ byte_at w n
shifted_byte w d n h =
    let k = w + d in
    let r = 7 - k in
    let c = pow_positive k in
    let split : 256 ^ 8 ≡ 256 ^ suc r * 256 ^ k =
    ap (λ e. 256 ^ e) (let e : 8 ≡ suc r + k = omega (arith, h) in e) ∙ pow-add 256 (suc r) k in
    let high : n * 256 ^ d / 256 ^ k ≡ n / 256 ^ w =
    rw (pow-add 256 w d) (mul-div-mul_right n (256 ^ w) (pow_positive d)) in
    byte_is k _
    ∙ ap (λ m. m / 256 ^ k % 256) (ap (λ m. n * 256 ^ d % m) split ∙ mod-mul _ (pow_positive (suc r)) c)
    ∙ ap (λ m. m % 256) (div-mul-add _ (256 ^ k) _ (mod_below _ _ c) ∙ ap (λ m. m % 256 ^ suc r) high)
    ∙ mod-mod_of_dvd 256 (n / 256 ^ w) (rw (pow-succ' 256 r) (dvd-mul_right 256 (256 ^ r)))
    ∙ sym (byte_is w n)

shifted_front : (w d n : ℕ) → w + d ≤ 8
    → take w (bytes_high_first (w + d) (n * 256 ^ d % 256 ^ 8)) ≡ bytes_high_first w n
shifted_front zero d n h = refl
shifted_front (suc w) d n h =
    let e : suc w + d ≡ suc (w + d) = omega arith in
    rw e (cc (shifted_byte w d n (omega (arith, h)), shifted_front w d n (omega (arith, h))))

-- the first bytes of a number that was shifted up are its lowest bytes before that
pub front_of_shifted : (w n : ℕ) → w ≤ 8
    → take w (bytes_high_first 8 (n * 2 ^ ((64 - 8 * w) % 64) % 2 ^ 64)) ≡ bytes_high_first w n
front_of_shifted zero n h = refl
front_of_shifted (suc w) n h =
    let d = 7 - w in
    let bits : (64 - 8 * suc w) % 64 ≡ 8 * d = omega (arith, h) in
    let up : 2 ^ (8 * d) ≡ 256 ^ d = eight_bits d in
    let all : suc w + d ≡ 8 = omega (arith, h) in
    ap (λ m. take (suc w) (bytes_high_first 8 (n * m % 2 ^ 64))) (ap (λ b. 2 ^ b) bits ∙ up)
    ∙ subst (λ k. take (suc w) (bytes_high_first k (n * 256 ^ d % 256 ^ 8)) ≡ bytes_high_first (suc w) n) all
    (shifted_front (suc w) d n (omega (arith, h)))

-- ---- the forms of numbers

pub length_short : (kind : CountedKind) (count : ℕ) → count < 15 → length_form kind count ≡ (high_half kind * 16 + count) ∷ []
unfolding length_form
length_short kind count h = rw (lt-ltb _ 15 h) refl

pub length_long : (kind : CountedKind) (count : ℕ) → 15 ≤ count
    → length_form kind count ≡ (high_half kind * 16 + 15) ∷ unsigned_form count
unfolding length_form
length_long kind count h = rw (le-ltb _ 15 h) refl

high_zero : (k n : ℕ) → n < 256 ^ k → byte_at k n ≡ 0
high_zero zero n h = omega arith
high_zero (suc k) n h = let e = div-eq_of_lt h in rw e refl

pub wide_is : (n : ℕ) → n < 2 ^ 64 → bytes_high_first 16 n ≡ bytes_high_first 8 0 ++ bytes_high_first 8 n
wide_is n h =
    rw (
      high_zero 15 n (omega arith),
      high_zero 14 n (omega arith),
      high_zero 13 n (omega arith),
      high_zero 12 n (omega arith),
      high_zero 11 n (omega arith),
      high_zero 10 n (omega arith),
      high_zero 9 n (omega arith),
      high_zero 8 n (omega arith),
    ) refl

-- ---- the bytes of several numbers

module _ (f : ℕ → List ℕ) (xs : List ℕ) (i : ℕ) (lt : i < length xs) where
  pub one_part : flat_map f (take i xs) ++ f (get_or xs i 0) ≡ flat_map f (take (i + 1) xs)
  one_part =
      rw (take_more xs i 0 lt, flat_map-append f _ _, append-nil _) refl

-- ---- the bytes of references

-- the numbers of the events at these indices
abbrev pub references : (number : ℕ → ℕ) (width : ℕ) → List ℕ → List ℕ
references number width indices = table_form width (map number indices)

-- one more reference is put
pub references_more : (number : ℕ → ℕ) (width : ℕ) (front : List ℕ) (child : ℕ)
    → references number width front ++ bytes_high_first width (number child)
    ≡ references number width (front ++ child ∷ [])
references_more number width front child =
    sym (ap (table_form width) (map-append number front (child ∷ []))
    ∙ flat_map-append (bytes_high_first width) (map number front) (number child ∷ [])
    ∙ ap (λ l. references number width front ++ l) (append-nil _))
