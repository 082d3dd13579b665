-- The bits of a whole second encode that second.
use Rattle.std.proofs.Common.{rules, ◌≡◌, ℕ, zero, suc, ◌+◌, ◌-◌, ◌*◌, ◌/◌, ◌%◌, ◌^◌, ◌<◌, ◌≤◌, Bool, true, false, cond, eqb, ℤ, pos, negsuc, neg_ℤ, Option, None, Some, List, refl, ap, sym, ◌∙◌, arith, pow-add, inl, inr}
use Rattle.std.proofs.Math.Nat.{pow-le-pow_right, one-le-pow, mul-div_cancel, mul-mod_left, mul-le-mul_right}
use Rattle.std.proofs.lemmas.Nat.{leading_top, from_be_bytes-to_be_bytes_8}
use Rattle.std.specs.Int.{to_be_bytes, w64}
use Rattle.std.specs.Int.Count.{count_leading_zeros}
use Rattle.std.proofs.lemmas.Bool.Decides.{nat_tests, leb_tells}
use Rattle.std.specs.Prelude.{unsigned_abs, is_none, ◌*ℤ◌}
use Rattle.std.specs.Int.Signed.{lt_z}
use Rattle.std.proofs.lemmas.Int.{ints}
use Rattle.std.specs.Option.{option_map}
use Rattle.plist_base.specs.Date.{real_exponent, real_mantissa, real_scale, parts_in_second, parts_of, whole_seconds, parts_left, real_second, rounded_down, is_second_of_date, if_second_of_date, is_negative, second_of_bits, has_fraction, real_bits, real_parts, date_bytes, IsWholeAt}
use Rattle.plist_base.specs.Date.{whole_bits}
use Rattle.plist_base.proofs.DateShifts.{second_pos}

pub record Encoded (n : ℕ) : Type 0 where
  pub j : ℕ
  pub small : j ≤ 52
  pub zeros : count_leading_zeros 64 n + j ≡ 63
  pub low : 2 ^ 52 ≤ n * 2 ^ (52 - j)
  pub high : n * 2 ^ (52 - j) < 2 ^ 53
  pub is : whole_bits n ≡ (1022 + j) * 2 ^ 52 + n * 2 ^ (52 - j)

powers : (a b : ℕ) → a + b ≡ 52 → 2 ^ a * 2 ^ b ≡ 2 ^ 52
powers a b e = cc (pow-add 2 a b)

not_far : (n j : ℕ) → n < 2 ^ 53 → 2 ^ j ≤ n → j ≤ 52
not_far n j big lo =
    elim (leb_tells 53 j) [
      | inl e ↦ let p : 2 ^ 53 ≤ 2 ^ j = pow-le-pow_right (omega arith) e.1 in omega arith
      | inr e ↦ omega arith
    ]

scaled_low : (n j q : ℕ) → 2 ^ j ≤ n → 2 ^ j * q ≡ 2 ^ 52 → 2 ^ 52 ≤ n * q
scaled_low n j q lo e = let p = mul-le-mul_right q lo in omega arith

scaled_high : (n j q : ℕ) → n < 2 ^ suc j → 1 ≤ q → 2 ^ j * q ≡ 2 ^ 52 → n * q < 2 ^ 53
scaled_high n j q hi one e =
    let p : suc n * q ≤ 2 * 2 ^ j * q = mul-le-mul_right q (omega arith) in grind arith

pub encoded : (n : ℕ) → 0 < n → n < 2 ^ 53 → Encoded n
unfolding whole_bits
encoded n h big =
    let t = leading_top 64 n h (omega arith) in
    let near = not_far n _ big t.2 in
    let q = powers _ _ (omega arith) in
    let none : eqb n 0 ≡ false = grind (arith, nat_tests) in
    let a : 1085 - count_leading_zeros 64 n ≡ 1022 + t.0 = omega arith in
    let b : count_leading_zeros 64 n - 11 ≡ 52 - t.0 = omega arith in
    record {
      j = t.0;
      small = near;
      zeros = omega arith;
      low = scaled_low n _ _ t.2 q;
      high = scaled_high n _ _ t.3 (one-le-pow _ 2 (omega arith)) q;
      is = rw (none, a, b) refl;
    }

-- n whole seconds have n times the parts of one second
whole_parts : (n j : ℕ) → j ≤ 52 → parts_of (n * 2 ^ (52 - j)) (1023 + j) ≡ n * parts_in_second
unfolding parts_of parts_in_second
whole_parts n j near =
    let s : (52 - j) + (1023 + j) ≡ 1075 = omega arith in
    let p = sym (pow-add 2 _ _)
    ∙ ap (λ k. 2 ^ k) s in
    let a : n * 2 ^ (52 - j) * 2 ^ (1023 + j) ≡ n * (2 ^ (52 - j) * 2 ^ (1023 + j)) = omega arith in
    cc

module _ (n s : ℕ) (k : Encoded n) (bits : ℕ) (sign : s ≤ 1)
    (are : bits ≡ s * 2 ^ 63 + whole_bits n) where
  sum : bits ≡ s * 2 ^ 63 + ((1022 + k.j) * 2 ^ 52 + n * 2 ^ (52 - k.j))
  sum = cc

  exponent_is : real_exponent bits ≡ 1023 + k.j
  unfolding real_exponent
  exponent_is = omega (arith, sum)

  mantissa_is : real_mantissa bits ≡ n * 2 ^ (52 - k.j)
  unfolding real_mantissa
  mantissa_is =
      let e = sum in let x = exponent_is in
      let none : eqb (real_exponent bits) 0 ≡ false = grind (arith, nat_tests) in
      rw none (omega arith)

  scale_is : real_scale bits ≡ 1023 + k.j
  unfolding real_scale
  scale_is = let x = exponent_is in omega arith

  parts_are : parts_of (real_mantissa bits) (real_scale bits) ≡ n * parts_in_second
  parts_are = rw (mantissa_is, scale_is) (whole_parts n _ k.small)

  whole_is : whole_seconds (real_mantissa bits) (real_scale bits) ≡ n
  unfolding whole_seconds
  whole_is = ap (λ p. p / parts_in_second) parts_are ∙ mul-div_cancel n second_pos

  left_is : parts_left (real_mantissa bits) (real_scale bits) ≡ 0
  unfolding parts_left
  left_is = ap (λ p. p % parts_in_second) parts_are ∙ mul-mod_left n _

  pub second_is : second_of_bits bits ≡ if_second_of_date (rounded_down (is_negative bits) n 0)
  unfolding second_of_bits real_second
  second_is =
      let x = exponent_is in
      let none : eqb (real_exponent bits) 2047 ≡ false = grind (arith, nat_tests) in
      rw (none, whole_is, left_is) refl

  pub no_fraction : has_fraction bits ≡ false
  unfolding has_fraction
  no_fraction = rw left_is refl

pub shifted : (n z : ℕ) → Encoded n → z ≡ count_leading_zeros 64 n
    → n * 2 ^ (z - 11) % 18446744073709551616 ≡ n * 2 ^ (z - 11)
shifted n z k e = search rules

pub sum_is : (n z : ℕ) → Encoded n → z ≡ count_leading_zeros 64 n
    → ((1085 - z) * 4503599627370496 + n * 2 ^ (z - 11) % 18446744073709551616 ≡ whole_bits n)
    × (whole_bits n < 2 ^ 63)
sum_is n z k e = search rules

whole_small : (n : ℕ) → Encoded n → whole_bits n < 2 ^ 63
whole_small n k = omega arith

-- the bits are those of the second, encode it without a fraction, and have exactly its value
pub record AreWritten (second : ℤ) (bits : ℕ) : Type 0 where
  pub is : (is_second_of_date second ≡ true) × (eqb bits (2 ^ 63) ≡ false)
  pub back : IsWholeAt second bits
  pub exact : real_parts bits ≡ (second *ℤ pos parts_in_second)

zero_written : AreWritten (pos 0) (whole_bits 0)
unfolding second_of_bits real_second real_exponent real_mantissa real_scale whole_seconds parts_left
    parts_of parts_in_second has_fraction whole_bits real_parts
zero_written = record { is = (refl, refl); back = (refl, refl); exact = refl }

written_pos : (n : ℕ) → is_second_of_date (pos n) ≡ true → AreWritten (pos n) (whole_bits n)
unfolding real_parts
written_pos zero h = zero_written
written_pos (suc n) h =
    let small : suc n < 2 ^ 53 = grind (arith, nat_tests) in
    let k = encoded _ (omega arith) small in
    let low = whole_small _ k in
    let bits = whole_bits (suc n) in
    let plus : is_negative bits ≡ false = grind (arith, nat_tests) in
    record {
      is = (h, grind (arith, nat_tests));
      back = (
        second_is _ 0 k bits (omega arith) (omega arith) ∙ rw (plus, h) refl,
        no_fraction
            (suc n) 0 k bits (omega arith) (omega arith),
      );
      exact = rw plus (ap pos (parts_are _ 0 k _ (omega arith) (omega arith)));
    }

written_neg : (n : ℕ) → is_second_of_date (negsuc n) ≡ true
    → AreWritten (negsuc n) (2 ^ 63 + whole_bits (suc n))
unfolding real_parts
written_neg n h =
    let small : suc n < 2 ^ 53 = grind (arith, nat_tests) in
    let k = encoded _ (omega arith) small in
    let bits = 2 ^ 63 + whole_bits _ in
    let minus : is_negative bits ≡ true = grind (arith, nat_tests) in
    let some : 0 < whole_bits (suc n) = omega (arith, k.is, k.low) in
    record {
      is = (h, grind (arith, nat_tests));
      back = (
        second_is _ 1 k bits (omega arith) (omega arith) ∙ rw
            (minus, h) refl,
        no_fraction _ 1 k _ (omega arith) (omega arith),
      );
      exact = rw minus (ap (λ p. neg_ℤ (pos p))
          (parts_are _ 1 k _ (omega arith) (omega arith)));
    }

tested : (b : Bool) (z y : ℤ) → ◌≡◌ {A = Option ℤ} (Some y) (cond b (Some z) None) → b ≡ true
tested b z y e = search rules

-- the bits that are computed for a second are its bits, whether it is negative or not
pub below_zero : (z x y : ℤ) (b n : ℕ) → x ≡ z → Some y ≡ if_second_of_date x
    → lt_z x (pos 0) ≡ true → n ≡ unsigned_abs x → b ≡ whole_bits n → AreWritten z (2 ^ 63 + b)
below_zero z (pos n) y b m same h lt is e = absurd (grind (arith, ints))
below_zero z (negsuc n) y b m same h lt is e =
    rw (← same, e, is) (written_neg n (tested _ _ y h))

pub from_zero : (z x y : ℤ) (b n : ℕ) → x ≡ z → Some y ≡ if_second_of_date x
    → lt_z x (pos 0) ≡ false → n ≡ unsigned_abs x → b ≡ whole_bits n → AreWritten z b
from_zero z (pos n) y b m same h le is e =
    rw (← same, e, is) (written_pos n (tested _ _ y h))
from_zero z (negsuc n) y b m same h le is e = absurd (cc)

pub bytes_are : (bs : List ℕ) (b : ℕ) → bs ≡ to_be_bytes w64 b → b < 2 ^ 64 → real_bits bs ≡ b
bytes_are bs b e h = cc (from_be_bytes-to_be_bytes_8 b h)

-- eight bytes that have a second, and aren't the negative zero, are those of a date
pub date_of_second : (second : Option ℤ) (bs : List ℕ) → is_none second ≡ false
    → eqb (real_bits bs) (2 ^ 63) ≡ false → option_map (λ _. date_bytes bs) second ≡ Some bs
date_of_second None bs some plain = absurd (cc)
date_of_second (Some second) bs some plain = rw plain refl

-- rules for the bits of a second
pub ruleset seconds_written = (below_zero, from_zero)
