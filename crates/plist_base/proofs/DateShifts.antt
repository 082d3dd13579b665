-- Shifts of a mantissa, and the seconds that are out of range.
use Rattle.std.proofs.Common.{rules, ◌≡◌, ℕ, zero, suc, ◌+◌, ◌-◌, ◌*◌, ◌/◌, ◌%◌, ◌^◌, ◌<◌, ◌≤◌, Bool, true, false, not, cond, eqb, ℤ, pos, neg_ℤ, Option, None, refl, ap, sym, ◌∙◌, arith, pow-add, ◌⊎◌, inl, inr}
use Rattle.std.proofs.Math.Nat.{pow-le-pow_right, one-le-pow, div-eq_of_lt, mod-eq_of_lt, mul-le-mul_right, div-lt_iff_lt-mul, div-add-mod, mod-lt, le-div_iff_mul-le}
use Rattle.std.proofs.lemmas.Nat.{div-mul-add, mod-mul-add}
use Rattle.std.proofs.lemmas.Bool.Decides.{nat_tests}
use Rattle.std.proofs.lemmas.Int.{ints}
use mir.Val.{bool_byte}
use Rattle.plist_base.specs.Date.{real_exponent, real_mantissa, real_scale, parts_in_second, parts_of, whole_seconds, parts_left, has_fraction, real_second, rounded_down, is_second_of_date, if_second_of_date, is_negative, second_of_bits}

-- the number of parts in a second is the product of two powers
split : (e : ℕ) → e < 1075 → parts_in_second ≡ 2 ^ (1075 - e) * 2 ^ e
unfolding parts_in_second
split e h = let s : 1075 ≡ (1075 - e) + e =
    omega arith in ap (λ k. 2 ^ k) s ∙ pow-add 2 _ e

-- a common factor of both numbers doesn't change the quotient, and multiplies the remainder
factored : (m q c : ℕ) → 0 < q → 0 < c → (m * c / (q * c) ≡ m / q) × (m * c % (q * c) ≡ m % q * c)
factored m q c hq hc =
    let d = div-add-mod m q in
    let lt = mod-lt m hq in
    let up = mul-le-mul_right c lt in
    let small : m % q * c < q * c = omega arith in
    let e = sym (ap (λ k. k * c) d) ∙ omega arith in (
      ap (λ k. k / (q * c)) e ∙ div-mul-add _ _ _ small,
      ap (λ k. k % (q * c)) e ∙ mod-mul-add _ _ _ small,
    )

pub power_pos : (k : ℕ) → 0 < 2 ^ k
power_pos k = let p = one-le-pow k 2 (omega arith) in omega arith

pub second_pos : 0 < parts_in_second
unfolding parts_in_second
second_pos = power_pos 1075

whole_shifted : (m e : ℕ) → e < 1075 → whole_seconds m e ≡ m / 2 ^ (1075 - e)
unfolding whole_seconds parts_of
whole_shifted m e h =
    rw (split e h) ((factored m _ _ (power_pos _) (power_pos e)).0)

left_scaled : (m e : ℕ) → e < 1075 → parts_left m e ≡ m % 2 ^ (1075 - e) * 2 ^ e
unfolding parts_left parts_of
left_scaled m e h =
    rw (split e h) ((factored m _ _ (power_pos _) (power_pos e)).1)

zero_scaled : (a c : ℕ) → 0 < c → eqb (a * c) 0 ≡ eqb a 0
zero_scaled zero c h = let z : 0 * c ≡ 0 = omega arith in rw z refl
zero_scaled (suc a) c h = grind (arith, nat_tests)

-- parts are left if and only if the mantissa has bits below the whole seconds
left_shifted : (m e : ℕ) → e < 1075 → eqb (parts_left m e) 0 ≡ eqb (m % 2 ^ (1075 - e)) 0
left_shifted m e h = rw (left_scaled m e h) (zero_scaled _ _ (power_pos e))

multiple : (m c d power : ℕ) → 0 < d → power ≡ c * d → m * power % d ≡ 0
multiple m c d power h is =
    let e : m * (c * d) ≡ m * c * d + 0 = grind arith in
    rw is (ap (λ k. k % d) e ∙ mod-mul-add _ d 0 h)

-- with a scale of 1075 or more, no parts are left
left_far : (m e : ℕ) → 1075 ≤ e → parts_left m e ≡ 0
unfolding parts_left parts_of parts_in_second
left_far m e h =
    let s : e ≡ (e - 1075) + 1075 = omega arith in
    multiple m _ _ _ (power_pos 1075)
    (ap (λ k. 2 ^ k) s ∙ pow-add 2 _ _)

above : (m k : ℕ) → m < 2 ^ 53 → 53 ≤ k → m < 2 ^ k
above m k h big = let p = pow-le-pow_right {n = 2} (omega arith) big in omega arith

-- a shift by 53 bits or more removes all bits of a mantissa, as any longer one does
module _ (m e shift : ℕ) (h : m < 2 ^ 53) (lt : e < 1075)
    (by : (shift ≡ 1075 - e) ⊎ ((53 ≤ shift) × (53 ≤ 1075 - e))) where
  whole_by : m / 2 ^ shift ≡ whole_seconds m e
  whole_by = elim by [
    | inl same ↦ rw same (sym (whole_shifted m e lt))
    | inr (far, beyond) ↦ div-eq_of_lt (above m shift h far)
        ∙ sym (whole_shifted m e lt ∙ div-eq_of_lt (above m _ h beyond))
  ]

  left_by : eqb (m % 2 ^ shift) 0 ≡ eqb (parts_left m e) 0
  left_by = elim by [
    | inl same ↦ rw same (sym (left_shifted m e lt))
    | inr (far, beyond) ↦ ap (λ k. eqb k 0) (mod-eq_of_lt (above m shift h far))
        ∙ sym (left_shifted m e lt ∙ ap (λ k. eqb k 0) (mod-eq_of_lt (above m _ h beyond)))
  ]

far_second : (negative : Bool) (w left : ℕ) → 2 ^ 52 ≤ w
    → is_second_of_date (rounded_down negative w left) ≡ false
far_second false w left h = grind (arith, nat_tests)
far_second true w left h = grind (arith, nat_tests, ints)

-- with a scale of 1075 or more, there are 2 ^ 52 or more whole seconds
whole_far : (m e : ℕ) → 2 ^ 52 ≤ m → 1075 ≤ e → 2 ^ 52 ≤ whole_seconds m e
unfolding whole_seconds parts_of parts_in_second
whole_far m e h big =
    let p = pow-le-pow_right (omega arith) big in
    far_quotient m _ _ h (power_pos 1075) p
  where
    far_quotient : (m c d : ℕ) → 2 ^ 52 ≤ m → 0 < d → d ≤ c → 2 ^ 52 ≤ m * c / d
    far_quotient m c d h hd le =
        let a = mul-le-mul_right m le in
        let b = mul-le-mul_right d h in
        (le-div_iff_mul-le hd).1 (omega arith)

mantissa_far : (bits : ℕ) → 1075 ≤ real_exponent bits → 2 ^ 52 ≤ real_mantissa bits
unfolding real_mantissa
mantissa_far bits h = grind (arith, nat_tests)

scale_far : (bits : ℕ) → 1075 ≤ real_exponent bits → 1075 ≤ real_scale bits
unfolding real_scale
scale_far bits h = omega arith

pub fraction_far : (bits : ℕ) → 1075 ≤ real_exponent bits → false ≡ has_fraction bits
unfolding has_fraction
fraction_far bits h = rw (left_far _ _ (scale_far _ h)) refl

none_of : (b : Bool) (z : ℤ) → is_second_of_date z ≡ false
    → ◌≡◌ {A = Option ℤ} (cond b None (if_second_of_date z)) None
none_of true z h = refl
none_of false z h = rw h refl

pub second_far : (bits : ℕ) → 1075 ≤ real_exponent bits
    → ◌≡◌ {A = Option ℤ} None (second_of_bits bits)
unfolding second_of_bits real_second
second_far bits h =
    sym (none_of _ (real_second bits)
    (far_second (is_negative _) (whole_seconds _ _)
    (parts_left _ _)
    (whole_far _ _ (mantissa_far _ h) (scale_far _ h))))

second_near : (bits : ℕ) → real_exponent bits < 1075
    → if_second_of_date (rounded_down (is_negative bits)
    (whole_seconds (real_mantissa bits) (real_scale bits))
    (parts_left (real_mantissa bits) (real_scale bits))) ≡ second_of_bits bits
unfolding second_of_bits real_second
second_near bits h =
    let n : eqb (real_exponent bits) 2047 ≡ false = grind (arith, nat_tests) in rw n refl

whole_small : (m e : ℕ) → m < 2 ^ 53 → e < 1075 → m / 2 ^ (1075 - e) < 2 ^ 52
whole_small m e h lt =
    let near : 1 ≤ 1075 - e = omega arith in
    let p = pow-le-pow_right (omega arith) near in
    let q : 2 * 2 ^ 52 ≤ 2 ^ (1075 - e) * 2 ^ 52 = mul-le-mul_right _ p in
    (div-lt_iff_lt-mul {k = 2 ^ (1075 - e)} {x = m} {y = 2 ^ 52} (omega arith)).1 (omega arith)

left_masked : (m k : ℕ) → k < 64 → m % (1 * 2 ^ k % 18446744073709551616) ≡ m % 2 ^ k
left_masked m k h = search rules

-- the whole seconds of a real below 2 ^ 52, and whether it has a fraction
pub parts_near : (bits m e shift : ℕ) → m ≡ real_mantissa bits → e ≡ real_scale bits → m < 2 ^ 53
    → e < 1075 → real_exponent bits < 1075 → shift < 64
    → (shift ≡ 1075 - e) ⊎ ((53 ≤ shift) × (53 ≤ 1075 - e))
    → (real_exponent bits < 1075)
    × (m / 2 ^ shift ≡ whole_seconds (real_mantissa bits) (real_scale bits))
    × (not (eqb (m % (1 * 2 ^ shift % 18446744073709551616)) 0) ≡ has_fraction bits)
    × (m / 2 ^ shift < 2 ^ 52)
unfolding has_fraction
parts_near bits m e shift is_m is_e h lt near few by = (
  near,
  whole_by m e shift h lt by ∙ rw (is_m, is_e) refl,
  rw (left_masked m shift few, left_by m e shift h lt by, is_m, is_e) refl,
  rw (whole_by m e shift h lt by, whole_shifted m e lt) (whole_small m e h lt),
)

pub byte_small : (b : Bool) → bool_byte b ≤ 1
byte_small b = grind arith

-- the second of a real below 2 ^ 52 that isn't negative, and of one that is
module _ (bits w : ℕ) (is : w ≡ whole_seconds (real_mantissa bits) (real_scale bits))
    (near : real_exponent bits < 1075) where
  rounded : (negative : Bool) → is_negative bits ≡ negative
      → if_second_of_date (rounded_down negative w
      (parts_left (real_mantissa bits) (real_scale bits))) ≡ second_of_bits bits
  rounded negative sign = rw (is, ← sign) (second_near _ near)

  pub from_zero : bits < 2 ^ 63 → if_second_of_date (pos w) ≡ second_of_bits bits
  from_zero h = rounded false (grind (arith, nat_tests))

  pub below_zero : (n : ℕ) (is_left : Bool) → is_left ≡ has_fraction bits → n ≡ bool_byte is_left
      → 2 ^ 63 ≤ bits → if_second_of_date (neg_ℤ (pos (w + n))) ≡ second_of_bits bits
  unfolding has_fraction
  below_zero n is_left left one h =
      let up : w + n ≡ cond (eqb (parts_left (real_mantissa bits) (real_scale bits)) 0) w (w + 1) =
      grind (arith, nat_tests, left, one) in
      ap (λ k. if_second_of_date (neg_ℤ (pos k))) up ∙ rounded true (grind (arith, nat_tests))
