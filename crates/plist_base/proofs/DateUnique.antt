-- A second has one date without a fraction.
use Rattle.std.proofs.Common.{◌≡◌, ℕ, zero, suc, ◌+◌, ◌*◌, ◌/◌, ◌%◌, ◌^◌, ◌<◌, ◌≤◌, max, Bool, true, false, cond, eqb, ℤ, pos, neg_ℤ, Option, None, Some, List, [], ◌∷◌, refl, ap, sym, ◌∙◌, arith, inl, inr}
use Rattle.std.specs.Prelude.{◌*ℤ◌}
use Rattle.std.specs.Int.{to_be_bytes, w64}
use Rattle.std.proofs.Math.Nat.{div-add-mod, eq_of_mul-eq-mul_right, mul-le-mul_right, pow-le-pow_right}
use Rattle.std.proofs.lemmas.Bool.{cases_lt}
use Rattle.std.proofs.lemmas.Bool.Decides.{nat_tests}
use Rattle.std.proofs.lemmas.Int.{ints}
use Rattle.std.proofs.lemmas.Nat.{be_bytes_8}
use Rattle.std.specs.Option.{option_map}
use Rattle.plist_base.specs.Date.{AreEightBytes, IsDate, IsWhole, date_bytes, has_fraction, is_negative, parts_in_second, parts_left, parts_of, real_bits, real_exponent, real_mantissa, real_parts, real_scale, real_second, rounded_down, second_of_bits, second_of_bytes, whole_seconds}
use Rattle.plist_base.proofs.DateRounding.{neg_times, second_kept}
use Rattle.plist_base.proofs.DateShifts.{power_pos}

-- ---- without the sign

-- the parts of an exponent and a fraction
abbrev value : (exponent fraction : ℕ) → ℕ
value exponent fraction = cond (eqb exponent 0) fraction (2 ^ 52 + fraction) * 2 ^ max 1 exponent

value_suc : (e fraction : ℕ) → value (suc e) fraction ≡ (2 ^ 52 + fraction) * 2 ^ suc e
value_suc e fraction = grind (arith, nat_tests)

value_low : (e fraction : ℕ) → 2 ^ 53 * 2 ^ e ≤ value (suc e) fraction
value_low e fraction =
    let p = mul-le-mul_right _
    (omega arith) in
    let q : 2 ^ 53 * 2 ^ e ≡ 2 ^ 52 * 2 ^ suc e = omega arith in
    rw (value_suc e _, q) p

value_high : (e fraction : ℕ) → fraction < 2 ^ 52 → value e fraction < 2 ^ 53 * 2 ^ e
value_high zero fraction small = omega arith
value_high (suc e) fraction small =
    let some = power_pos (suc e) in
    let next : suc (2 ^ 52 + fraction) * 2 ^ suc e
    ≤ 2 ^ 53 * 2 ^ suc e = mul-le-mul_right _ (omega arith) in
    let split : suc (2 ^ 52 + fraction) * 2 ^ suc e ≡ (2 ^ 52 + fraction) * 2 ^ suc e
    + 2 ^ suc e = omega arith in
    rw (value_suc e fraction) (omega arith)

-- a greater exponent means a greater value
value_grows : (e d fraction other : ℕ) → fraction < 2 ^ 52 → e < d
    → value e fraction < value d other
value_grows e zero fraction other small less = absurd (omega arith)
value_grows e (suc d) fraction other small less =
    let high = value_high e _ small in
    let low = value_low d other in
    let powers : 2 ^ e ≤ 2 ^ d = pow-le-pow_right {n = 2} (omega arith) (omega arith) in
    let between : 2 ^ e * 2 ^ 53 ≤ 2 ^ d * 2 ^ 53 = mul-le-mul_right _ powers in
    omega arith

value_fraction : (e fraction other : ℕ) → value e fraction ≡ value e other → fraction ≡ other
value_fraction zero fraction other same = omega arith
value_fraction (suc e) fraction other same =
    let scaled = sym (value_suc e _) ∙ same ∙ value_suc e other in
    let sums = eq_of_mul-eq-mul_right _ (power_pos _) _
    (2 ^ 52 + other) scaled in
    omega arith

value_once : (e d fraction other : ℕ) → fraction < 2 ^ 52 → other < 2 ^ 52
    → value e fraction ≡ value d other → (e ≡ d) × (fraction ≡ other)
value_once e d fraction other f o same =
    elim (cases_lt e d) [
      | inl less ↦ absurd (let grows = value_grows e d fraction other f less in omega arith)
      | inr more ↦ elim (cases_lt d e) [
        | inl less ↦ absurd (let grows = value_grows d e other fraction o less in omega arith)
        | inr least ↦ let is : e ≡ d = omega arith in
            (is, value_fraction d _ _ (ap (λ k. value k fraction) (sym is) ∙ same))
      ]
    ]

-- ---- with the sign

parts_value : (bits : ℕ) → parts_of (real_mantissa bits) (real_scale bits)
    ≡ value (real_exponent bits) (bits % 2 ^ 52)
unfolding parts_of real_mantissa real_scale
parts_value bits = refl

-- bits with the same sign, exponent and fraction are equal
bits_same : (a b : ℕ) → a < 2 ^ 64 → b < 2 ^ 64 → is_negative a ≡ is_negative b
    → real_exponent a ≡ real_exponent b → a % 2 ^ 52 ≡ b % 2 ^ 52 → a ≡ b
unfolding real_exponent
bits_same a b sa sb sign exponent fraction = grind (arith, nat_tests)

-- bits with a sign whose value is zero are those of the negative zero
negative_zero : (a : ℕ) → a < 2 ^ 64 → is_negative a ≡ true
    → value (real_exponent a) (a % 2 ^ 52) ≡ 0 → eqb a (2 ^ 63) ≡ true
unfolding real_exponent
negative_zero a small negative none =
    let once = value_once (real_exponent a) 0 (a % 2 ^ 52) 0 (omega arith) (omega arith) none in
    let is : a ≡ 2 ^ 63 = bits_same a _ small (omega arith) negative once.0 once.1 in
    rw is refl

abbrev signed : Bool → ℕ → ℤ
signed negative parts = cond negative (neg_ℤ (pos parts)) (pos parts)

-- ---- the bits of a value

module _ (a b : ℕ) (small_a : a < 2 ^ 64) (small_b : b < 2 ^ 64) (plain_a : eqb a (2 ^ 63) ≡ false)
    (plain_b : eqb b (2 ^ 63) ≡ false) where
  abbrev parts : ℕ → ℕ
  parts bits = value (real_exponent bits) (bits % 2 ^ 52)

  not_zero : (bits : ℕ) → bits < 2 ^ 64 → eqb bits (2 ^ 63) ≡ false → is_negative bits ≡ true
      → parts bits ≡ 0 → ⊥
  not_zero bits small plain negative none =
      let zero_signed = negative_zero bits small negative none in cc

  same_both : (c d : Bool) → is_negative a ≡ c → is_negative b ≡ d
      → signed c (parts a) ≡ signed d (parts b) → (c ≡ d) × (parts a ≡ parts b)
  same_both true true is_c is_d same = (refl, omega (arith, ints))
  same_both false false is_c is_d same = (refl, omega (arith, ints))
  same_both true false is_c is_d same = absurd (not_zero a small_a plain_a is_c (omega (arith, ints)))
  same_both false true is_c is_d same = absurd (not_zero b small_b plain_b is_d (omega (arith, ints)))

  one_real : signed (is_negative a) (parts a) ≡ signed (is_negative b) (parts b) → a ≡ b
  one_real same =
      let both = same_both (is_negative a) _ refl refl same in
      let once = value_once _ (real_exponent b) _ _ (omega arith) (omega arith) both.1 in
      bits_same a b small_a small_b both.0 once.0 once.1

real_is : (bits : ℕ) → real_parts bits
    ≡ signed (is_negative bits) (value (real_exponent bits) (bits % 2 ^ 52))
unfolding real_parts
real_is bits = ap (signed _) (parts_value _)

-- ---- a whole second

-- a value without a fraction is its second
whole_value : (bits : ℕ) (second : ℤ) → has_fraction bits ≡ false
    → second_of_bits bits ≡ Some second → real_parts bits ≡ (second *ℤ pos parts_in_second)
unfolding has_fraction second_of_bits real_parts real_second whole_seconds parts_left
whole_value bits second whole is =
    let parts = parts_of _ _ in
    let none : parts % parts_in_second ≡ 0 = grind (arith, nat_tests) in
    let split = div-add-mod parts parts_in_second in
    let all : parts ≡ parts / parts_in_second * parts_in_second = omega arith in
    let kept = second_kept _ _ _ is in
    ap (signed (is_negative bits)) all
    ∙ times _ (parts / parts_in_second) _
    ∙ ap (λ left. rounded_down (is_negative bits) (parts / parts_in_second) left *ℤ pos
    parts_in_second) (sym none)
    ∙ ap (λ (s : ℤ). s *ℤ pos parts_in_second) kept.0
  where
    times : (negative : Bool) (whole unit : ℕ)
        → signed negative (whole * unit) ≡ (rounded_down negative whole 0 *ℤ pos unit)
    times true whole unit = sym (neg_times _ _)
    times false whole unit = refl

-- ---- the bytes

bits_small : (bytes : List ℕ) → AreEightBytes bytes → real_bits bytes < 2 ^ 64
bits_small bytes are = omega (arith, are.1)

-- a date isn't the negative zero
no_signed_zero : (bytes : List ℕ) → IsDate bytes → eqb (real_bits bytes) (2 ^ 63) ≡ false
no_signed_zero bytes is = by_test (second_of_bytes bytes) _ bytes refl is.1
  where
    by_test : (second : Option ℤ) (b : Bool) (bytes : List ℕ) → eqb (real_bits bytes) (2 ^ 63) ≡ b
        → option_map (λ _. date_bytes bytes) second ≡ Some bytes → b ≡ false
    by_test second false bytes is same = refl
    by_test None true bytes is same = absurd (cc)
    by_test (Some second) true bytes is same =
        let kept = rw is at same in
        let are : 0 ∷ 0 ∷ 0 ∷ 0 ∷ 0 ∷ 0 ∷ 0 ∷ 0 ∷ [] ≡ bytes = cc in
        sym is ∙ ap (λ list. eqb (real_bits list) (2 ^ 63)) (sym are)

-- two dates without a fraction at one second are equal
pub one_date : (second : ℤ) (date other : List ℕ) → IsDate date → IsDate other
    → IsWhole date → IsWhole other → second_of_bytes date ≡ Some second
    → second_of_bytes other ≡ Some second → other ≡ date
one_date second date other is_date is_other whole whole_other is second_other =
    let same : real_parts (real_bits other) ≡ real_parts (real_bits date) =
    whole_value _ second whole_other second_other
    ∙ sym (whole_value _ _ whole is) in
    let bits : real_bits other ≡ real_bits date =
    one_real _ _ (bits_small other is_other.0)
    (bits_small date is_date.0) (no_signed_zero other is_other) (no_signed_zero date is_date)
    (sym (real_is _) ∙ same ∙ real_is _) in
    sym (be_bytes_8 _ _ is_other.0.0 is_other.0.1 refl)
    ∙ ap (to_be_bytes w64) bits ∙ be_bytes_8 _ _ is_date.0.0 is_date.0.1 refl
