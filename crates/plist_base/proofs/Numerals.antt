-- What the parsers of integers return, as Boolean tests.
use Rattle.std.proofs.Common.{◌≡◌, ℕ, ◌^◌, ◌<◌, Bool, true, false, cond, List, [], ◌∷◌, drop, Option, None, Some, refl, ap, ◌∙◌, arith}
use Rattle.std.specs.Prelude.{◌&&◌, ℤ, pos, negsuc, FitsSigned}
use Rattle.std.proofs.lemmas.Bool.Decides.{nat_tests}
use Rattle.std.proofs.lemmas.Int.{ints, to_z-of_z}
use mir.Val.{of_z, to_z}
use Rattle.std.specs.List.{list_all}
use Rattle.std.specs.Option.{option_or}
use Rattle.std.specs.Char.{is_digit}
use Rattle.std.specs.Str.Parse.{AllDigits, IsNumeral, digits_value, signed_digits_value, without_leading_plus, without_leading_sign}
use Rattle.std.proofs.lemmas.Bool.{and_from, and_parts, false_from_ne_true, lt-ltb, ltb-true}
use mir.Syntax.{w64}
use Rattle.plist_base.specs.IntegerText.{is_numeral, unsigned_of_text, signed_of_text, fits_signed, integer_of_text, has_prefix, without_prefixes}

all_digits : (radix : ℕ) (ds : List ℕ) → AllDigits radix ds
    → list_all (λ c. is_digit c radix) ds ≡ true
all_digits radix [] h = refl
all_digits radix (c ∷ cs) h = and_from _ _ (lt-ltb _ _ h.0) (all_digits _ cs h.1)

digits_all : (radix : ℕ) (ds : List ℕ) → list_all (λ c. is_digit c radix) ds ≡ true
    → AllDigits radix ds
digits_all radix [] h = tt
digits_all radix (c ∷ cs) h =
    let s = and_parts (is_digit c _) _ h in (ltb-true _ _ s.0, digits_all _ cs s.1)

pub numeral_true : (radix : ℕ) (ds : List ℕ) → IsNumeral radix ds → is_numeral radix ds ≡ true
numeral_true radix ds h = and_from _ _ (lt-ltb _ _ h.0) (all_digits _ ds h.1)

pub numeral_from : (radix : ℕ) (ds : List ℕ) → is_numeral radix ds ≡ true → IsNumeral radix ds
numeral_from radix ds h = let s = and_parts _ _ h in (ltb-true _ _ s.0, digits_all _ ds s.1)

-- a number is returned if and only if the text is a numeral that passes a test
parsed : (radix : ℕ) (ds : List ℕ) (b : Bool) {P : Type 0} (v n : ℤ) → (P → b ≡ true)
    → (IsNumeral radix ds × P) × (n ≡ v) → Some n ≡ cond (is_numeral radix ds && b) (Some v) None
parsed radix ds b v n t h = rw (numeral_true radix ds h.0.0, t h.0.1, h.1) refl

not_parsed : (radix : ℕ) (ds : List ℕ) (b : Bool) {P : Type 0} (v : ℤ) → (b ≡ true → P)
    → (IsNumeral radix ds × P → ⊥) → None ≡ cond (is_numeral radix ds && b) (Some v) None
not_parsed radix ds b v t h =
    let none = false_from_ne_true (is_numeral radix ds && b) (λ e. let s = and_parts _ _ e in h
    (numeral_from _ _ s.0, t s.1)) in
    rw none refl

pub unsigned_ok : (radix n : ℕ) (text : List ℕ)
    → (IsNumeral radix (without_leading_plus text)
    × (digits_value radix (without_leading_plus text) < 2 ^ 64))
    × (n ≡ digits_value radix (without_leading_plus text))
    → Some (pos n) ≡ unsigned_of_text radix text
unsigned_ok radix n text h = parsed radix _ _ _ _ (lt-ltb _ _) (h.0, ap pos h.1)

pub unsigned_err : (radix : ℕ) (text : List ℕ)
    → (IsNumeral radix (without_leading_plus text)
    × (digits_value radix (without_leading_plus text) < 2 ^ 64) → ⊥)
    → None ≡ unsigned_of_text radix text
unsigned_err radix text h = not_parsed radix _ _ _ (ltb-true _ _) h

fits_true : (z : ℤ) → FitsSigned w64 z → fits_signed z ≡ true
fits_true (pos n) h = grind (arith, ints, nat_tests)
fits_true (negsuc n) h = grind (arith, ints, nat_tests)

fits_from : (z : ℤ) → fits_signed z ≡ true → FitsSigned w64 z
fits_from (pos n) h = grind (arith, ints, nat_tests)
fits_from (negsuc n) h = grind (arith, ints, nat_tests)

pub signed_ok : (z : ℤ) (text : List ℕ)
    → (IsNumeral 10 (without_leading_sign text) × FitsSigned w64 (signed_digits_value 10 text))
    × (z ≡ signed_digits_value 10 text) → Some z ≡ signed_of_text text
signed_ok z text h = parsed 10 _ _ _ _ (fits_true _) h

pub signed_err : (text : List ℕ)
    → (IsNumeral 10 (without_leading_sign text) × FitsSigned w64 (signed_digits_value 10 text) → ⊥)
    → None ≡ signed_of_text text
signed_err text h = not_parsed 10 _ _ _ (fits_from _) h

pub signed_back : (x z : ℤ) (text : List ℕ) → x ≡ to_z w64 (of_z w64 z)
    → FitsSigned w64 (signed_digits_value 10 text) → z ≡ signed_digits_value 10 text → x ≡ z
signed_back x z text e f h = let g : FitsSigned w64 z = rw h f in e ∙ to_z-of_z _ z g

-- texts that begin with `0x`, and texts that don't

pub integer_prefixed : (text rest : List ℕ) (n : ℕ) → text ≡ 48 ∷ 120 ∷ drop n text
    → rest ≡ drop n text → integer_of_text text ≡ unsigned_of_text 16 (without_prefixes rest)
unfolding integer_of_text
integer_prefixed text rest n e h = let same : text ≡ 48 ∷ 120 ∷ rest = cc in ap integer_of_text same

unprefixed : (text : List ℕ) → ((rest : List ℕ) → text ≡ 48 ∷ 120 ∷ rest → ⊥)
    → has_prefix text ≡ false
unprefixed [] h = refl
unprefixed (a ∷ []) h = refl
unprefixed (a ∷ b ∷ rest) h = grind (arith, nat_tests, h rest)

pub integer_plain : (text : List ℕ) → ((rest : List ℕ) → text ≡ 48 ∷ 120 ∷ rest → ⊥)
    → integer_of_text text ≡ option_or (signed_of_text text) (unsigned_of_text 10 text)
unfolding integer_of_text
integer_plain text h = rw (unprefixed _ h) refl

pub integer_signed : (text : List ℕ) (o : Option ℤ) (z : ℤ)
    → ((rest : List ℕ) → text ≡ 48 ∷ 120 ∷ rest → ⊥) → o ≡ signed_of_text text → o ≡ Some z
    → Some z ≡ integer_of_text text
integer_signed text o z h e i = rw (integer_plain _ h, ← e, i) refl

pub integer_unsigned : (text : List ℕ) (o r : Option ℤ)
    → ((rest : List ℕ) → text ≡ 48 ∷ 120 ∷ rest → ⊥) → o ≡ signed_of_text text → o ≡ None
    → r ≡ unsigned_of_text 10 text → r ≡ integer_of_text text
integer_unsigned text o r h e i u = rw (integer_plain _ h, ← e, i) u
