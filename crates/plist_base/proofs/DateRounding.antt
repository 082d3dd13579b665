-- The second of a value is the greatest one that isn't above the value. The second of a date is the
-- one that the date's text spells.
use Rattle.std.proofs.Common.{rules, ◌≡◌, ℕ, zero, suc, ◌+◌, ◌*◌, ◌<◌, ◌≤◌, Bool, true, false, cond, eqb, ℤ, pos, negsuc, neg_ℤ, ◌<ℤ◌, ◌≤ℤ◌, Option, None, Some, List, slice_index, replicate, subst, refl, ap, sym, ◌∙◌, arith, ◌⊎◌, inl, inr, ◌+ℤ◌, ◌-ℤ◌, to_z, of_z, w64}
use Rattle.std.specs.Prelude.{◌*ℤ◌, is_some, not}
use Rattle.std.proofs.Math.Nat.{div-add-mod, mod-lt, mul-le-mul_right}
use Rattle.std.proofs.lemmas.Bool.{false_from_ne_true}
use Rattle.std.proofs.lemmas.Bool.Decides.{nat_tests}
use Rattle.std.proofs.lemmas.Int.{ints}
use Rattle.std.specs.Option.{option_map}
use Rattle.plist_base.specs.Date.{IsSecondOf, real_parts, parts_of, whole_seconds, parts_left, real_second, rounded_down, is_second_of_date, if_second_of_date, IsSecondOfDate, second_of_bits, date_bytes, is_not_finite, IsDate, IsWhole, plist_epoch, real_bits, second_of_bytes}
use Rattle.plist_base.specs.DateTexts.{HasTextYear, IsDateText, IsInUtc}
use Rattle.plist_base.specs.UnixSeconds.{HasFourDigitYear, IsTextOfSecond, unix_second_of_text}
use Rattle.plist_base.proofs.DateShifts.{second_pos}

-- if `d` parts make a second, this second isn't above the value, and the next one is
abbrev Bounds : ℤ → ℤ → ℕ → Type 0
Bounds second value d = ((second *ℤ pos d) ≤ℤ value) × (value <ℤ ((second +ℤ pos 1) *ℤ pos d))

pub neg_times : (w d : ℕ) → neg_ℤ (pos w) *ℤ pos d ≡ neg_ℤ (pos (w * d))
neg_times zero d = let z : 0 * d ≡ 0 = omega arith in rw z refl
neg_times (suc w) d = refl

neg_next : (w : ℕ) → neg_ℤ (pos (suc w)) +ℤ pos 1 ≡ neg_ℤ (pos w)
neg_next w = omega (arith, ints)

-- a negative value without parts left over lies exactly at its second
bounds_even : (w d : ℕ) → 0 < d → Bounds (neg_ℤ (pos w)) (neg_ℤ (pos (w * d))) d
bounds_even zero d h = let z : 0 * d ≡ 0 = omega arith in rw z (omega (arith, ints), omega (arith, ints))
bounds_even (suc w) d h = rw (neg_next w, neg_times w d) (omega (arith, ints), omega (arith, ints))

-- a value is rounded down to its second; a negative one with parts left over, to the one before
bounds : (negative : Bool) (w l d v : ℕ) → d * w + l ≡ v → l < d
    → Bounds (rounded_down negative w l) (cond negative (neg_ℤ (pos v)) (pos v)) d
bounds false w l d v e h = (omega (arith, ints), omega (arith, ints))
bounds true w zero d v e h =
    let is : v ≡ w * d = omega arith in rw is (bounds_even w d (omega arith))
bounds true w (suc l) d v e h =
    let next : w + 1 ≡ suc w = omega arith in
    let some : eqb (suc l) 0 ≡ false = grind (arith, nat_tests) in
    rw (some, next, neg_times (suc w) d, neg_next w, neg_times w d)
    (omega (arith, ints), omega (arith, ints))

pub second_is_greatest : (bits : ℕ) → IsSecondOf (real_second bits) bits
unfolding real_second real_parts whole_seconds parts_left
second_is_greatest bits =
    let v = parts_of _ _ in
    bounds _ _ _ _ v
    (div-add-mod v _) (mod-lt v second_pos)

-- ---- a date's second

pub second_kept : (b : Bool) (y z : ℤ) → cond b None (if_second_of_date y) ≡ Some z → (y ≡ z)
    × (is_second_of_date z ≡ true)
second_kept b y z e = search rules

pub in_bounds : (z : ℤ) → is_second_of_date z ≡ true → IsSecondOfDate z
in_bounds (pos n) h = grind (arith, nat_tests, ints)
in_bounds (negsuc n) h = grind (arith, nat_tests, ints)

-- a second that the test rejects isn't one of a date
pub out_of_bounds : (z : ℤ) → is_second_of_date z ≡ false → IsSecondOfDate z → ⊥
out_of_bounds (pos n) h k = grind (arith, nat_tests, ints)
out_of_bounds (negsuc n) h k = grind (arith, nat_tests, ints)

pub second_facts : (bits : ℕ) (z : ℤ) → second_of_bits bits ≡ Some z → IsSecondOf z bits
    × IsSecondOfDate z
unfolding second_of_bits
second_facts bits z e =
    let kept = second_kept _ _ z e in
    (rw (← kept.0) (second_is_greatest _), in_bounds z kept.1)

-- ---- no other second is the value's

times_le : (a b : ℤ) (d : ℕ) → a ≤ℤ b → (a *ℤ pos d) ≤ℤ (b *ℤ pos d)
times_le (pos a) (pos b) d h =
    let le : a * d ≤ b * d = mul-le-mul_right d (omega (arith, ints)) in omega (arith, ints)
times_le (pos a) (negsuc b) d h = absurd (omega (arith, ints))
times_le (negsuc a) (pos b) d h = omega (arith, ints)
times_le (negsuc a) (negsuc b) d h =
    let le : suc b * d ≤ suc a * d = mul-le-mul_right d (omega (arith, ints)) in omega (arith, ints)

below_next : (s t v : ℤ) (d : ℕ) → (s *ℤ pos d) ≤ℤ v → v <ℤ ((t +ℤ pos 1) *ℤ pos d) → s ≤ℤ t
below_next s t v d le lt =
    elim (at_most s t) [
      | inl h ↦ h
      | inr h ↦ absurd (let more = times_le _ s d h in omega (arith, ints))
    ]
  where
    at_most : (s t : ℤ) → (s ≤ℤ t) ⊎ ((t +ℤ pos 1) ≤ℤ s)
    at_most s t = grind (arith, ints)

second_is_unique : (bits : ℕ) (s t : ℤ) → IsSecondOf s bits → IsSecondOf t bits → s ≡ t
second_is_unique bits s t h k =
    let a = below_next s t _ _ h.0 k.1 in
    let b = below_next t s _ _ k.0 h.1 in
    omega (arith, ints)

-- a finite real that is rejected has no second in the range of dates
pub no_second : (bits : ℕ) → second_of_bits bits ≡ None → is_not_finite bits ≡ false → (second : ℤ)
    → IsSecondOf second bits → IsSecondOfDate second → ⊥
unfolding second_of_bits
no_second bits e number second is within =
    let same = second_is_unique _ _ _
    (second_is_greatest _) is in
    out_of_bounds (real_second bits) (false_from_ne_true _ (λ t. let some = rw (number, t) at e in cc))
    (subst IsSecondOfDate (sym same) within)

pub none_by_test : (s t : Option ℤ) (b : Bool) → t ≡ s → is_some t ≡ not b → b ≡ true → s ≡ None
none_by_test s t b same test is = search rules

-- each element of a list of zeros is a byte
pub zeros_small : (count place : ℕ) → slice_index (replicate count 0) place < 256
zeros_small zero place = omega arith
zeros_small (suc count) zero = omega arith
zeros_small (suc count) (suc place) = zeros_small count _

back_to_unix : (second : ℤ) → ((second -ℤ plist_epoch) +ℤ plist_epoch) ≡ second
back_to_unix second = omega (arith, ints)

-- a date's second stays the same if it is converted to a Unix second in 64 bits and back
pub unix_and_back : (second : ℤ) → IsSecondOfDate second
    → (to_z w64 (of_z w64 (to_z w64 (of_z w64 second) +ℤ plist_epoch)) -ℤ plist_epoch) ≡ second
unix_and_back second ranged = omega (arith, ints)

pub unix_year : (date : List ℕ) (second : ℤ) → second_of_bytes date ≡ Some (second -ℤ plist_epoch)
    → HasTextYear date → HasFourDigitYear second
unix_year date second is year =
    subst HasFourDigitYear (back_to_unix _) (year _ is)

pub text_year : (date : List ℕ) (second : ℤ) → second_of_bytes date ≡ Some (second -ℤ plist_epoch)
    → HasFourDigitYear second → HasTextYear date
text_year date second is year other is_other =
    let same : second -ℤ plist_epoch ≡ other = cc in
    subst HasFourDigitYear (sym (back_to_unix _) ∙ ap (λ s. s +ℤ plist_epoch) same) year

-- a text of the date is a text of its Unix second
pub text_at : (date text : List ℕ) (second : ℤ)
    → second_of_bytes date ≡ Some (second -ℤ plist_epoch) → IsDateText date text
    → IsTextOfSecond second text
text_at date text second is text_of =
    subst (λ s. IsTextOfSecond s text) (back_to_unix _) (text_of.2 _ is)

-- a text in UTC that spells the Unix second of a date without a fraction is a text of that date
pub text_in_utc : (date text : List ℕ) (second : ℤ) → IsDate date → IsWhole date
    → second_of_bytes date ≡ Some (second -ℤ plist_epoch) → Some second ≡ unix_second_of_text text
    → IsInUtc text → IsDateText date text
text_in_utc date text second is_date whole is spells in_utc = (
  is_date,
  whole,
  λ other is_other.
      let same : second -ℤ plist_epoch ≡ other = cc in
      let unix : second ≡ other +ℤ plist_epoch = omega (arith, ints) in
      record { spells = sym spells ∙ ap Some unix; letter = in_utc.0; utc = in_utc.1 },
)

-- ---- the second that the text of a date spells

date_second : (date : List ℕ) → IsDate date → (second : ℤ) × (second_of_bytes date ≡ Some second)
date_second date is = by_second _ refl is.1
  where
    by_second : (second : Option ℤ) → second_of_bytes date ≡ second → option_map (λ _. date_bytes date) second ≡ Some date
        → (found : ℤ) × (second_of_bytes date ≡ Some found)
    by_second None none kept = absurd (cc)
    by_second (Some second) some kept = (second, some)

-- a text that spells no second is the text of no date
pub not_printed : (date text : List ℕ) → None ≡ unix_second_of_text text → IsDateText date text → ⊥
not_printed date text none text_of =
    let (at, has) = date_second date text_of.0 in let spells = (text_of.2 at has).spells in cc

-- the date's second is the one that its text spells
pub printed_at : (date text : List ℕ) (second : ℤ) → Some second ≡ unix_second_of_text text
    → IsDateText date text → second_of_bytes date ≡ Some (second -ℤ plist_epoch)
printed_at date text second is text_of =
    let (at, has) = date_second date text_of.0 in
    let spells = (text_of.2 at has).spells in
    let same : second ≡ at +ℤ plist_epoch = cc in
    let back : at ≡ second -ℤ plist_epoch = omega (arith, ints, same) in has ∙ ap Some back

-- a text whose second is out of range is the text of no date
pub not_ranged : (date text : List ℕ) (second : ℤ) → Some second ≡ unix_second_of_text text
    → (IsSecondOfDate (second -ℤ plist_epoch) → ⊥) → IsDateText date text → ⊥
not_ranged date text second is out text_of =
    out (second_facts (real_bits date) _ (printed_at date text second is text_of)).1

-- rules for reals without a second, for texts that are parsed, and for texts that are printed
pub ruleset no_seconds = (no_second, none_by_test, zeros_small)

pub ruleset parsed_texts = (not_printed, not_ranged, printed_at, text_in_utc)

pub ruleset printed_texts = (text_year, unix_year, text_at, text_in_utc)
