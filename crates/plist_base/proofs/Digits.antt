-- How many digits a number has, and where they are written.
use Rattle.std.proofs.Common.{◌≡◌, ℕ, zero, suc, ◌+◌, ◌/◌, ◌^◌, ◌≤◌, ◌<◌, length, ◌++◌, List, take, drop, sym, ap, ◌∙◌, arith, length-append}
use Rattle.std.specs.Fmt.{decimal}
use Rattle.std.proofs.lemmas.Fmt.{decimal_digit, decimal_step, length-decimal-le}
use Rattle.std.proofs.lemmas.List.{take-take}
use Rattle.std.proofs.Math.Seq.{take-add, take-append_seam, take-append-add}

has_digits : (k n : ℕ) → n < 2 ^ 64 → 10 ^ k ≤ n → n < 10 ^ suc k → length (decimal n) ≡ suc k
has_digits zero n fits least below = ap length (decimal_digit n (omega arith))
has_digits (suc k) n fits least below =
    let shorter = has_digits k (n / 10) (omega arith) (omega arith) (omega arith) in
    rw (decimal_step n (omega arith) fits, length-append) (omega (arith, shorter))

-- for each power of ten up to 10 ^ `k`: if `n` is at least this power and below the next one,
-- `digits` is the number of digits of such a number
abbrev Steps : (k n digits : ℕ) → Type 0
Steps zero n digits = n < 10 → digits ≡ 1
Steps (suc k) n digits =
    (10 ^ suc k ≤ n → n < 10 ^ suc (suc k) → digits ≡ suc (suc k)) × Steps k n digits

steps : (k n : ℕ) → n < 2 ^ 64 → Steps k n (length (decimal n))
steps zero n fits = λ below. ap length (decimal_digit n below)
steps (suc k) n fits = (λ least below. has_digits (suc k) n fits least below, steps k n fits)

pub digits : (n : ℕ) → n < 2 ^ 64 → Steps 19 n (length (decimal n))
digits n fits = steps 19 n fits

pub at_most_twenty : (n : ℕ) → n < 2 ^ 64 → length (decimal n) ≤ 20
at_most_twenty n fits = length-decimal-le 20 n (omega arith) (omega arith) fits

-- digits that are written after the first bytes of a list are appended to them
pub written_after : (old new digits rest : List ℕ) (start used end : ℕ)
    → start + length digits ≡ end → end ≡ used + length digits → take start new ≡ take start old
    → drop start new ≡ digits ++ rest → take end new ≡ take used old ++ digits
written_after old new digits rest start used end ends is before written =
    let here : start ≡ used = omega (arith, ends, is) in
    rw (is, ← here)
    (take-add start (length digits) new ∙ (λ i. before i ++ take (length digits) (written i))
    ∙ ap (λ l. take start old ++ l) (take-append_seam digits rest))

-- the first bytes of those that were appended to the first bytes of a list
pub first_after : (front bytes new : List ℕ) (used count end : ℕ) → length front ≡ used
    → end ≡ used + length bytes → take end new ≡ front ++ bytes → count ≤ length bytes
    → take (used + count) new ≡ front ++ take count bytes
first_after front bytes new used count end long ends is few =
    sym (take-take (used + count) end new (omega (arith, ends, few)))
    ∙ ap (take (used + count)) is
    ∙ ap (λ k. take (k + count) (front ++ bytes)) (sym long)
    ∙ take-append-add front bytes count
