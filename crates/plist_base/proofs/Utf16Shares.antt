-- Eight units of a string in UTF-16 are counted together.
use Rattle.std.proofs.Common.{◌≡◌, ℕ, zero, suc, ◌+◌, ◌*◌, ◌^◌, ◌%◌, ◌<◌, ◌≤◌, cond, List, [], ◌∷◌, ◌++◌, map, length, get_or, take, drop, replicate, refl, sym, ap, ◌∙◌, arith, leb, take-add, w16}
use Rattle.std.specs.List.{count_by, sum_by}
use Rattle.std.specs.Int.RustNames.{count_ones}
use Rattle.std.proofs.lemmas.Grind.{same_number_lists}
use Rattle.std.proofs.lemmas.List.{get_or-drop, get_or-take, length-drop, length-take-le}
use Rattle.std.proofs.lemmas.List.Sums.{sum_by-append, sum_by-cons}
use Rattle.std.proofs.lemmas.Simd.{bitmask_splat, get_or_wider, length-chunk, ones-mask_l, pick_l_left}
use lib.Lanes.{Each1, chunk, digits_l, mask_l, number_l, pick_l, top, zip2}
use Rattle.plist_base.specs.Container.{numbers_spelled}
use Rattle.plist_base.specs.Utf16.{utf8_share}
use Rattle.plist_base.proofs.ByteBlocks.{turned}
use Rattle.plist_base.proofs.Utf16Blocks.{unit_is}
use Rattle.plist_base.proofs.Utf16Forms.{IsBytes, share_more, shares_all}
use Rattle.plist_base.proofs.Utf16Units.{nth_unit, units_length}

-- ---- the shares of units

abbrev from : (least : ℕ) → List ℕ → ℕ
from least units = count_by (leb least) units

from_cons : (least u : ℕ) (us : List ℕ)
    → from least (u ∷ us) ≡ cond (leb least u) 1 0 + from least us
from_cons least u us = sum_by-cons (λ x. cond (leb least x) 1 0) u us

share_is : (u : ℕ) → cond (leb 0x80 u) 1 0 + cond (leb 0x800 u) 1 0 + cond (leb 0xe000 u) 1 0 + 1
    ≡ utf8_share u + cond (leb 0xd800 u) 1 0
share_is u = grind arith

-- the units after the surrogates are among those that aren't before them
pub from_fewer : (us : List ℕ) → from 0xe000 us ≤ from 0xd800 us
from_fewer [] = omega arith
from_fewer (u ∷ us) =
    let one : cond (leb 0xe000 u) 1 0 ≤ cond (leb 0xd800 u) 1 0 = grind arith in
    omega (arith, one, from_fewer us, from_cons 0xe000 u us, from_cons 0xd800 u us)

-- each unit adds a byte, and more if it isn't ASCII
pub shares_from : (us : List ℕ)
    → from 0x80 us + from 0x800 us + from 0xe000 us + length us
    ≡ sum_by utf8_share us + from 0xd800 us
shares_from [] = refl
shares_from (u ∷ us) = omega (
  arith,
  share_is u,
  shares_from us,
  from_cons 0x80 u us,
  from_cons 0x800 u us,
  from_cons 0xd800 u us,
  from_cons 0xe000 u us,
  sum_by-cons utf8_share u us,
)

-- the bits of the mask of a comparison are counted
pub ones_from : (least n : ℕ) (us : List ℕ) → n ≤ 64 → length us ≡ n
    → count_ones (mask_l (map (top 15)
    (zip2 (λ a b. cond (leb a b) 65535 0) (replicate n least) us)) % 2 ^ 64)
    ≡ from least us
ones_from least n us few long =
    ap (λ lanes. count_ones (mask_l (map (top 15) lanes) % 2 ^ 64))
    (turned (λ a b. cond (leb a b) 65535 0) n least us long)
    ∙ ap count_ones (bitmask_splat w16 (λ a b. leb b a) us n least long few)
    ∙ ones-mask_l (leb least) us

-- ---- eight units as numbers of sixteen bits

-- the indices of the bytes of eight units, the second byte of each unit first
abbrev pub turns : List ℕ
turns = 1 ∷ 0 ∷ 3 ∷ 2 ∷ 5 ∷ 4 ∷ 7 ∷ 6 ∷ 9 ∷ 8 ∷ 11 ∷ 10 ∷ 13 ∷ 12 ∷ 15 ∷ 14 ∷ []

-- the two bytes of a unit
pair_at : (xs : List ℕ) (k : ℕ) → k < 8
    → number_l 256 (chunk (2 * k) 2 (pick_l 0 xs turns))
    ≡ 256 * get_or xs (2 * k) 0 + get_or xs (suc (2 * k)) 0
pair_at xs zero below = omega arith
pair_at xs (suc zero) below = omega arith
pair_at xs (suc (suc zero)) below = omega arith
pair_at xs (suc (suc (suc zero))) below = omega arith
pair_at xs (suc (suc (suc (suc zero)))) below = omega arith
pair_at xs (suc (suc (suc (suc (suc zero))))) below = omega arith
pair_at xs (suc (suc (suc (suc (suc (suc zero)))))) below = omega arith
pair_at xs (suc (suc (suc (suc (suc (suc (suc zero))))))) below = omega arith
pair_at xs (suc (suc (suc (suc (suc (suc (suc (suc k)))))))) below = absurd (omega (arith, below))

small_take : (n : ℕ) (xs : List ℕ) → IsBytes xs → IsBytes (take n xs)
small_take zero xs small i = omega arith
small_take (suc n) [] small i = omega arith
small_take (suc n) (x ∷ xs) small zero = small 0
small_take (suc n) (x ∷ xs) small (suc i) = small_take n xs (λ k. small (suc k)) i

small_drop : (n : ℕ) (xs : List ℕ) → IsBytes xs → IsBytes (drop n xs)
small_drop n xs small i = omega (arith, get_or-drop n xs i 0, small (n + i))

small_picks : (xs : List ℕ) → IsBytes xs → (ks : List ℕ) → Each1 (λ x. x < 256) (pick_l 0 xs ks)
small_picks xs small [] = tt
small_picks xs small (k ∷ ks) = (small k, small_picks xs small ks)

-- eight units from an index on
pub units_of_bytes : (bytes : List ℕ) → IsBytes bytes → (at : ℕ) → 2 * at + 16 ≤ length bytes
    → digits_l 65536 8 (number_l 256
    (pick_l 0 (chunk (2 * at) 16 bytes ++ chunk (2 * at) 16 bytes) turns))
    ≡ take 8 (drop at (numbers_spelled 2 bytes))
units_of_bytes bytes small at le =
    let all = chunk (2 * at) 16 bytes in
    let units = numbers_spelled 2 bytes in
    let long : length all ≡ 16 = length-chunk (2 * at) 16 bytes le in
    let of_all : pick_l 0 (all ++ all) turns ≡ pick_l 0 all turns =
    pick_l_left 0 all all 16 turns long tt in
    let many : length (take 8 (drop at units)) ≡ 8 =
    length-take-le 8 (drop at units)
    (omega (arith, length-drop at units, units_length bytes, le)) in
    let byte : (i : ℕ) → i < 16 → get_or all i 0 ≡ get_or bytes (2 * at + i) 0 =
    λ i below. get_or-take 16 (drop (2 * at) bytes) i 0 below ∙ get_or-drop (2 * at) bytes i 0 in
    ap (λ xs. digits_l 65536 8 (number_l 256 xs)) of_all
    ∙ same_number_lists (digits_l 65536 8 (number_l 256 (pick_l 0 all turns)))
    (take 8 (drop at units)) (sym many) (λ k below.
    let less : k < 8 = below in
    get_or_wider 256 2 65536 8 (pick_l 0 all turns) k refl
    (small_picks all (small_take 16 (drop (2 * at) bytes) (small_drop (2 * at) bytes small)) turns)
    less
    ∙ pair_at all k less
    ∙ (λ i. 256 * byte (2 * k) (omega (arith, less)) i + byte (suc (2 * k)) (omega (arith, less)) i)
    ∙ (λ i. 256 * get_or bytes (even k i) 0 + get_or bytes (odd k i) 0)
    ∙ sym (unit_is bytes (at + k) (omega (arith, le, less)))
    ∙ sym (get_or-take 8 (drop at units) k 0 less ∙ get_or-drop at units k 0
    ∙ nth_unit bytes (at + k) (omega (arith, le, less))))
  where
    even : (k : ℕ) → 2 * at + 2 * k ≡ (at + k) * 2
    even k = omega arith

    odd : (k : ℕ) → 2 * at + suc (2 * k) ≡ suc ((at + k) * 2)
    odd k = omega arith

-- one more block is counted
pub shares_more : (us : List ℕ) (block size eight : ℕ)
    → size ≡ sum_by utf8_share (take (8 * block) us)
    → eight ≡ sum_by utf8_share (take 8 (drop (8 * block) us))
    → size + eight ≡ sum_by utf8_share (take (8 * (block + 1)) us)
shares_more us block size eight before more =
    (λ i. before i + more i)
    ∙ sym (sum_by-append utf8_share (take (8 * block) us) (take 8 (drop (8 * block) us)))
    ∙ ap (sum_by utf8_share) (sym (take-add (8 * block) 8 us)
    ∙ ap (λ n. take n us) {x = 8 * block + 8} {y = 8 * (block + 1)} (omega arith))

-- rules for the bytes of all units
pub ruleset shares = (share_more, shares_all, shares_more)
