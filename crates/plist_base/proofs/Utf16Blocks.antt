-- Characters of a string in UTF-16 that are ASCII, eight at a time.
use Rattle.std.proofs.lemmas.Bool.Decides.{nat_tests}
use Rattle.std.proofs.Common.{◌≡◌, ℕ, ◌+◌, ◌-◌, ◌*◌, ◌/◌, ◌<◌, ◌≤◌, inl, zero, suc, false, not, List, [], ◌∷◌, ◌++◌, length, get_or, drop, take, map, Option, Some, refl, sym, subst, ap, ◌∙◌, arith, drop-cons, is_some, eq-eqb, leb, bit_or}
use Rattle.std.specs.List.{list_any}
use Rattle.std.specs.Option.{unwrap_or}
use Rattle.std.specs.Char.Utf16.{has_unpaired_surrogate, utf16_chars, utf16_lossy_chars}
use Rattle.std.proofs.lemmas.List.{get_or-drop, get_or-take}
use Rattle.std.proofs.str.Utf16.{utf16_chars-drop_all}
use lib.Lanes.{pick_l}
use Rattle.plist_base.specs.ByteTests.{EachByte}
use Rattle.plist_base.specs.Container.{number_of, numbers_spelled}
use Rattle.plist_base.specs.Utf16.{ArePaired, IsAsciiBlock, unit_at}
use Rattle.plist_base.proofs.ByteBlocks.{each_below, mask_right, none_of_two}
use Rattle.plist_base.proofs.Utf16Forms.{IsBytes}
use Rattle.plist_base.proofs.Utf16Units.{next_lone, units_length}

-- the indices of the first bytes of eight units
abbrev evens : List ℕ
evens = 0 ∷ 2 ∷ 4 ∷ 6 ∷ 8 ∷ 10 ∷ 12 ∷ 14 ∷ []

-- the indices of their second bytes
abbrev odds : List ℕ
odds = 1 ∷ 3 ∷ 5 ∷ 7 ∷ 9 ∷ 11 ∷ 13 ∷ 15 ∷ []

-- the first bytes of eight units
abbrev pub first_bytes : (units : List ℕ) → List ℕ
first_bytes units = pick_l 0 (take 16 units ++ take 16 units) evens

-- their second bytes
abbrev pub second_bytes : (units : List ℕ) → List ℕ
second_bytes units = pick_l 0 (take 16 units ++ take 16 units) odds

-- they lie at the even indices
pub at_evens : (units : List ℕ) → 16 ≤ length units → (k : ℕ) → k < 8
    → get_or (first_bytes units) k 0 ≡ get_or units (2 * k) 0
at_evens units long k below = grind (arith, nat_tests)

-- the second bytes lie at the odd indices
at_odds : (units : List ℕ) → 16 ≤ length units → (k : ℕ) → k < 8
    → get_or (second_bytes units) k 0 ≡ get_or units (2 * k + 1) 0
at_odds units long k below = grind (arith, nat_tests)

-- eight units whose first bytes are zero, and whose second bytes are ASCII: no mask has a bit
pub block_of : (units : List ℕ) → 16 ≤ length units
    → bit_or (mask_right leb (first_bytes units) 1 8) (mask_right leb (second_bytes units) 128 8) ≡ 0
    → IsAsciiBlock units (second_bytes units)
block_of units long none =
    let masks = none_of_two (mask_right leb (first_bytes units) 1 8) (mask_right leb (second_bytes units) 128 8) none in
    let zeros = each_below 8 1 (first_bytes units) (omega arith) refl (eq-eqb _ _ masks.0) in
    record {
      long = refl;
      first = λ k below. omega (arith, at_evens units long k below, zeros k below);
      second = λ k below. sym (at_odds units long k below);
      ascii = each_below 8 128 (second_bytes units) (omega arith) refl (eq-eqb _ _ masks.1);
    }

-- the bytes of a unit
pub unit_is : (bytes : List ℕ) (at : ℕ) → at * 2 + 2 ≤ length bytes
    → unit_at bytes at ≡ 256 * get_or bytes (at * 2) 0 + get_or bytes (suc (at * 2)) 0
unit_is bytes at le =
    ap (λ l. number_of (take 2 l)) (drop-cons bytes (at * 2) 0 (omega (arith, le))
    ∙ ap (λ l. get_or bytes (at * 2) 0 ∷ l)
    (drop-cons bytes (suc (at * 2)) 0 (omega (arith, le))))
    ∙ omega arith

module _ (bytes : List ℕ) where
  -- units whose first bytes are zero, and whose second bytes are these, which are ASCII
  ascii_chars : (at : ℕ) (block : List ℕ) → (at + length block) * 2 ≤ length bytes
      → ((k : ℕ) → k < length block → get_or bytes ((at + k) * 2) 0 ≡ 0)
      → ((k : ℕ) → k < length block → get_or bytes (suc ((at + k) * 2)) 0 ≡ get_or block k 0)
      → EachByte (λ byte. byte < 128) block
      → utf16_chars (drop at (numbers_spelled 2 bytes))
      ≡ map Some block ++ utf16_chars (drop (at + length block) (numbers_spelled 2 bytes))
  ascii_chars at [] le first second ascii =
      ap (λ k. utf16_chars (drop k (numbers_spelled 2 bytes))) {x = at} {y = at + 0} (omega arith)
  ascii_chars at (b ∷ block) le first second ascii =
      let same : (k : ℕ) → at + 1 + k ≡ at + suc k = λ k. omega arith in
      let unit : unit_at bytes at ≡ b = grind
      (arith, unit_is bytes at (omega (arith, le)), first 0 (omega arith), second 0 (omega arith)) in
      let next = next_lone bytes at (omega (arith, le)) (omega (arith, unit, ascii 0 (omega arith)))
      (inl (omega (arith, unit, ascii 0 (omega arith)))) in
      next.chars
      ∙ (λ i. Some (unit i) ∷ ascii_chars (at + 1) block (omega (arith, le))
      (λ k below. ap (λ n. get_or bytes (n * 2) 0) (same k) ∙ first (suc k) (omega (arith, below)))
      (λ k below. ap (λ n. get_or bytes (suc (n * 2)) 0) (same k) ∙ second (suc k) (omega (arith, below)))
      (λ k below. ascii (suc k) (omega (arith, below))) i)
      ∙ ap (λ n. map Some (b ∷ block) ++ utf16_chars (drop n (numbers_spelled 2 bytes)))
      (same (length block))

  -- a block of ASCII from an index on
  pub block_chars : (at : ℕ) (block : List ℕ) → at * 2 + 16 ≤ length bytes
      → IsAsciiBlock (take (length bytes - 2 * at) (drop (2 * at) bytes)) block
      → utf16_chars (drop at (numbers_spelled 2 bytes))
      ≡ map Some block ++ utf16_chars (drop (at + 8) (numbers_spelled 2 bytes))
  block_chars at block le of =
      let n = length bytes - 2 * at in
      let inside : (i : ℕ) → i < 16 → get_or bytes (2 * at + i) 0 ≡ get_or (take n (drop (2 * at) bytes)) i 0 =
      λ i below. sym (get_or-take n (drop (2 * at) bytes) i 0 (omega (arith, le, below))
      ∙ get_or-drop (2 * at) bytes i 0) in
      ascii_chars at block (omega (arith, le, of.long))
      (λ k below. let less : k < 8 = omega (arith, below, of.long) in
      grind (arith, inside (2 * k) (omega (arith, less)), of.first k less))
      (λ k below. let less : k < 8 = omega (arith, below, of.long) in
      grind (arith, inside (2 * k + 1) (omega (arith, less)), of.second k less))
      of.ascii
      ∙ ap (λ n. map Some block ++ utf16_chars (drop (at + n) (numbers_spelled 2 bytes))) of.long

lossy_more : (block : List ℕ) (rest : List (Option ℕ))
    → map (λ o. unwrap_or o 0xFFFD) (map Some block ++ rest)
    ≡ block ++ map (λ o. unwrap_or o 0xFFFD) rest
lossy_more [] rest = refl
lossy_more (b ∷ block) rest = ap (λ l. b ∷ l) (lossy_more block rest)

paired_more : (block : List ℕ) (rest : List (Option ℕ))
    → list_any (λ o. not (is_some o)) (map Some block ++ rest) ≡ list_any (λ o. not (is_some o)) rest
paired_more [] rest = refl
paired_more (b ∷ block) rest = paired_more block rest

-- the characters before a block are those of the block and those after it
pub block_yields : (units after block : List ℕ)
    → utf16_chars units ≡ map Some block ++ utf16_chars after
    → utf16_lossy_chars units ≡ block ++ utf16_lossy_chars after
block_yields units after block is =
    ap (λ l. map (λ o. unwrap_or o 0xFFFD) l) is ∙ lossy_more block (utf16_chars after)

-- no surrogate after a block is unpaired
pub block_paired : (units after block : List ℕ)
    → utf16_chars units ≡ map Some block ++ utf16_chars after
    → has_unpaired_surrogate units ≡ false → has_unpaired_surrogate after ≡ false
block_paired units after block is paired =
    sym (ap (λ l. list_any (λ o. not (is_some o)) l) is ∙ paired_more block (utf16_chars after)) ∙ paired

module _ (bytes : List ℕ) (small : IsBytes bytes) where
  -- units whose first bytes are below those of surrogates
  low_units : (n at : ℕ) → (at + n) * 2 ≤ length bytes
      → ((k : ℕ) → k < n → get_or bytes ((at + k) * 2) 0 < 0xd8)
      → has_unpaired_surrogate (drop at (numbers_spelled 2 bytes))
      ≡ has_unpaired_surrogate (drop (at + n) (numbers_spelled 2 bytes))
  low_units zero at le first =
      ap (λ k. has_unpaired_surrogate (drop k (numbers_spelled 2 bytes))) {x = at} {y = at + 0}
      (omega arith)
  low_units (suc n) at le first =
      let same : (k : ℕ) → at + 1 + k ≡ at + suc k = λ k. omega arith in
      let low : unit_at bytes at < 0xd800 = grind (
        arith,
        unit_is bytes at (omega (arith, le)),
        first 0 (omega arith),
        small (suc (at * 2)),
      ) in
      let next = next_lone bytes at (omega (arith, le)) (omega (arith, low)) (inl low) in
      ap (λ l. list_any (λ o. not (is_some o)) l) next.chars
      ∙ low_units n (at + 1) (omega (arith, le))
      (λ k below. subst (λ i. get_or bytes (i * 2) 0 < 0xd8) (sym (same k))
      (first (suc k) (omega (arith, below))))
      ∙ ap (λ k. has_unpaired_surrogate (drop k (numbers_spelled 2 bytes))) (same n)

  -- bytes below those of surrogates have no surrogates
  pub no_surrogates : EachByte (λ byte. byte < 0xd8) bytes → ArePaired bytes
  no_surrogates each =
      low_units (length bytes / 2) 0 (omega arith) (λ k below. each ((0 + k) * 2) (omega (arith, below)))
      ∙ rw (utf16_chars-drop_all (numbers_spelled 2 bytes) (0 + length bytes / 2) (omega (arith, units_length bytes))) refl

  -- the index after eight units whose first bytes are below those of surrogates
  pub after_block : (at : ℕ) → at * 2 + 16 ≤ length bytes
      → ((k : ℕ) → k < 8
      → get_or (take (length bytes - 2 * at) (drop (2 * at) bytes)) (2 * k) 0 < 0xd8)
      → has_unpaired_surrogate (drop at (numbers_spelled 2 bytes))
      ≡ has_unpaired_surrogate (drop (at + 8) (numbers_spelled 2 bytes))
  after_block at le first =
      let n = length bytes - 2 * at in
      low_units 8 at (omega (arith, le)) (λ k below.
      grind (
        arith,
        get_or-take n (drop (2 * at) bytes) (2 * k) 0 (omega (arith, le, below)),
        get_or-drop (2 * at) bytes (2 * k) 0,
        first k below,
      ))

-- rules for blocks of ASCII
pub ruleset blocks = (block_chars, block_paired, block_yields)
