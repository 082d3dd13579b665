-- Bytes that are tested in blocks.
use Rattle.std.proofs.Common.{◌≡◌, ℕ, ◌+◌, ◌-◌, ◌%◌, ◌^◌, ◌<◌, ◌≤◌, inl, inr, zero, suc, Bool, true, false, cond, eqb, List, [], ◌∷◌, ◌++◌, map, length, get_or, take, drop, replicate, refl, sym, ap, subst, ◌∙◌, arith, eqb-true, leb, leb-false, take-add, w8, bit_or}
use Rattle.std.specs.Str.{IsAscii}
use Rattle.std.proofs.lemmas.Bool.{cases_lt, false_from_ne_true}
use Rattle.std.proofs.lemmas.List.{get_or-take, get_or-drop, get_or_past, length-take, length-take-le, length-drop, take-take, take_all}
use Rattle.std.proofs.lemmas.Nat.{and_le_l, and_le_r}
use Rattle.std.proofs.lemmas.Simd.{bitmask_splat, length-chunk, take_more_put_chunk}
use lib.Bits.{or_add_and}
use lib.Lanes.{chunk, mask_l, put_chunk, top, zip2}
use Rattle.plist_base.specs.ByteTests.{CopiesPassing, EachByte}

none_marked : (p : ℕ → Bool) (bytes : List ℕ) → mask_l (map p bytes) ≡ 0
    → (i : ℕ) → i < length bytes → p (get_or bytes i 0) ≡ false
none_marked p [] e i within = absurd (omega arith)
none_marked p (byte ∷ bytes) e zero within = false_from_ne_true _ (λ is. absurd (omega (arith, rw is at e)))
none_marked p (byte ∷ bytes) e (suc i) within = none_marked p bytes (omega arith) i (omega arith)

-- the mask of a comparison with one number: the bytes are its left sides
abbrev pub mask_left : (ℕ → ℕ → Bool) → List ℕ → (number : ℕ) → (n : ℕ) → ℕ
mask_left t bytes number n =
    mask_l (map (top 7) (zip2 (λ a b. cond (t a b) 255 0) bytes (replicate n number))) % 2 ^ 64

-- if the mask is zero, the comparison is false for each byte
pub none_left : (t : ℕ → ℕ → Bool) (n number : ℕ) (bytes : List ℕ) → n ≤ 64 → length bytes ≡ n
    → eqb (mask_left t bytes number n) 0 ≡ true
    → (i : ℕ) → i < length bytes → t (get_or bytes i 0) number ≡ false
none_left t n number bytes few long e =
    none_marked (λ byte. t byte number) bytes
    (sym (bitmask_splat w8 t bytes n number long few) ∙ eqb-true _ _ e)

-- two masks are zero if their bitwise OR is zero
pub none_of_two : (a b : ℕ) → bit_or a b ≡ 0 → (a ≡ 0) × (b ≡ 0)
none_of_two a b none = (
  omega (arith, or_add_and a b, and_le_l a b, and_le_r a b),
  omega (arith, or_add_and a b, and_le_l a b, and_le_r a b),
)

-- a function of one number and each byte, with its arguments the other way round
pub turned : (f : ℕ → ℕ → ℕ) (n number : ℕ) (bytes : List ℕ) → length bytes ≡ n
    → zip2 f (replicate n number) bytes ≡ zip2 (λ a b. f b a) bytes (replicate n number)
turned f zero number [] long = refl
turned f (suc n) number (byte ∷ bytes) long =
    ap (λ rest. f number byte ∷ rest) (turned f n number bytes (omega arith))
turned f n number bytes long = absurd (omega arith)

-- like `mask_left`, with the bytes as the right sides
abbrev pub mask_right : (ℕ → ℕ → Bool) → List ℕ → (number : ℕ) → (n : ℕ) → ℕ
mask_right t bytes number n =
    mask_l (map (top 7) (zip2 (λ a b. cond (t a b) 255 0) (replicate n number) bytes)) % 2 ^ 64

-- if the mask is zero, the comparison is false for each byte
pub none_right : (t : ℕ → ℕ → Bool) (n number : ℕ) (bytes : List ℕ) → n ≤ 64 → length bytes ≡ n
    → eqb (mask_right t bytes number n) 0 ≡ true
    → (i : ℕ) → i < length bytes → t number (get_or bytes i 0) ≡ false
none_right t n number bytes few long e =
    none_left (λ a b. t b a) n number bytes few long
    (ap (λ lanes. eqb (mask_l (map (top 7) lanes) % 2 ^ 64) 0)
    (sym (turned (λ a b. cond (t a b) 255 0) n number bytes long)) ∙ e)

-- if the mask of the bytes that are at least this number is zero, each byte is less
pub each_below : (n number : ℕ) (bytes : List ℕ) → n ≤ 64 → length bytes ≡ n
    → eqb (mask_right leb bytes number n) 0 ≡ true → EachByte (λ byte. byte < number) bytes
each_below n number bytes few long none i within =
    leb-false _ _ (none_right leb n number bytes few long none i within)

-- if some bytes have a property, so have fewer
each_fewer : (P : ℕ → Type 0) (bytes : List ℕ) (m n : ℕ) → m ≤ n → EachByte P (take n bytes)
    → EachByte P (take m bytes)
each_fewer P bytes m n le all i within =
    let below : i < m = omega (arith, length-take m bytes) in
    subst P (get_or-take n bytes i 0 (omega (arith, below, le)) ∙ sym (get_or-take m bytes i 0 below))
    (all i (omega (arith, length-take m bytes, length-take n bytes, le)))

-- if the bytes before a block and those of the block have a property, so have all bytes up to its
-- end
pub each_more : (P : ℕ → Type 0) (bytes : List ℕ) (at size : ℕ) → at + size ≤ length bytes
    → EachByte P (take at bytes) → EachByte P (take size (drop at bytes))
    → EachByte P (take (at + size) bytes)
each_more P bytes at size le before next i within =
    let long = length-take-le (at + size) bytes le in
    elim (cases_lt i at) [
      | inl below ↦
          subst P (get_or-take at bytes i 0 below ∙ sym (get_or-take (at + size) bytes i 0 (omega arith)))
          (before i (omega (arith, length-take-le at bytes (omega arith))))
      | inr past ↦
          subst P (get_or-take size (drop at bytes) (i - at) 0 (omega arith)
          ∙ get_or-drop at bytes (i - at) 0 ∙ ap (λ k. get_or bytes k 0) (omega arith)
          ∙ sym (get_or-take (at + size) bytes i 0 (omega arith)))
          (next (i - at) (omega (arith, length-take-le size (drop at bytes) (omega (arith, length-drop at bytes)))))
    ]

-- all bytes have a property if those up to one index have it, and those of the last block, which
-- begins at that index or before
pub each_covered : (P : ℕ → Type 0) (bytes : List ℕ) (first size n : ℕ) → first ≤ n
    → length bytes ≡ first + size → EachByte P (take n bytes)
    → EachByte P (take size (drop first bytes)) → EachByte P bytes
each_covered P bytes first size n le long front back =
    subst (EachByte P) (take_all (first + size) bytes (omega (arith, long)))
    (each_more P bytes first size (omega (arith, long)) (each_fewer P bytes first n le front) back)

-- if the bytes before a block were copied, and the block that has the property is copied, so are all
-- bytes up to its end
pub copies_more : (P : ℕ → Type 0) (bytes target : List ℕ) (at size : ℕ) → at + size ≤ length bytes
    → length target ≡ length bytes → CopiesPassing P at bytes target
    → EachByte P (chunk at size bytes)
    → CopiesPassing P (at + size) bytes (put_chunk at target (chunk at size bytes))
copies_more P bytes target at size le same before next =
    let block = chunk at size bytes in
    let long : length block ≡ size = length-chunk at size bytes le in
    record {
      copied = take_more_put_chunk at target block (at + size) (omega (arith, long)) (omega (arith, same, le))
          ∙ ap (λ front. front ++ block) before.copied ∙ sym (take-add at size bytes);
      passed = each_more P bytes at size le before.passed next;
    }

-- if some bytes were copied, so were fewer
pub copies_fewer : (P : ℕ → Type 0) (bytes target : List ℕ) (m n : ℕ) → m ≤ n
    → CopiesPassing P n bytes target → CopiesPassing P m bytes target
copies_fewer P bytes target m n le all = record {
  copied = sym (take-take m n target le) ∙ ap (take m) all.copied ∙ take-take m n bytes le;
  passed = each_fewer P bytes m n le all.passed;
}

-- bytes that are each ASCII are ASCII together
pub ascii_from_each : (bytes : List ℕ) → EachByte (λ byte. byte < 128) bytes → IsAscii bytes
ascii_from_each bytes each i = elim (cases_lt i (length bytes)) [
  | inl within ↦ each i within
  | inr past ↦ let e = get_or_past bytes i 0 past in omega arith
]
