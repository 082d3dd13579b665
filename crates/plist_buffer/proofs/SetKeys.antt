-- Keys of a set: equal keys have the same view.
use Rattle.std.proofs.Common.{◌≡◌, ◌⊎◌, inl, inr, ℕ, zero, suc, ◌+◌, ◌<◌, Bool, true, false, if◌then◌else◌, List, [], ◌∷◌, ◌++◌, length, map, take, position, Option, None, Some, refl, sym, ap, arith}
use Rattle.std.proofs.Math.Seq.{take-append_seam, take-length}
use Rattle.std.proofs.lemmas.List.{map-append}
use Rattle.std.proofs.lemmas.List.Quantifiers.{position-Some}
use Rattle.std.specs.Prelude.{slice_get, IfSome}
use Rattle.std.specs.List.{AllByRecursion, IsDistinct}
use Rattle.std.proofs.lemmas.Option.{slice_get_cases, slice_get_within, slice_get-map, slice_get-get_or}
use Rattle.plist_buffer.specs.inner.Entries.{AreDistinct}

-- a key of a list with one more key was there, or is that key
pub old_or_last : {K : Type 0} (a : List K) (x : K) (i : ℕ) (k : K) → slice_get (a ++ x ∷ []) i ≡ Some k
    → (slice_get a i ≡ Some k) ⊎ (k ≡ x)
old_or_last [] x zero k h = inr cc
old_or_last [] x (suc i) k h = cc
old_or_last (y ∷ a) x zero k h = inl h
old_or_last (y ∷ a) x (suc i) k h = old_or_last a x i k h

module _ {T P : Type 0} (same : T → T → Bool) (view : T → P) where
  -- if an item at an index is the same as x, the key at that index is that of x
  pub key_at : (cs : List T) (i : ℕ) (x y : T) → (same x y ≡ true → view x ≡ view y)
      → slice_get cs i ≡ Some y → same x y ≡ true → slice_get (map view cs) i ≡ Some
      (view x)
  key_at cs i x y same_key h s =
      cc (slice_get-map view cs i, same_key s)

  -- after an insert there is at most one more key
  pub grown : (b : Bool) (old new : List T) (x : T) → new ≡ (if b then old else old ++ x ∷ [])
      → (map view new ≡ map view old) ⊎ (map view new ≡ map view old ++ view x ∷ [])
  grown b old new x e = grind (arith, map-append)

  module _ (b : Bool) (old new : List T) (x : T)
      (e : new ≡ (if b then old else old ++ x ∷ [])) where
    -- inserting a key changes no key before it
    pub keys_kept : (i : ℕ) → i < length (map view old)
        → slice_get (map view new) i ≡ slice_get (map view old) i
    keys_kept i h = grind (arith, grown b old new x e, front (map view old) i)
      where
        front : (xs : List P) (i : ℕ) → i < length xs
            → slice_get (xs ++ view x ∷ []) i ≡ slice_get xs i
        front [] i h = absurd (omega arith)
        front (y ∷ xs) zero h = refl
        front (y ∷ xs) (suc i) h = front xs i (omega arith)

    -- a key is one of those before, or the one that was inserted
    pub key_came : (i : ℕ) → i < length (map view new)
        → (i < length (map view old)) ⊎ (slice_get (map view new) i ≡ Some (view x))
    key_came i h = grind (
      arith,
      grown b old new x e,
      slice_get_cases (map view new) i,
      old_or_last (map view old) (view x) i,
      slice_get_within (map view old) i,
    )

  -- if keys that are the same as x have its view, the key that is found for x has it
  pub key_found : (x : T) → ((y : T) → same x y ≡ true → view x ≡ view y) → (cs : List T)
      (found : Option ℕ) → found ≡ position (same x) cs
      → IfSome found (λ i. slice_get (map view cs) i ≡ Some (view x))
  key_found x same_key cs None is = tt
  key_found x same_key [] (Some i) is = cc
  key_found x same_key (d ∷ cs) (Some i) is =
      let f = position-Some (same x) (d ∷ cs) i d (sym is) in
      cc (slice_get-map view (d ∷ cs) i, slice_get-get_or (d ∷ cs) i d f.0, same_key _ f.1)

  module _ (key_same : (x y : T) → view x ≡ view y → same x y ≡ true) where
    no_key : (x : T) (cs : List T) (j : ℕ) → AllByRecursion (λ y. same x y ≡ false) cs
        → slice_get (map view cs) j ≡ Some (view x) → ⊥
    no_key x [] j a h = cc
    no_key x (y ∷ cs) zero a h =
        let k : view y ≡ view x = cc in cc (key_same x y (sym k), a.0)
    no_key x (y ∷ cs) (suc j) a h = no_key x cs j a.1 h

    -- different keys have different views
    pub keys_apart : (cs : List T) → IsDistinct same cs → AreDistinct (map view cs)
    unfolding IsDistinct
    keys_apart [] d i j k p q = cc
    keys_apart (x ∷ cs) d zero zero k p q = refl
    keys_apart (x ∷ cs) d zero (suc j) k p q = absurd (no_key x cs j d.0 (cc))
    keys_apart (x ∷ cs) d (suc i) zero k p q = absurd (no_key x cs i d.0 (cc))
    keys_apart (x ∷ cs) d (suc i) (suc j) k p q = ap suc (keys_apart cs d.1 i j k p q)

-- the key with a number has the view that is stored with this number
pub key_read : {T P : Type 0} (view : T → P) (cs : List T) (i : ℕ) {x : T} {shown : P}
    → slice_get (map view cs) i ≡ Some shown → Some x ≡ slice_get cs i → shown ≡ view x
key_read view cs i stored found = cc (slice_get-map view cs i, stored, found)

-- if the inserted key is removed, the keys are the old ones
pub keys_back : {T : Type 0} (b : Bool) {old new left : List T} {n : ℕ} (x : T)
    → left ≡ take n new → n ≡ length old → new ≡ (if b then old else old ++ x ∷ []) → left ≡ old
keys_back b x taken long e = grind (arith, take-length, take-append_seam)

-- ---- two lists of keys, one after the other

module _ {K : Type 0} where
  pub first_of_both : (a b : List K) (i : ℕ) (k : K) → slice_get a i ≡ Some k
      → slice_get (a ++ b) i ≡ Some k
  first_of_both [] b i k h = cc
  first_of_both (x ∷ a) b zero k h = h
  first_of_both (x ∷ a) b (suc i) k h = first_of_both a b i k h

  pub second_of_both : (a b : List K) (i : ℕ) (k : K) → slice_get b i ≡ Some k
      → slice_get (a ++ b) (length a + i) ≡ Some k
  second_of_both [] b i k h =
      grind arith
  second_of_both (x ∷ a) b i k h =
      grind (arith, second_of_both a b i k h)

  one_of_both : (a b : List K) (i : ℕ) (k : K) → slice_get (a ++ b) i ≡ Some k
      → (slice_get a i ≡ Some k) ⊎ ((j : ℕ) × (i ≡ length a + j) × (slice_get b j ≡ Some k))
  one_of_both [] b i k h = inr (i, omega arith, h)
  one_of_both (x ∷ a) b zero k h = inl h
  one_of_both (x ∷ a) b (suc i) k h = grind (arith, one_of_both a b i k h)

  module _ (a b : List K) where
    pub distinct_first : AreDistinct (a ++ b) → AreDistinct a
    distinct_first apart i j k p q = grind (arith, apart i j k, first_of_both a b)

    pub distinct_second : AreDistinct (a ++ b) → AreDistinct b
    distinct_second apart i j k p q =
        grind (arith, apart (length a + i) (length a + j) k, second_of_both a b)

    -- keys are distinct if those of both lists are, and no key is in both
    pub distinct_both : AreDistinct a → AreDistinct b
        → ((i j : ℕ) (k : K) → slice_get a i ≡ Some k → slice_get b j ≡ Some k → ⊥)
        → AreDistinct (a ++ b)
    distinct_both first second never i j k p q =
        by (one_of_both a b i k p) (one_of_both a b j k q)
      where
        by : (slice_get a i ≡ Some k) ⊎ ((n : ℕ) × (i ≡ length a + n) × (slice_get b n ≡ Some k))
            → (slice_get a j ≡ Some k) ⊎ ((n : ℕ) × (j ≡ length a + n) × (slice_get b n ≡ Some k))
            → i ≡ j
        by s t = grind (arith, first i j k, never i, never j, second)

-- a key of a mapped list is the image of an item
pub mapped : {T P : Type 0} (view : T → P) (cs : List T) (i : ℕ) (k : P)
    → slice_get (map view cs) i ≡ Some k → (x : T) × (k ≡ view x)
mapped view [] i k h = cc
mapped view (x ∷ cs) zero k h = (x, cc)
mapped view (x ∷ cs) (suc i) k h = mapped view cs i k h
