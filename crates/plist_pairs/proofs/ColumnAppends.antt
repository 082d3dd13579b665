-- Keys and values that are appended to two columns, and their order.
use Rattle.std.proofs.Common.{◌≡◌, ℕ, ◌+◌, ◌<◌, ◌≤◌, Bool, true, false, not, cond, List, [], ◌∷◌, ◌++◌, length, map, sym, ap, subst, ◌∙◌, is_some, IsSome, Option, option_to_list, length-append, Some, None, position, string_bytes, bytes_eq, lt-ltb, refl, append_assoc, arith, is_lt, string_cmp, IsPermutation, IsSorted, nat_cmp, IsSortedBy}
use Rattle.std.specs.List.{list_any, IsDistinct}
use Rattle.std.specs.Map.{lookup, keys_of}
use Rattle.std.proofs.lemmas.List.{length-map, get_or-map, map-append, map_push}
use Rattle.plist_pairs.proofs.PairColumns.{Text, rows, rows-old, rows-pushed, columns, any-rows, keys-rows}
use Rattle.plist_pairs.proofs.EntrySteps.{comes_last, none_of}
use Rattle.std.specs.Cmp.Lexicographic.{slice_cmp, nat_list_eq_equiv}
use Rattle.std.proofs.lemmas.List.Sorted.{IsPermutation-map}
use Rattle.indexmap.proofs.MapLemmas.{absent_before, distinct_permutation}
use Rattle.plist_pairs.specs.Keys.{shown_owned_pair}
use Rattle.plist_pairs.proofs.DistinctKeys.{first-distinct}

abbrev pub has : List Text → Text → Bool
has ks k = list_any (λ (l : Text). bytes_eq (string_bytes k) (string_bytes l)) ks

-- a new key is appended, with its value
module _ {X : Type 0} (ks : List Text) (vs : List X) (e : length vs ≡ length ks) (k : Text) (v : X)
    (lacks : has ks k ≡ false) (ls : List Text) (ws : List X)
    (hl : ls ≡ cond (has ks k) ks (ks ++ k ∷ [])) (hw : ws ≡ vs ++ v ∷ []) where
  put-keys : ls ≡ ks ++ k ∷ []
  put-keys = cc

  pub put-lengths : length ws ≡ length ls
  put-lengths =
      ap length hw ∙ length-append vs _ ∙ ap (λ n. n + 1) e ∙ sym (length-append ks _)
      ∙ ap length (sym put-keys)

  pub put-rows : rows ls ws ≡ rows ks vs ++ (string_bytes k, v) ∷ []
  put-rows =
      (λ i. rows (put-keys i) (hw i)) ∙ rows-pushed ks vs e k v

-- a key that equals none of the keys has no value
pub none-rows : {X : Type 0} (ks : List Text) (vs : List X) → length vs ≡ length ks
    → (t : List ℕ → Bool) → list_any (λ k. t (string_bytes k)) ks ≡ false
    → lookup t (rows ks vs) ≡ None
none-rows ks vs e t lacks = none_of _ (cc (any-rows ks vs t e))

-- a list that is sorted by a function's values becomes a sorted list of these values
sorted-map : {A K : Type 0} (f : A → K) (lt : K → K → Bool) (xs : List A)
    → IsSortedBy (λ a b. lt (f a) (f b)) xs → IsSortedBy lt (map f xs)
sorted-map f lt [] s k d a b = absurd (omega arith)
sorted-map f lt (x ∷ xs) s k d a b =
    let all = x ∷ xs in
    let within : k + 1 < length all = omega (arith, length-map all f) in
    (λ j. lt (get_or-map f all _ x d within j)
    (get_or-map f all k x d (omega (arith, within)) j)) ∙ s k x a within

module _ {V : Type 0} where
  module _ (ks : List Text) (vs : List V) (e : length vs ≡ length ks) (whole : List (List ℕ × V))
      (d : IsDistinct bytes_eq (keys_of whole)) where
    -- the keys so far are distinct
    pub so-far : (more : List (List ℕ × V)) → rows ks vs ++ more ≡ whole
        → IsDistinct bytes_eq (map string_bytes ks)
    so-far more all =
        first-distinct _ _ (subst (IsDistinct bytes_eq)
        (ap keys_of (sym all) ∙ map-append (λ p. p.0) (rows ks vs) more
        ∙ ap (λ l. l ++ keys_of more) (keys-rows ks vs e)) d)

    module _ (k : Text) (v : V) (rest less : List (Text × V)) (next : rest ≡ (k, v) ∷ less)
        (all : rows ks vs ++ map shown_owned_pair rest ≡ whole) where
      parts : rows ks vs ++ (string_bytes k, v) ∷ map shown_owned_pair less ≡ whole
      parts = cc

      absent : has ks k ≡ false
      absent =
          any-rows ks vs _ e
          ∙ ap is_some (absent_before nat_list_eq_equiv (rows ks vs) _ (string_bytes k, v)
          (subst (λ l. IsDistinct bytes_eq (keys_of l)) (sym parts) d))

      module _ (ls : List Text) (ws : List V) (hl : ls ≡ cond (has ks k) ks (ks ++ k ∷ []))
          (hw : ws ≡ vs ++ v ∷ []) where
        pub then-put : (length ws ≡ length ls) × (rows ls ws ++ map shown_owned_pair less ≡ whole)
        then-put = (
          put-lengths ks vs e k v absent ls ws hl hw,
          ap (λ l. l ++ map shown_owned_pair less) (put-rows ks vs e k v absent ls ws hl hw)
              ∙ append_assoc (rows ks vs) ((string_bytes k, v) ∷ []) (map shown_owned_pair less)
              ∙ parts,
        )

  keys-shown : (all : List (Text × V))
      → map (λ (r : Text × V). string_bytes r.0) all ≡ keys_of (map shown_owned_pair all)
  keys-shown [] = refl
  keys-shown (r ∷ all) = ap (λ l. string_bytes r.0 ∷ l) (keys-shown all)

  pub sorted-rows : (all : List (Text × V)) (ps : List (List ℕ × V)) → ps ≡ map shown_owned_pair all
      → IsSortedBy (λ (a b : Text × V). is_lt (string_cmp a.0 b.0)) all
      → IsSorted (slice_cmp nat_cmp) (keys_of ps)
  sorted-rows all ps is s =
      rw (← (keys-shown all ∙ ap keys_of (sym is)))
      (sorted-map (λ (r : Text × V). string_bytes r.0) (λ x y. is_lt (slice_cmp nat_cmp x y))
      all s)

  pub moved-rows : (old : List (List ℕ × V)) (all sorted : List (Text × V))
      → map shown_owned_pair all ≡ old → IsPermutation all sorted
      → IsPermutation old (map shown_owned_pair sorted)
  moved-rows old all sorted is m =
      rw (← is) (IsPermutation-map shown_owned_pair all sorted m)

  pub still-distinct : (old new : List (List ℕ × V)) → IsDistinct bytes_eq (keys_of old)
      → IsPermutation old new → IsDistinct bytes_eq (keys_of new)
  still-distinct old new d m =
      distinct_permutation nat_list_eq_equiv _ _
      (IsPermutation-map (λ p. p.0) old new m) d

-- rules for inserting into the columns
pub ruleset inserting = (columns, rows-pushed, rows-old, comes_last, none-rows, length-append)

-- rules for sorted rows
pub ruleset sorting = (moved-rows, so-far, sorted-rows, still-distinct)
