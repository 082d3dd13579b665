-- Equality of values, if the comparison of some is deferred.
use Rattle.std.proofs.Common.{◌≡◌, ℕ, zero, suc, ◌≤◌, Some, List, [], ◌∷◌, ap, arith, slice_get, ◌<◌, ◌+◌, Bool, true, false, ◌&&◌, Option, None, ◌++◌, length, drop, get_or, IsSome, ◌↔◌, MatchOption, true≢false, refl, sym, ◌∙◌, subst, add-one, bytes_eq, option_to_list, drop-cons}
use Rattle.std.specs.Map.{values_of, lookup, keys_of}
use Rattle.std.proofs.lemmas.Option.{none-some, same_Some, get_or_from_slice_get, slice_get-get_or, slice_get_read, slice_get_within}
use denote.Param.Weighed.{most}
use Rattle.std.specs.List.{IsDistinct}
use Rattle.std.specs.Option.{option_eq}
use Rattle.std.specs.Cmp.{both_ways}
use Rattle.std.specs.Cmp.Lexicographic.{nat_list_eq_equiv}
use Rattle.std.proofs.lemmas.Bool.{and_parts}
use Rattle.std.proofs.Math.Bool.{and-false}
use Rattle.std.specs.Cmp.Derive.{both_true}
use Rattle.std_collections.specs.HashMap.Eq.{get_from_hash_map_eq}
use Rattle.std_collections.proofs.HashMapEq.{key_at, own_value, equal_by_keys}
use Rattle.plist_base.specs.Trees.{Dictionary}
use Rattle.plist.specs.declared.equal.DeferredPairs.{DeferredPairs}
use Rattle.plist.specs.declared.equal.Pair.{Pair}
use Rattle.plist.specs.declared.value.Value.{Value, Value-F, fold_out-Value}
use Rattle.plist_pairs.proofs.PairsSame.{as_map}
use Rattle.plist.specs.inner.DeferredPairs.{Compares, ComparesItems, ComparesPairs, are_same, same_values, to_compare, waiting}
use Rattle.plist_pairs.specs.TreeEquality.{same, same_items, same_pairs}
use Rattle.plist.specs.ValueTrees.{item_trees, pair_trees}
use Rattle.plist.specs.inner.Weights.{pairs_step, weight, weight_step, weights}
use Rattle.plist.proofs.DropWeights.{weights-more}
use Rattle.plist.proofs.SameTrees.{same_dictionaries}

-- each key of these pairs has an equal value in the others
abbrev pub are_covered : (pairs others : List (List ℕ × Value)) → Bool
are_covered [] others = true
are_covered (pair ∷ pairs) others =
    option_eq same_values (Some pair.1) (lookup (bytes_eq pair.0) others)
    && are_covered pairs others

-- the items from an index on, and the deferred pairs, decide whether the arrays are equal
abbrev pub ItemsLeft : (items others : List Value) → (start : DeferredPairs) → (place : ℕ) → (now : DeferredPairs)
    → Type 0
ItemsLeft items others start place now =
    (same_items (item_trees (drop place items)) (item_trees (drop place others))
    && are_same (waiting now)
    ≡ same_items (item_trees items) (item_trees others) && are_same (waiting start))
    × (to_compare (waiting now) + weights (drop place items)
    ≤ to_compare (waiting start) + weights items)

-- the pairs from an index on, and the deferred pairs, decide whether the dictionaries are equal
abbrev pub PairsLeft : (pairs others : List (List ℕ × Value)) → (start : DeferredPairs) → (place : ℕ)
    → (now : DeferredPairs) → Type 0
PairsLeft pairs others start place now =
    (are_covered (drop place pairs) others && are_same (waiting now)
    ≡ are_covered pairs others && are_same (waiting start))
    × (to_compare (waiting now) + weights (values_of (drop place pairs))
    ≤ to_compare (waiting start) + weights (values_of pairs))

pub no-deeper : {X : Type 0} (f : X → ℕ) (ps : List (List ℕ × X)) (i : ℕ) (k : List ℕ) (v : X)
    → slice_get ps i ≡ Some (k, v) → f v ≤ most f (values_of ps)
no-deeper f [] i k v e = absurd (none-some (k, v) e)
no-deeper f (p ∷ ps) zero k v e =
    let same = ap (λ q. f q.1) (same_Some p (k, v) e) in omega arith
no-deeper f (p ∷ ps) (suc i) k v e = let rest = no-deeper f ps i k v e in omega arith

-- ---- Booleans

pub and-moved : (a b c : Bool) → (a && b) && c ≡ b && (a && c)
and-moved true b c = refl
and-moved false true c = refl
and-moved false false c = refl

-- the first of the items or pairs that are left is compared
module _ (all here left was : Bool) (bound one rest : ℕ) (before : DeferredPairs) (answer : Bool)
    (after : DeferredPairs) (first : was ≡ here && left) (heavy : ℕ) (parts : heavy ≡ one + rest)
    (so : (was && are_same (waiting before) ≡ all) × (to_compare (waiting before) + heavy ≤ bound))
    (compared : Compares here one before answer after) where
  decides : left && (answer && are_same (waiting after)) ≡ all
  decides =
      cc (and-moved here left (are_same (waiting before)))

  -- if the first ones aren't equal, the result is `false`; otherwise those that are left and the
  -- deferred pairs decide
  pub next : (answer ≡ false → (false ≡ all) × (to_compare (waiting after) ≤ bound))
      × (answer ≡ true → (left && are_same (waiting after) ≡ all)
      × (to_compare (waiting after) + rest ≤ bound))
  next = (
    λ unequal. (
      sym (and-false left) ∙ ap (λ b. left && (b && are_same (waiting after))) (sym unequal)
          ∙ decides,
      omega arith,
    ),
    λ equal. (
      ap (λ b. left && (b && are_same (waiting after))) (sym equal) ∙ decides,
      omega arith,
    ),
  )

-- ---- deferred pairs

pub same-after : (ps : List Pair) (p : Pair)
    → are_same (ps ++ p ∷ []) ≡ same_values p.value.now p.other.now && are_same ps
same-after [] p = refl
same-after (q ∷ ps) p =
    cc (
      same-after ps p,
      swapped (same_values q.value.now q.other.now)
          (same_values p.value.now p.other.now) (are_same ps),
    )
  where
    swapped : (a b c : Bool) → a && (b && c) ≡ b && (a && c)
    swapped true b c = refl
    swapped false true c = refl
    swapped false false c = refl

pub left-after : (ps : List Pair) (p : Pair)
    → to_compare (ps ++ p ∷ []) ≡ weight p.value.now + to_compare ps
left-after [] p = refl
left-after (q ∷ ps) p = let e = left-after ps p in omega arith

-- the pair that was deferred last is taken, or no pair is deferred
pub taken : (was l m : List Pair) (o : Option Pair) (n : ℕ) → was ≡ l → n ≡ length l
    → (IsSome o ↔ (0 < n)) → l ≡ m ++ option_to_list o
    → MatchOption o (was ≡ []) (λ p. was ≡ m ++ p ∷ [])
taken was [] m None n is e h left = is
taken was (p ∷ l) m None n is e h left = absurd (true≢false (sym (h.1 (omega arith))))
taken was l m (Some p) n is e h left = is ∙ left

-- nothing is deferred
pub at-once : (later : DeferredPairs) (equal answer : Bool) (most : ℕ) → answer ≡ equal
    → Compares equal most later answer later
at-once later equal answer most e = (
  ap (λ b. b && are_same (waiting later)) e,
  omega arith,
)

step-some : (layer : Value-F ℕ ℕ) → 1 ≤ weight_step layer
step-some (Value-F.Array items) = omega arith
step-some scalar = omega arith

pub weight-some : (value : Value) → 1 ≤ weight value
weight-some value =
    rw (fold_out-Value ℕ ℕ weight_step pairs_step value) (step-some _)

-- ---- arrays

-- the items that are left begin with the one at the index
left-from : {X : Type 0} (xs : List X) (i : ℕ) (x : X) → slice_get xs i ≡ Some x
    → drop i xs ≡ x ∷ drop (i + 1) xs
left-from xs i x e =
    rw add-one (cc (drop-cons xs i x (slice_get_within xs i x e), get_or_from_slice_get xs i x x e))

-- an item of each array is compared
module _ (vs ws : List Value) (i : ℕ) (v w : Value) (start before : DeferredPairs) (answer : Bool)
    (after : DeferredPairs) (p : i < length vs) (q : i < length ws) (a : v ≡ get_or vs i v)
    (b : w ≡ get_or ws i w) (so : ItemsLeft vs ws start i before)
    (compared : Compares (same_values v w) (weight v) before answer after) where
  first : slice_get vs i ≡ Some v
  first = slice_get_read vs _ i v refl p a

  items-from : same_items (item_trees (drop i vs)) (item_trees (drop i ws))
      ≡ same_values v w && same_items (item_trees (drop (i + 1) vs)) (item_trees (drop (i + 1) ws))
  items-from = λ j. same_items (item_trees (left-from vs i v first j))
      (item_trees (left-from ws i w (slice_get_read ws (length ws) i w refl q b) j))

  pub items-next : (answer ≡ false → ComparesItems vs ws start false after)
      × (answer ≡ true → ItemsLeft vs ws start (i + 1) after)
  items-next =
      next _ (same_values v w) (same_items (item_trees (drop (i + 1) vs))
      (item_trees (drop (i + 1) ws))) _ _ (weight v) (weights (drop (i + 1) vs)) before answer after
      items-from _ (ap weights (left-from vs i v first) ∙ weights-more v (drop (i + 1) vs)) so
      compared

-- ---- dictionaries

abbrev pub Rows : Type 0
Rows = List (List ℕ × Value)

pair-there : (ps : Rows) (i : ℕ) → i < length ps
    → (k : List ℕ) × (v : Value) × (slice_get ps i ≡ Some (k, v))
pair-there [] i p = absurd (omega (arith, p))
pair-there (q ∷ ps) i p =
    let r = get_or (q ∷ ps) i q in (r.0, r.1, slice_get-get_or (q ∷ ps) i q p)

covered-at : (rs qs : Rows) (i : ℕ) (k : List ℕ) (v : Value) → are_covered rs qs ≡ true
    → slice_get rs i ≡ Some (k, v) → option_eq same_values (Some v) (lookup (bytes_eq k) qs) ≡ true
covered-at [] qs i k v h e = absurd (none-some (k, v) e)
covered-at (r ∷ rs) qs zero k v h e =
    subst (λ p. option_eq same_values (Some p.1) (lookup (bytes_eq p.0) qs) ≡ true)
    (same_Some r (k, v) e) (and_parts _ (are_covered rs qs) h).0
covered-at (r ∷ rs) qs (suc i) k v h e =
    covered-at rs qs i k v
    (and_parts (option_eq same_values (Some r.1) (lookup (bytes_eq r.0) qs)) _ h).1 e

covered-by : (rs qs : Rows) → ((i : ℕ) (k : List ℕ) (v : Value) → slice_get rs i ≡ Some (k, v)
    → option_eq same_values (Some v) (lookup (bytes_eq k) qs) ≡ true) → are_covered rs qs ≡ true
covered-by [] qs f = refl
covered-by (r ∷ rs) qs f =
    both_true (f 0 r.0 r.1 refl) (covered-by rs qs (λ i k v e. f (suc i) k v e))

module _ (ps qs : Rows) (d : IsDistinct bytes_eq (keys_of ps))
    (e : IsDistinct bytes_eq (keys_of qs)) (same-count : length ps ≡ length qs) where
  agrees : are_covered ps qs ≡ true → (i : ℕ) → i < length ps → (x : List ℕ)
      → option_eq same_values (lookup (bytes_eq (get_or (keys_of ps) i x)) ps)
      (lookup (bytes_eq (get_or (keys_of ps) i x)) qs) ≡ true
  agrees h i p x =
      let (k, v, at) = pair-there ps i p in
      subst (λ y. option_eq same_values (lookup (bytes_eq y) ps) (lookup (bytes_eq y) qs) ≡ true)
      (sym (key_at bytes_eq nat_list_eq_equiv ps i k v at x))
      (ap (λ o. option_eq same_values o (lookup (bytes_eq k) qs))
      (own_value bytes_eq nat_list_eq_equiv ps i k v at d p)
      ∙ covered-at ps qs i k v h at)

  -- dictionaries of equal length are the same if the second has the same values at the keys of the
  -- first
  pub covered-is-same : are_covered ps qs
      ≡ same (Dictionary (pair_trees ps)) (Dictionary (pair_trees qs))
  covered-is-same =
      both_ways (are_covered ps qs) (same_pairs same_values ps qs)
      (λ h. sym (equal_by_keys bytes_eq nat_list_eq_equiv same_values (as_map ps) (as_map qs) d e
      same-count (agrees h)))
      (λ h. covered-by ps qs (λ i k v at.
      ap (λ o. option_eq same_values o (lookup (bytes_eq k) qs))
      (sym (own_value bytes_eq nat_list_eq_equiv ps i k v at d (slice_get_within ps i (k, v) at)))
      ∙ get_from_hash_map_eq bytes_eq same_values nat_list_eq_equiv (as_map ps) (as_map qs) h k))
      ∙ same_dictionaries ps qs d e

  module _ (i : ℕ) (k : List ℕ) (v : Value) (start before : DeferredPairs)
      (at : slice_get ps i ≡ Some (k, v)) (so : PairsLeft ps qs start i before) where
    pairs-from : (o : Option Value) → o ≡ lookup (bytes_eq k) qs → are_covered (drop i ps) qs
        ≡ option_eq same_values (Some v) o && are_covered (drop (i + 1) ps) qs
    pairs-from o is =
        ap (λ l. are_covered l qs) (left-from ps i (k, v) at)
        ∙ λ j. option_eq same_values (Some v) (sym is j) && are_covered (drop (i + 1) ps) qs

    answers : (answer : Bool) (after : DeferredPairs)
        → Compares (are_covered ps qs) (weights (values_of ps)) start answer after
        → ComparesPairs ps qs start answer after
    answers answer after h = (h.0 ∙ ap (λ s. s && are_same (waiting start)) covered-is-same, h.1)

    -- the second dictionary lacks a key of the first
    pub pairs-lack : None ≡ lookup (bytes_eq k) qs → ComparesPairs ps qs start false before
    pairs-lack none =
        answers false before (
          ap (λ s. s && are_same (waiting before)) (sym (pairs-from None none)) ∙ so.0,
          omega (arith, so.1),
        )

    -- both dictionaries have the key, and its values are compared
    pub pairs-next : (w : Value) (answer : Bool) (after : DeferredPairs) → Some w ≡ lookup (bytes_eq k) qs
        → Compares (same_values v w) (weight v) before answer after
        → (answer ≡ false → ComparesPairs ps qs start false after)
        × (answer ≡ true → PairsLeft ps qs start (i + 1) after)
    pairs-next w answer after found compared =
        let n = next _ (same_values v w) (are_covered (drop (i + 1) ps) qs) _ _ (weight v)
        (weights (values_of (drop (i + 1) ps))) before answer after (pairs-from (Some w) found) _
        (ap (λ l. weights (values_of l)) (left-from ps i (k, v) at)
        ∙ weights-more v (values_of (drop (i + 1) ps))) so compared in
        (λ e. answers false after (n.0 e), n.1)

pub ruleset defer = (same-after, left-after, weight-some)
