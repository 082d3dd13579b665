-- The trees of a dictionary's pairs, and the innermost open dictionary after a change.
use Rattle.std.proofs.Common.{◌≡◌, ℕ, ◌+◌, ◌-◌, ◌<◌, List, [], ◌∷◌, ◌++◌, length, get_or, set, Option, None, Some, MatchOption, reverse, sym, ap, ◌∙◌, subst, string_bytes, String, Global, bytes_eq, arith, length-append}
use Rattle.std.proofs.Math.Seq.{get_or-append_seam, set-append_seam}
use Rattle.std.proofs.lemmas.List.{reverse-append, reverse-reverse}
use Rattle.std.specs.List.{IsDistinct}
use Rattle.std.proofs.lemmas.Map.Made.{keys_of-map_values}
use Rattle.indexmap.specs.IndexMap.{insert_entry}
use Rattle.plist.specs.declared.open_collections.OpenDictionary.{OpenDictionary}
use Rattle.plist.specs.declared.value.Value.{Value}
use Rattle.plist.specs.Building.{InDictionary}
use Rattle.plist.specs.ValueTrees.{pairs_of, tree_of, tree_pairs}
use Rattle.plist.specs.LastWins.{with_pair, last_values}
use Rattle.plist.specs.inner.CollectionSteps.{AddsKey, AddsPair, ChangesInnermost}
use Rattle.plist_pairs.proofs.EntrySteps.{second_at, comes_last, none_of, set_pushed, read_pushed, keeps_index, key-there, value-there, kept-there, taken-there, none-taken}
use Rattle.indexmap.specs.Layout.{length-set_value_at}
use Rattle.plist_pairs.proofs.DistinctKeys.{EachOnce, last-values-once, once-earlier, values-insert}

-- distinct keys stay distinct when values become trees, so the pairs are their own last values
pub once_trees : (ps : List (List ℕ × Value)) → EachOnce ps → EachOnce (tree_pairs ps)
once_trees ps = subst (IsDistinct _) (sym (keys_of-map_values _ ps))

pub trees-once : (ps : List (List ℕ × Value)) → EachOnce ps
    → last_values (tree_pairs ps) ≡ tree_pairs ps
trees-once ps d = last-values-once _ (once_trees ps d)

-- inserting a pair inserts the value's tree
pub last_insert : (k : List ℕ) (v : Value) (ps after : List (List ℕ × Value))
    → after ≡ insert_entry bytes_eq ps k v → EachOnce after
    → last_values (tree_pairs after) ≡ with_pair (last_values (tree_pairs ps)) k (tree_of v)
last_insert k v ps after s once =
    trees-once after once ∙ ap tree_pairs s ∙ values-insert tree_of k v ps
    ∙ sym (ap (λ l. with_pair l k (tree_of v))
    (trees-once ps (once-earlier k v ps (subst EachOnce s once))))

-- the last element of a list, or another one in its place, comes first if the list is reversed
pub last_changed : {A : Type 0} (all : List A) (n : ℕ) (inner changed : A) → n ≡ length all
    → 0 < length all → inner ≡ get_or all (n - 1) inner
    → (outer : List A) × (reverse all ≡ inner ∷ outer)
    × (reverse (set all (n - 1) changed) ≡ changed ∷ outer)
last_changed {A} all n inner changed count some at = by (reverse all) (reverse-reverse all)
  where
    by : (backward : List A) → reverse backward ≡ all
        → (outer : List A) × (backward ≡ inner ∷ outer)
        × (reverse (set all (n - 1) changed) ≡ changed ∷ outer)
    by [] is = let none : length all ≡ 0 = ap length (sym is) in absurd (omega (arith, some, none))
    by (x ∷ outer) is =
        let split : all ≡ reverse outer ++ x ∷ [] = sym is ∙ reverse-append (x ∷ []) outer in
        let counted : length all ≡ length (reverse outer) + 1 =
        ap length split ∙ length-append (reverse outer) (x ∷ []) in
        let place : n - 1 ≡ length (reverse outer) = omega (arith, count, counted) in
        let same : inner ≡ x = at ∙ (λ i. get_or (split i) (place i) inner)
        ∙ get_or-append_seam (reverse outer) x [] inner in (
          outer,
          ap (λ y. y ∷ outer) (sym same),
          ap reverse ((λ i. set (split i) (place i) changed)
              ∙ set-append_seam (reverse outer) x [] changed)
              ∙ reverse-append (reverse outer) (changed ∷ [])
              ∙ ap (λ l. changed ∷ l) (reverse-reverse outer),
        )

matched : {A : Type 0} (found : Option A) (x : A) (none : Type 0) (some : A → Type 0)
    → found ≡ Some x → some x → MatchOption found none some
matched found x none some is p = rw is p

module _ (all : List OpenDictionary) (n : ℕ) (inner changed : OpenDictionary)
    (count : n ≡ length all) (some : 0 < length all) (at : inner ≡ get_or all (n - 1) inner) where
  -- the innermost dictionary is replaced
  pub innermost_changed : ChangesInnermost (reverse all) (reverse (set all (n - 1) changed))
  innermost_changed =
      let (outer, first, last) = last_changed all n inner changed count some at in
      subst (λ l. ChangesInnermost l (reverse (set all (n - 1) changed))) (sym first)
      (changed, last)

  -- a value after a key makes a pair
  pub pair_added : (key : String Global) (value : Value) → inner.key ≡ Some key
      → changed.key ≡ None
      → pairs_of changed.pairs ≡ insert_entry bytes_eq (pairs_of inner.pairs) (string_bytes key) value
      → EachOnce (pairs_of changed.pairs)
      → AddsPair (reverse all) value (reverse (set all (n - 1) changed))
  pair_added key value after none set_at once =
      let (outer, first, last) = last_changed all n inner changed count some at in
      subst (λ l. AddsPair l value (reverse (set all (n - 1) changed))) (sym first)
      (matched inner.key key _ _ after (
        changed,
        last,
        rw none (ap InDictionary
            (last_insert (string_bytes key) value (pairs_of inner.pairs) (pairs_of changed.pairs)
            set_at once)),
      ))

-- a key is added to the innermost dictionary
pub key_set : (all : List OpenDictionary) (n : ℕ) (inner : OpenDictionary) → n ≡ length all
    → 0 < length all → inner ≡ get_or all (n - 1) inner → (key : String Global)
    → AddsKey (reverse all) key (reverse (set all (n - 1) (record inner { key = Some key })))
key_set all n inner count some at key =
    let changed : OpenDictionary = record inner { key = Some key } in
    let (outer, first, last) = last_changed all n inner changed count some at in
    subst (λ l. AddsKey l key (reverse (set all (n - 1) changed))) (sym first) last

pub ruleset innermost = (innermost_changed, key_set, pair_added)

pub ruleset entry_steps = (
  second_at,
  length-set_value_at,
  comes_last,
  none_of,
  set_pushed,
  read_pushed,
  keeps_index,
  key-there,
  value-there,
  kept-there,
  taken-there,
  none-taken,
)
