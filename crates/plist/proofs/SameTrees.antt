-- Sameness of values, list by list.
use Rattle.std.proofs.Common.{◌≡◌, ℕ, suc, true, false, cond, Option, Some, None, option_map, List, [], ◌∷◌, length, ◌↔◌, refl, sym, ap, bytes_eq}
use Rattle.std.specs.List.{IsDistinct}
use Rattle.std.specs.Map.{lookup, keys_of}
use Rattle.std.specs.Option.{option_eq}
use Rattle.std.specs.Cmp.{both_ways}
use Rattle.std.proofs.lemmas.Bool.{and_parts, false_from_ne_true}
use Rattle.std.proofs.lemmas.Map.Made.{lookup-map_values}
use Rattle.std.specs.Cmp.Lexicographic.{nat_list_eq_equiv}
use Rattle.std_collections.specs.HashMap.Eq.{get_from_hash_map_eq, hash_map_eq_from_get}
use Rattle.plist_base.specs.Trees.{Tree, Dictionary, members_of}
use Rattle.plist.specs.declared.value.Value.{Value}
use Rattle.plist_pairs.specs.TreeEquality.{AreSameAt, same, same_items, first_value, same_pairs}
use Rattle.plist_pairs.proofs.TreeEquality.{dictionaries_alike, refl_tree, same_by, scalars_alike, symmetric, trans_tree}
use Rattle.plist_pairs.proofs.PairsSame.{as_map}
use Rattle.plist.specs.ValueTrees.{tree_of, tree_pairs, item_trees, pair_trees}
use Rattle.plist.proofs.Tops.{trees-once}

first-lookup : (k : List ℕ) (ps : List (List ℕ × Tree))
    → first_value k (members_of ps) ≡ lookup (bytes_eq k) ps
first-lookup k [] = refl
first-lookup k (p ∷ ps) = ap (cond (bytes_eq k p.0) (Some p.1)) (first-lookup k ps)

-- the tree at a key is that of the key's value
pub first-at : (k : List ℕ) (ps : List (List ℕ × Value)) → IsDistinct bytes_eq (keys_of ps)
    → first_value k (pair_trees ps) ≡ option_map tree_of (lookup (bytes_eq k) ps)
first-at k ps d =
    cc (trees-once ps d, first-lookup k (tree_pairs ps), lookup-map_values tree_of (bytes_eq k) ps)

at-values : (p q : Option Value) → (option_eq (same_by tree_of) p q ≡ true)
    ↔ AreSameAt (option_map tree_of p) (option_map tree_of q)
at-values None None = (λ h. tt, λ h. refl)
at-values None (Some w) = (λ h. absurd (cc), λ h. absurd h)
at-values (Some v) None = (λ h. absurd (cc), λ h. absurd h)
at-values (Some v) (Some w) = (λ h. h, λ h. h)

-- dictionaries are the same if their values are, key by key
pub same_dictionaries : (ps qs : List (List ℕ × Value)) → IsDistinct bytes_eq (keys_of ps)
    → IsDistinct bytes_eq (keys_of qs)
    → same_pairs (same_by tree_of) ps qs
    ≡ same (Dictionary (pair_trees ps)) (Dictionary (pair_trees qs))
same_dictionaries ps qs d e =
    both_ways (same_pairs (same_by tree_of) ps qs)
    (same (Dictionary (pair_trees ps)) (Dictionary (pair_trees qs)))
    (λ h. (dictionaries_alike (pair_trees ps) (pair_trees qs)).1 (λ k.
    rw (first-at k ps d, first-at k qs e)
    ((at-values (lookup (bytes_eq k) ps) (lookup (bytes_eq k) qs)).0
    (get_from_hash_map_eq bytes_eq (same_by tree_of) nat_list_eq_equiv (as_map ps) (as_map qs) h
    k))))
    (λ h. hash_map_eq_from_get bytes_eq (same_by tree_of) (as_map ps) (as_map qs) (λ k.
    (at-values (lookup (bytes_eq k) ps) (lookup (bytes_eq k) qs)).1
    (rw (← first-at k ps d, ← first-at k qs e)
    ((dictionaries_alike (pair_trees ps) (pair_trees qs)).0 h k))))

-- equal arrays have the same length
pub same-lengths : (vs ws : List Value) → same_items (item_trees vs) (item_trees ws) ≡ true
    → length vs ≡ length ws
same-lengths [] [] h = refl
same-lengths (v ∷ vs) (w ∷ ws) h =
    ap suc (same-lengths vs ws (and_parts _ _ h).1)
same-lengths vs ws h = absurd (cc)

pub unequal-lengths : (vs ws : List Value) → (length vs ≡ length ws → ⊥)
    → false ≡ same_items (item_trees vs) (item_trees ws)
unequal-lengths vs ws n = sym (false_from_ne_true _ (λ h. n (same-lengths vs ws h)))

-- sameness is an equivalence, and decides scalars and dictionaries
pub ruleset sameness = (refl_tree, symmetric, trans_tree, scalars_alike, dictionaries_alike)
