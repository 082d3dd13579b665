-- Pairs of values whose comparison is deferred.
use Rattle.std.specs.Prelude.{◌≡◌, ◌≤◌, ℕ, ◌+◌, Bool, true, false, ◌&&◌, Option, None, Some, List, [], ◌∷◌, ◌++◌, MatchOption, Vec}
use Rattle.std.specs.Map.{values_of}
use Rattle.std.specs.declared.alloc.Global.{Global}
use Rattle.plist.specs.declared.equal.DeferredPairs.{DeferredPairs}
use Rattle.plist.specs.declared.equal.Pair.{Pair}
use Rattle.plist.specs.declared.value.Value.{Value}
use Rattle.plist_pairs.specs.TreeEquality.{same, same_items, same_members, same_pairs}
use Rattle.plist.specs.ValueTrees.{item_trees, pair_trees, tree_of}
use Rattle.plist.specs.inner.Weights.{weight, weights}

-- equality of values
abbrev pub same_values : Value → Value → Bool
same_values value other = same (tree_of value) (tree_of other)

-- equality of pairs, whatever their order
abbrev pub same_values_at : (pairs others : List (List ℕ × Value)) → Bool
same_values_at pairs others = same_pairs same_values pairs others

-- the two values of each of these pairs are equal
abbrev pub are_same : List Pair → Bool
are_same [] = true
are_same (pair ∷ pairs) = same_values pair.value.now pair.other.now && are_same pairs

-- the number of values that are still to be compared
abbrev pub to_compare : List Pair → ℕ
to_compare [] = 0
to_compare (pair ∷ pairs) = weight pair.value.now + to_compare pairs

-- the pairs of a list, which may be missing
abbrev pub listed : Option (Vec Pair Global) → List Pair
listed None = []
listed (Some pairs) = pairs.items

-- the deferred pairs
abbrev pub waiting : DeferredPairs → List Pair
waiting later = listed later.pairs

-- `answer` is true and all pairs deferred afterwards are equal, if and only if `equal` is true and
-- all pairs deferred before are. At most `most` values were deferred.
abbrev pub Compares : (equal : Bool) → (most : ℕ) → (before : DeferredPairs) → (answer : Bool)
    → (after : DeferredPairs) → Type 0
Compares equal most before answer after =
    (answer && are_same (waiting after) ≡ equal && are_same (waiting before))
    × (to_compare (waiting after) ≤ to_compare (waiting before) + most)

-- the pair is deferred, or nothing changed
abbrev pub PutsOff : (value other : Value) → (before : DeferredPairs) → (done : Bool) → (after : DeferredPairs)
    → Type 0
PutsOff value other before true after =
    (are_same (waiting after) ≡ same_values value other && are_same (waiting before))
    × (to_compare (waiting after) ≡ weight value + to_compare (waiting before))
PutsOff value other before false after = waiting after ≡ waiting before

-- the items of two arrays are compared
abbrev pub ComparesItems : (items others : List Value) → (before : DeferredPairs) → (answer : Bool)
    → (after : DeferredPairs) → Type 0
ComparesItems items others before answer after =
    Compares (same_items (item_trees items) (item_trees others)) (weights items) before answer after

-- the pairs of two dictionaries are compared
abbrev pub ComparesPairs : (pairs others : List (List ℕ × Value)) → (before : DeferredPairs)
    → (answer : Bool) → (after : DeferredPairs) → Type 0
ComparesPairs pairs others before answer after =
    Compares (same_members (pair_trees pairs) (pair_trees others)) (weights (values_of pairs))
    before answer after

-- the pair that was deferred last is taken, or no pair is deferred
abbrev pub TakesLast : (before : DeferredPairs) → Option Pair → (after : DeferredPairs) → Type 0
TakesLast before found after = MatchOption found (waiting before ≡ [])
    (λ pair. waiting before ≡ waiting after ++ pair ∷ [])
