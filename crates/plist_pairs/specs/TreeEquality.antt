-- Property lists that are the same up to the order of a dictionary's pairs. If a key occurs more
-- than once, its first value counts.
use Rattle.std.specs.Prelude.{◌≡◌, ℕ, Bool, true, false, ◌&&◌, ◌||◌, if◌then◌else◌, Option, Some, None, is_some, List, [], ◌∷◌, ◌↔◌, bytes_eq}
use Rattle.std.specs.List.{list_any}
use Rattle.std.specs.HashMap.{entries_eq}
use Rattle.plist_base.specs.Scalars.{scalar_eq}
use Rattle.plist_base.specs.Trees.{Scalar, Tree, Leaf, Array, Dictionary, Trees, NoTrees, TreeAnd, Members, NoMembers, MemberAnd}

-- the first value of a key
abbrev pub first_value : List ℕ → Members → Option Tree
first_value key NoMembers = None
first_value key (MemberAnd other tree members) =
    if bytes_eq key other then Some tree else first_value key members

-- the key is one of these
abbrev pub is_among : List ℕ → List (List ℕ) → Bool
is_among key seen = list_any (bytes_eq key) seen

-- a tree was found, and it passes the test
abbrev pub if_found : Option Tree → (Tree → Bool) → Bool
if_found None test = false
if_found (Some tree) test = test tree

-- each key of the first occurs in the second
abbrev pub has_keys : Members → Members → Bool
has_keys NoMembers others = true
has_keys (MemberAnd key tree members) others =
    is_some (first_value key others) && has_keys members others

abbrev mutual
  -- whether two trees are the same: equal scalars, arrays whose items are the same index by index,
  -- or dictionaries that have the same keys with the same values
  pub same : Tree → Tree → Bool
  same (Leaf a) (Leaf b) = scalar_eq a b
  same (Array items) (Array others) = same_items items others
  same (Dictionary members) (Dictionary others) =
      is_covered [] members others && has_keys others members
  same _ _ = false

  -- both have the same number of items, which are the same index by index
  pub same_items : Trees → Trees → Bool
  same_items NoTrees NoTrees = true
  same_items (TreeAnd tree trees) (TreeAnd other others) =
      same tree other && same_items trees others
  same_items _ _ = false

  -- each key of the first that hasn't been seen has the same value in the second
  pub is_covered : (seen : List (List ℕ)) → Members → Members → Bool
  is_covered seen NoMembers others = true
  is_covered seen (MemberAnd key tree members) others =
      (is_among key seen || if_found (first_value key others) (λ other. same tree other))
      && is_covered (key ∷ seen) members others

-- the values of a key in two dictionaries are the same, or both are missing
abbrev pub AreSameAt : Option Tree → Option Tree → Type 0
AreSameAt None None = Unit {0}
AreSameAt None (Some u) = ⊥
AreSameAt (Some t) None = ⊥
AreSameAt (Some t) (Some u) = same t u ≡ true

-- ---- properties of `same`

-- `same` is transitive
abbrev pub IsTransitive : Type 0
IsTransitive =
    (first second third : Tree) → same first second ≡ true → same second third ≡ true
    → same first third ≡ true

-- scalars are the same if and only if they are equal
abbrev pub DecidesScalars : Type 0
DecidesScalars = (left right : Scalar) → (same (Leaf left) (Leaf right) ≡ true) ↔ (left ≡ right)

-- dictionaries are the same if and only if they have the same values at all keys
abbrev pub DecidesDictionaries : Type 0
DecidesDictionaries = (left right : Members) → (same (Dictionary left) (Dictionary right) ≡ true)
    ↔ ((key : List ℕ) → AreSameAt (first_value key left) (first_value key right))

-- dictionaries with these members are the same
abbrev pub same_members : Members → Members → Bool
same_members members others = same (Dictionary members) (Dictionary others)

-- does each key of either list have a value in both lists, and does `E` find the two values equal?
abbrev pub same_pairs : {V : Type 0} → (V → V → Bool) → List (List ℕ × V) → List (List ℕ × V) → Bool
same_pairs E pairs others = entries_eq bytes_eq (λ p q. E p.1 q.1) pairs others
