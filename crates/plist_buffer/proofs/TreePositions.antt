-- The positions of a tree are those of its events, and each event that isn't an end has one.
use Rattle.std.proofs.Common.{◌≡◌, ℕ, zero, suc, ◌+◌, ◌<◌, false, List, [], ◌∷◌, ◌++◌, length, map, Some, refl, ap, sym, ◌∙◌, subst, arith, add-zero, append_assoc, append-nil, rules}
use Rattle.std.specs.List.{AllByRecursion, flat_map}
use Rattle.std.proofs.lemmas.Grind.{flat_map-append}
use Rattle.std.proofs.lemmas.List.{map-append}
use Rattle.plist_base.specs.Events.{PlainEvent, StartArray, StartDictionary, EndCollection, ScalarEvent}
use Rattle.plist_base.specs.Trees.{number_of_trees, number_of_members, Scalar, String, Tree, Leaf, Array, Dictionary, Trees, NoTrees, TreeAnd, Members, NoMembers, MemberAnd}
use Rattle.plist_base.specs.Bracketing.{bracketing, bracketing_of_items, bracketing_of_pairs, lengthless, lengthless_items, lengthless_pairs}
use Rattle.plist_base.proofs.OneTree.{split}
use Rattle.plist_buffer.specs.Occurrences.{event_count, OccursAt, positions, positions_in_items, positions_in_pairs}
use Rattle.plist_buffer.proofs.TreeOccurrences.{ItemsOccurAt, PairsOccurAt, keys_in, values_in, occurs_items, occurs_pairs, occurs_item, occurs_next, occurs_key, occurs_value, occurs_next_pair}
use Rattle.plist_buffer.specs.EventTable.{is_end, event_at, item_indices, key_indices, value_indices}
use Rattle.plist_buffer.proofs.Uniques.{all_both, all_left, all_right, all_map}

-- at most one tree begins at an index
pub one_tree : {es : List PlainEvent} (t u : Tree) (p : ℕ) → OccursAt es t p → OccursAt es u p
    → t ≡ u
one_tree t u p a b = (split t u _ _ (sym a.is ∙ b.is)).0

-- ---- the indices of the events that aren't ends

abbrev index_of : PlainEvent → ℕ → List ℕ
index_of EndCollection p = []
index_of e p = p ∷ []

abbrev indices_from : List PlainEvent → ℕ → List ℕ
indices_from [] p = []
indices_from (e ∷ es) p = index_of e p ++ indices_from es (p + 1)

indices_append : (a b : List PlainEvent) (p : ℕ)
    → indices_from (a ++ b) p ≡ indices_from a p ++ indices_from b (p + length a)
indices_append [] b p = ap (indices_from b) (sym (add-zero p))
indices_append (e ∷ a) b p =
    grind (arith, indices_append a b (p + 1), append_assoc {A = ℕ})

abbrev index : ℕ × Tree → ℕ
index one = one.0

mutual
  -- these are the indices of the positions
  positions_indices : (t : Tree) (p : ℕ) → indices_from (lengthless t) p ≡ map index (positions t p)
  positions_indices (Leaf x) p = refl
  positions_indices (Array ts) p = ap (λ l. p ∷ l)
      (indices_append (lengthless_items ts) (EndCollection ∷ []) (p + 1) ∙ append-nil _
      ∙ items_indices ts (p + 1))
  positions_indices (Dictionary ms) p = ap (λ l. p ∷ l)
      (indices_append (lengthless_pairs ms) (EndCollection ∷ []) (p + 1) ∙ append-nil _
      ∙ pairs_indices ms (p + 1))

  items_indices : (ts : Trees) (p : ℕ)
      → indices_from (lengthless_items ts) p ≡ map index (positions_in_items ts p)
  items_indices NoTrees p = refl
  items_indices (TreeAnd t ts) p =
      indices_append (lengthless t) (lengthless_items ts) p
      ∙ (λ i. positions_indices t p i ++ items_indices ts (p + event_count t) i)
      ∙ sym (map-append index (positions t p) (positions_in_items ts (p + event_count t)))

  pairs_indices : (ms : Members) (p : ℕ)
      → indices_from (lengthless_pairs ms) p ≡ map index (positions_in_pairs ms p)
  pairs_indices NoMembers p = refl
  pairs_indices (MemberAnd k t ms) p = ap (λ l. p ∷ l)
      (indices_append (lengthless t) (lengthless_pairs ms) (p + 1)
      ∙ (λ i. positions_indices t (p + 1) i ++ pairs_indices ms (p + 1 + event_count t) i)
      ∙ sym (map-append index (positions t (p + 1)) (positions_in_pairs ms (p + 1 + event_count t))))

module _ (R : ℕ → Type 0) where
  first_start : (e : PlainEvent) (p : ℕ) → AllByRecursion R (index_of e p) → is_end e ≡ false
      → R (p + 0)
  first_start e p a n = search rules

  at_start : (es : List PlainEvent) (p q : ℕ) → AllByRecursion R (indices_from es p)
      → q < length es → is_end (event_at es q) ≡ false → R (p + q)
  at_start [] p q a lt n = absurd (omega arith)
  at_start (e ∷ es) p zero a lt n = first_start e p (all_left R _ _ a) n
  at_start (e ∷ es) p (suc q) a lt n =
      grind (arith, at_start es (p + 1) q (all_right R (index_of e p) _ a))

-- ---- positions

module _ (es : List PlainEvent) where
  abbrev pub Stands : ℕ × Tree → Type 0
  Stands one = OccursAt es one.1 one.0

  mutual
    pub positions_stand : (t : Tree) (p : ℕ) → OccursAt es t p
        → AllByRecursion Stands (positions t p)
    positions_stand (Leaf x) p s = (s, tt)
    positions_stand (Array ts) p s = (s, items_stand ts _ (occurs_items s))
    positions_stand (Dictionary ms) p s = (s, pairs_stand ms _ (occurs_pairs s))

    items_stand : (ts : Trees) (p : ℕ) → ItemsOccurAt es ts p
        → AllByRecursion Stands (positions_in_items ts p)
    items_stand NoTrees p s = tt
    items_stand (TreeAnd t ts) p s =
        all_both _ _ _ (positions_stand t p (occurs_item s))
        (items_stand ts (p + event_count t) (occurs_next s))

    pairs_stand : (ms : Members) (p : ℕ) → PairsOccurAt es ms p
        → AllByRecursion Stands (positions_in_pairs ms p)
    pairs_stand NoMembers p s = tt
    pairs_stand (MemberAnd k t ms) p s = (
      occurs_key s,
      all_both _ _ _
          (positions_stand t (p + 1) (occurs_value s)) (pairs_stand ms (p + 1 + event_count t)
          (occurs_next_pair s)),
    )

  module _ (R : ℕ → Type 0) where
    abbrev pub Along : List (ℕ × Tree) → Type 0
    Along ones = AllByRecursion (λ one. R one.0) ones

    -- what is true of all positions is true of each index at which a tree begins
    pub positions_all : (whole : Tree) → es ≡ lengthless whole → Along (positions whole 0)
        → (p : ℕ) → p < length es
        → is_end (event_at es p) ≡ false → R p
    positions_all whole e a p lt n =
        let z : 0 + p ≡ p = omega arith in
        subst R z (at_start R es 0 p (subst (AllByRecursion R)
        (sym (positions_indices whole 0) ∙ ap (λ l. indices_from l 0) (sym e))
        (all_map R index (positions whole 0) a)) lt n)

    -- if a fact passes from each tree to its children, and is true of a tree, it is true of all
    -- positions in that tree
    module _ (down : (u : Tree) (r : ℕ) → OccursAt es u r
        → AllByRecursion R (keys_in u r) × AllByRecursion R (values_in u r)) where
      mutual
        pub positions_have : (t : Tree) (p : ℕ) → OccursAt es t p → R p → Along (positions t p)
        positions_have (Leaf x) p s h = (h, tt)
        positions_have (Array ts) p s h =
            (h, items_have ts _ (occurs_items s) (down (Array ts) p s).1)
        positions_have (Dictionary ms) p s h =
            let d = down _ p s in (h, pairs_have ms _ (occurs_pairs s) d.0 d.1)

        items_have : (ts : Trees) (p : ℕ) → ItemsOccurAt es ts p
            → AllByRecursion R (item_indices ts p)
            → Along (positions_in_items ts p)
        items_have NoTrees p s a = tt
        items_have (TreeAnd t ts) p s a =
            all_both _ _ _ (positions_have t p (occurs_item s) a.0)
            (items_have ts (p + event_count t) (occurs_next s) a.1)

        pairs_have : (ms : Members) (p : ℕ) → PairsOccurAt es ms p
            → AllByRecursion R (key_indices ms p)
            → AllByRecursion R (value_indices ms p) → Along (positions_in_pairs ms p)
        pairs_have NoMembers p s a b = tt
        pairs_have (MemberAnd k t ms) p s a b = (
          a.0,
          all_both _ _ _
              (positions_have t (p + 1) (occurs_value s) b.0)
              (pairs_have ms (p + 1 + event_count t) (occurs_next_pair s) a.1 b.1),
        )

-- ---- the scalars and collections among a tree's events, by its positions

module _ {A : Type 0} (f : PlainEvent → List A) (g : ℕ × Tree → List A)
    (leaf : (x : Scalar) (p : ℕ) → f (ScalarEvent x) ≡ g (p, Leaf x))
    (array : (n : ℕ) (ts : Trees) (p : ℕ) → f (StartArray (Some n)) ≡ g (p, Array ts))
    (dictionary : (n : ℕ) (ms : Members) (p : ℕ)
    → f (StartDictionary (Some n)) ≡ g (p, Dictionary ms)) (close : f EndCollection ≡ []) where
  within : (es : List PlainEvent) (a b c : List A) → a ≡ b → flat_map f es ≡ c
      → a ++ flat_map f (es ++ EndCollection ∷ []) ≡ b ++ c
  within es a b c e h =
      grind (arith, close, flat_map-append f es (EndCollection ∷ []), append-nil {A = A}, e, h)

  mutual
    pub shown : (t : Tree) (p : ℕ) → flat_map f (bracketing t) ≡ flat_map g (positions t p)
    shown (Leaf x) p = ap (λ l. l ++ []) (leaf x p)
    shown (Array ts) p =
        within (bracketing_of_items ts) _ _ _ (array (number_of_trees ts) ts p)
        (shown_items ts (p + 1))
    shown (Dictionary ms) p =
        within (bracketing_of_pairs ms) _ _ _ (dictionary (number_of_members ms) ms p)
        (shown_pairs ms (p + 1))

    shown_items : (ts : Trees) (p : ℕ)
        → flat_map f (bracketing_of_items ts) ≡ flat_map g (positions_in_items ts p)
    shown_items NoTrees p = refl
    shown_items (TreeAnd t ts) p =
        flat_map-append f (bracketing t) (bracketing_of_items ts)
        ∙ (λ i. shown t p i ++ shown_items ts (p + event_count t) i)
        ∙ sym (flat_map-append g (positions t p) (positions_in_items ts (p + event_count t)))

    shown_pairs : (ms : Members) (p : ℕ)
        → flat_map f (bracketing_of_pairs ms) ≡ flat_map g (positions_in_pairs ms p)
    shown_pairs NoMembers p = refl
    shown_pairs (MemberAnd k t ms) p =
        λ i. leaf (String k) p i ++ (flat_map-append f (bracketing t) (bracketing_of_pairs ms)
        ∙ (λ j. shown t (p + 1) j ++ shown_pairs ms (p + 1 + event_count t) j)
        ∙ sym (flat_map-append g (positions t (p + 1)) (positions_in_pairs ms (p + 1 + event_count t)))) i
