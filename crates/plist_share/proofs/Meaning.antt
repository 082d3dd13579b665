-- The one tree that an object number represents in a table of objects.
use Rattle.std.proofs.Common.{◌≡◌, ℕ, ◌+◌, ◌<◌, List, [], ◌∷◌, length, Some, refl, ap}
use Rattle.std.specs.Prelude.{slice_get, ⊤}
use Rattle.std.specs.List.{AllByRecursion}
use Rattle.std.proofs.lemmas.Option.{slice_get_within}
use Rattle.plist_base.specs.Trees as trees
use Rattle.plist_base.specs.Trees.{Tree, Leaf, Array, Dictionary, Trees, NoTrees, TreeAnd, Members, NoMembers, MemberAnd}
use Rattle.plist_base.specs.Object as obj
use Rattle.plist_base.specs.Object.{Object}
use Rattle.plist_base.specs.Unfolding.{TableEntry}
use Rattle.plist_buffer.proofs.Uniques.{all_both}
use Rattle.plist_buffer.specs.Occurrences.{positions, positions_in_items, positions_in_pairs}

module _ (table : List TableEntry) where
  -- this is the object of the number
  pub record Stands (number : ℕ) (object : Object) : Type 0 where
    pub entry : TableEntry
    pub found : slice_get table number ≡ Some entry
    pub is : entry.object ≡ object

  -- the object of this number represents the tree
  abbrev mutual
    pub Means : Tree → ℕ → Type 0
    Means (Leaf x) i = Stands i (obj.Scalar x)
    Means (Array ts) i = (references : List ℕ) × Stands i (obj.Array references)
        × MeansItems ts references
    Means (Dictionary ms) i =
        (pairs : List _) × Stands i (obj.Dictionary pairs) × MeansPairs ms pairs

    pub MeansItems : Trees → List ℕ → Type 0
    MeansItems NoTrees [] = ⊤
    MeansItems (TreeAnd t ts) (c ∷ cs) = Means t c × MeansItems ts cs
    MeansItems ts references = ⊥

    pub MeansPairs : Members → List (ℕ × ℕ) → Type 0
    MeansPairs NoMembers [] = ⊤
    MeansPairs (MemberAnd k t ms) (p ∷ ps) =
        Stands p.0 (obj.Scalar (trees.String k)) × Means t p.1 × MeansPairs ms ps
    MeansPairs ms pairs = ⊥

  pub one_object : {i : ℕ} {a b : Object} → Stands i a → Stands i b → a ≡ b
  one_object s t =
      cc

  mutual
    -- no number represents two trees
    pub one_tree : (t u : Tree) (i : ℕ) → Means t i → Means u i → t ≡ u
    one_tree (Leaf x) (Leaf y) i m n = let o = one_object m n in cc
    one_tree (Array ts) (Array us) i m n =
        let o = one_object n.1 m.1 in
        let same : n.0 ≡ m.0 = cc in
        ap Array (one_items m.0 ts us m.2 (rw (← same) n.2))
    one_tree (Dictionary ms) (Dictionary ns) i m n =
        let o = one_object n.1 m.1 in
        let same : n.0 ≡ m.0 = cc in
        ap Dictionary (one_pairs m.0 ms ns m.2 (rw (← same) n.2))
    one_tree t u i m n = cc

    one_items : (references : List ℕ) (ts us : Trees) → MeansItems ts references
        → MeansItems us references → ts ≡ us
    one_items [] NoTrees NoTrees m n = refl
    one_items (c ∷ cs) (TreeAnd t ts) (TreeAnd u us) m n =
        λ i. TreeAnd (one_tree t u c m.0 n.0 i) (one_items cs ts us m.1 n.1 i)
    one_items references ts us m n = absurd (assumption)

    one_pairs : (pairs : List (ℕ × ℕ)) (ms ns : Members) → MeansPairs ms pairs → MeansPairs ns pairs
        → ms ≡ ns
    one_pairs [] NoMembers NoMembers m n = refl
    one_pairs (p ∷ ps) (MemberAnd k t ms) (MemberAnd l u ns) m n =
        let o = one_object m.0 n.0 in
        let key : k ≡ l = cc in
        λ i. MemberAnd (key i) (one_tree t u p.1 m.1 n.1 i) (one_pairs ps ms ns m.2 n.2 i)
    one_pairs pairs ms ns m n = absurd (assumption)

  -- the tree has a number, which is below the number of objects
  abbrev pub Numbered : Tree → Type 0
  Numbered tree = (number : ℕ) × (number < length table) × Means tree number

  means_below : (t : Tree) (i : ℕ) → Means t i → i < length table
  means_below (Leaf x) i m = slice_get_within _ i _ m.found
  means_below (Array ts) i m = slice_get_within _ i _ m.1.found
  means_below (Dictionary ms) i m = slice_get_within _ i _ m.1.found

  numbered : (t : Tree) (i : ℕ) → Means t i → Numbered t
  numbered t i m = (i, means_below t i m, m)

  -- the trees at these positions have numbers
  abbrev AreNumbered : List (ℕ × Tree) → Type 0
  AreNumbered ones = AllByRecursion (λ one. Numbered one.1) ones

  mutual
    -- each tree in a tree has a number
    pub all_numbered : (t : Tree) (p i : ℕ) → Means t i → AreNumbered (positions t p)
    all_numbered (Leaf x) p i m = (numbered (Leaf x) i m, tt)
    all_numbered (Array ts) p i m = (numbered (Array ts) i m, items_numbered ts (p + 1) m.0 m.2)
    all_numbered (Dictionary ms) p i m =
        (numbered (Dictionary ms) i m, pairs_numbered ms (p + 1) m.0 m.2)

    items_numbered : (ts : Trees) (p : ℕ) (references : List ℕ) → MeansItems ts references
        → AreNumbered (positions_in_items ts p)
    items_numbered NoTrees p references m = tt
    items_numbered (TreeAnd t ts) p [] m = absurd m
    items_numbered (TreeAnd t ts) p (c ∷ cs) m =
        all_both _ _ _ (all_numbered t p c m.0) (items_numbered ts _ cs m.1)

    pairs_numbered : (ms : Members) (p : ℕ) (pairs : List (ℕ × ℕ)) → MeansPairs ms pairs
        → AreNumbered (positions_in_pairs ms p)
    pairs_numbered NoMembers p pairs m = tt
    pairs_numbered (MemberAnd k t ms) p [] m = absurd m
    pairs_numbered (MemberAnd k t ms) p (n ∷ ns) m = (
      numbered (Leaf (trees.String k)) n.0 m.0,
      all_both _ _ _ (all_numbered t (p + 1) n.1 m.1)
          (pairs_numbered ms _ ns m.2),
    )
