-- An object whose items are a tree's events represents the tree.
use Rattle.std.proofs.Common.{◌≡◌, ℕ, zero, suc, ◌+◌, Bool, true, false, nat_eq, List, [], ◌∷◌, ◌++◌, drop, length, map, Option, Some, None, Ok, refl, ap, append_assoc, arith, slice_get}
use Rattle.std.specs.List.{list_any, flat_map}
use Rattle.std.proofs.lemmas.Option.{slice_get_within}
use Rattle.plist_base.proofs.Paths.{IsPath, path_push, path_rises}
use Rattle.plist_base.specs.Events.{PlainEvent, EndCollection, Item}
use Rattle.plist_base.specs.Trees as trees
use Rattle.plist_base.specs.Trees.{Tree, Leaf, Array, Dictionary, Trees, NoTrees, TreeAnd, Members, NoMembers, MemberAnd}
use Rattle.plist_base.specs.Bracketing.{bracketing, bracketing_of_items, bracketing_of_pairs}
use Rattle.plist_base.specs.Object as obj
use Rattle.plist_base.specs.Object.{Object, children_of}
use Rattle.plist_base.specs.Unfolding.{TableEntry, items_of, items_found, unfolding_of}
use Rattle.plist_binwrite.proofs.Least.{no_fault}
use Rattle.plist_share.proofs.Meaning.{Stands, Means, MeansItems, MeansPairs}

-- a tree's events don't begin with an end
not_end : (t : Tree) (zs : List PlainEvent) (xs : List Item)
    → Ok EndCollection ∷ xs ≡ map Ok (bracketing t ++ zs) → ⊥
not_end (Leaf x) zs xs p = cc
not_end (Array ts) zs xs p = cc
not_end (Dictionary ms) zs xs p = cc

module _ (table : List TableEntry) where
  -- if these items begin with a tree's events, the number represents the tree, and the rest
  -- follows; and they don't begin with an end
  abbrev pub IsTree : ℕ → List Item → Type 0
  IsTree i items = ((t : Tree) (es : List PlainEvent) (xs : List Item)
      → items ++ xs ≡ map Ok (bracketing t ++ es) → Means table t i × (xs ≡ map Ok es))
      × ((xs ys : List Item) → items ++ xs ≡ Ok EndCollection ∷ ys → ⊥)

module _ (table : List TableEntry) (child : ℕ → List Item)
    (good : (c : ℕ) → IsTree table c (child c)) where
  items_parse : (references : List ℕ) (ts : Trees) (es : List PlainEvent) (xs : List Item)
      → flat_map child references ++ Ok EndCollection ∷ xs
      ≡ map Ok (bracketing_of_items ts ++ EndCollection ∷ es) → MeansItems table ts references
      × (xs ≡ map Ok es)
  items_parse [] NoTrees es xs p = (tt, cc)
  items_parse [] (TreeAnd t ts) es xs p = absurd (not_end t _ xs (simp append_assoc at p))
  items_parse (c ∷ cs) NoTrees es xs p = absurd ((good c).1 _ _ (simp append_assoc at p))
  items_parse (c ∷ cs) (TreeAnd t ts) es xs p =
      let first = (good c).0 t _ _
      (simp append_assoc at p) in
      let more = items_parse cs ts es xs first.1 in
      ((first.0, more.0), more.1)

  pairs_parse : (pairs : List (ℕ × ℕ)) (ms : Members) (es : List PlainEvent) (xs : List Item)
      → flat_map child (children_of pairs) ++ Ok EndCollection ∷ xs
      ≡ map Ok (bracketing_of_pairs ms ++ EndCollection ∷ es) → MeansPairs table ms pairs
      × (xs ≡ map Ok es)
  pairs_parse [] NoMembers es xs p = (tt, cc)
  pairs_parse [] (MemberAnd k t ms) es xs p = cc
  pairs_parse (q ∷ qs) NoMembers es xs p =
      absurd ((good q.0).1 _ (map Ok es) (simp append_assoc at p))
  pairs_parse (q ∷ qs) (MemberAnd k t ms) es xs p =
      let key = (good q.0).0 (Leaf (trees.String k))
      (bracketing t ++ (bracketing_of_pairs ms ++ EndCollection ∷ es)) _
      (simp append_assoc at p) in
      let first = (good q.1).0 t (bracketing_of_pairs ms ++ EndCollection ∷ es) _ key.1 in
      let more = pairs_parse qs ms es xs first.1 in
      ((key.0, first.0, more.0), more.1)

  -- an object is parsed if its children are
  object_parses : (i place : ℕ) (o : Object) → Stands table i o
      → (t : Tree) (es : List PlainEvent) (xs : List Item)
      → items_of place o child ++ xs ≡ map Ok (bracketing t ++ es) → Means table t i
      × (xs ≡ map Ok es)
  object_parses i place (obj.Scalar y) is (Leaf x) es xs p = (
    record { entry = is.entry; found = is.found; is = cc },
    cc,
  )
  object_parses i place (obj.Array references) is (Array ts) es xs p =
      let inner = items_parse references ts es xs (simp append_assoc at (ap (drop 1) p)) in
      ((references, is, inner.0), inner.1)
  object_parses i place (obj.Dictionary pairs) is (Dictionary ms) es xs p =
      let inner = pairs_parse pairs ms es xs (simp append_assoc at (ap (drop 1) p)) in
      ((pairs, is, inner.0), inner.1)
  object_parses i place (obj.Faulty kind) is t es xs p = no_fault _ xs (bracketing t ++ es) p
  object_parses i place o is t es xs p = cc

  -- an object's items don't begin with an end
  object_begins : (place : ℕ) (o : Object) → (xs ys : List Item)
      → items_of place o child ++ xs ≡ Ok EndCollection ∷ ys → ⊥
  object_begins place (obj.Scalar y) xs ys p = cc
  object_begins place (obj.Array references) xs ys p = cc
  object_begins place (obj.Dictionary pairs) xs ys p = cc
  object_begins place (obj.Faulty kind) xs ys p = cc

module _ (table : List TableEntry) where
  -- the items of the object of a reference are parsed
  found_parses : (i at : ℕ) (found : Option TableEntry) (is_open : Bool) (items : TableEntry
      → List Item)
      → slice_get table i ≡ found → ((entry : TableEntry) → slice_get table i ≡ Some entry
      → is_open ≡ false → IsTree table i (items entry))
      → IsTree table i (items_found found is_open at items)
  found_parses i at None o items f good =
      ((λ t es xs p. no_fault _ xs (bracketing t ++ es) p), λ xs ys p. cc)
  found_parses i at (Some entry) true items f good =
      ((λ t es xs p. no_fault _ xs (bracketing t ++ es) p), λ xs ys p. cc)
  found_parses i at (Some entry) false items f good = good entry f refl

  -- if an object's items begin with a tree's events, its number represents the tree
  pub unfolding_parses : (fuel : ℕ) (path : List ℕ) (at : ℕ) → IsPath (length table) path
      → fuel + length path ≡ length table
      → (c : ℕ) → IsTree table c (unfolding_of table fuel path at c)
  unfolding unfolding_of
  unfolding_parses zero path at o full c =
      found_parses c at (slice_get table c) (list_any (nat_eq c) path) (λ entry. []) refl
      (λ entry f new. let fits = path_rises c o (slice_get_within table c entry f) new in
      absurd (omega arith))
  unfolding_parses (suc fuel) path at o full c =
      found_parses c at (slice_get table c) (list_any (nat_eq c) path) _ refl (λ entry f new.
      let child = λ (k : ℕ). unfolding_of table fuel (c ∷ path) entry.place k in
      let good = unfolding_parses fuel (c ∷ path) entry.place
      (path_push c o (slice_get_within table c entry f) new) (omega arith) in (
        object_parses table child good c entry.place entry.object
            (record { entry = entry; found = f; is = refl }),
        object_begins table child good entry.place entry.object,
      ))
