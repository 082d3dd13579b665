-- The classes of `BinaryWriter`: one for each collection, and one for each different scalar.
use Rattle.std.proofs.Common.{◌≡◌, ℕ, ◌+◌, ◌<◌, ◌≤◌, Bool, true, false, cond, ◌||◌, eqb, List, [], ◌∷◌, ◌++◌, length, map, refl, ap, sym, ◌∙◌, arith, append_assoc, append-nil, length-append}
use Rattle.std.specs.List.{list_any, flat_map, AllByRecursion, IsDistinct}
use Rattle.std.specs.Set.{is_member, unique_keys}
use Rattle.std.proofs.lemmas.Bool.{ne_eqb}
use Rattle.std.proofs.lemmas.Bool.Decides.{eqb_tells}
use Rattle.std.proofs.lemmas.List.{map-id}
use Rattle.plist_base.specs.Bracketing.{lengthless, lengthless_items, lengthless_pairs}
use Rattle.plist_base.specs.Events.{PlainEvent}
use Rattle.plist_base.specs.Trees.{Scalar, Tree, Leaf, Array, Dictionary, Trees, NoTrees, TreeAnd, Members, NoMembers, MemberAnd}
use Rattle.plist_binwrite.specs.Classes.{AreClasses, representatives, count_by, objects_by, size_by, object_of}
use Rattle.plist_base.specs.Scalars.{scalar_eq}
use Rattle.plist_binwrite.specs.Sizes.{object_count, scalars_in, collections_in, leaf_scalar, collection_of, object_size, size_with, file_size}
use Rattle.plist_buffer.specs.Occurrences.{event_count, OccursAt, positions, positions_in_items, positions_in_pairs}
use Rattle.plist_binwrite.specs.Forms.{reference_width}
use Rattle.plist_buffer.proofs.TreePositions.{Stands, one_tree, positions_stand}
use Rattle.plist_binwrite.proofs.ScalarClasses.{alone, identity_of, AreIdentities, owner_eq, owners_tell}
use Rattle.plist_buffer.proofs.SameScalars.{tells_both}
use Rattle.plist_buffer.proofs.TreeOccurrences.{occurs_whole}
use Rattle.plist_binwrite.proofs.Totals.{total, total_one, total_sum}
use Rattle.plist_buffer.proofs.Uniques.{unique_seen}
use Rattle.plist_binwrite.proofs.ClassObjects.{same_class}

-- trees with one identity have one object
same_owner : {es : List PlainEvent} (num : ℕ → ℕ) (u v : Tree) (p q : ℕ)
    → identity_of v q ≡ identity_of u p → OccursAt es u p → OccursAt es v q
    → object_of num v q ≡ object_of num u p
same_owner num (Leaf x) (Leaf y) p q e s r = cc
same_owner num (Leaf x) v p q e s r = cc
same_owner num u (Leaf y) p q e s r = cc
same_owner {es} num u v p q e s r =
    let k : q ≡ p = cc in
    let t = one_tree v u p (rw (← k) r) s in λ i. object_of num (t i) (k i)

module _ {es : List PlainEvent} {class : ℕ → ℕ} {count : ℕ} (o : AreIdentities es class count) where
  pub owners_classes : AreClasses es class
  owners_classes =
      record { object = λ t u p q s r e. same_owner class u t q p ((o.same t u p q s r).0 e) r s }

-- ---- positions

abbrev One : Type 0
One = ℕ × Tree

abbrev owned_eq : One → One → Bool
owned_eq a b = owner_eq (identity_of a.1 a.0) (identity_of b.1 b.0)

-- the indices rise, starting at a bound
abbrev Rise : ℕ → List One → Type 0
Rise low [] = Unit {0}
Rise low (one ∷ ones) = (low ≤ one.0) × Rise (one.0 + 1) ones

lower : (a b : ℕ) (ones : List One) → a ≤ b → Rise b ones → Rise a ones
lower a b [] h r = tt
lower a b (one ∷ ones) h r = (omega arith, r.1)

later : (p : ℕ) (ones : List One) → Rise (p + 1) ones → AllByRecursion (λ one. p < one.0) ones
later p [] r = tt
later p (one ∷ ones) r =
    (omega arith, later p ones (lower (p + 1) (one.0 + 1) ones (omega (arith, r.0)) r.1))

mutual
  rising : (t : Tree) (p : ℕ) (after : List One) → Rise (p + event_count t) after
      → Rise p (positions t p ++ after)
  rising (Leaf x) p after r = (omega arith, r)
  rising (Array ts) p after r = (
    omega arith,
    rising_items ts _ _ (lower _ _ after (omega (arith, length-append {A = PlainEvent})) r),
  )
  rising (Dictionary ms) p after r = (
    omega arith,
    rising_pairs ms _ _ (lower _ _ after (omega (arith, length-append {A = PlainEvent})) r),
  )

  rising_items : (ts : Trees) (p : ℕ) (after : List One)
      → Rise (p + length (lengthless_items ts)) after → Rise p (positions_in_items ts p ++ after)
  rising_items NoTrees p after r = lower p _ after (omega arith) r
  rising_items (TreeAnd t ts) p after r =
      rw append_assoc (rising t p _
      (rising_items ts _ _ (lower _ _ after (omega (arith, length-append {A = PlainEvent})) r)))

  rising_pairs : (ms : Members) (p : ℕ) (after : List One)
      → Rise (p + length (lengthless_pairs ms)) after → Rise p (positions_in_pairs ms p ++ after)
  rising_pairs NoMembers p after r = lower p _ after (omega arith) r
  rising_pairs (MemberAnd k t ms) p after r = (
    omega arith,
    rw (append_assoc (positions t (p + 1)) (positions_in_pairs ms (p + 1 + event_count t)) after)
        (rising t (p + 1) _
        (rising_pairs ms _ _ (lower _ _ after (omega (arith, length-append {A = PlainEvent})) r))),
  )

positions_rise : (t : Tree) → Rise 0 (positions t 0)
positions_rise t = rw (← (append-nil (positions t 0))) (rising t 0 [] tt)

-- ---- the weights of one of each kind

text_member : (ones : List One) (p : ℕ) (x : Scalar)
    → is_member owned_eq ones (p, Leaf x) ≡ is_member scalar_eq (flat_map leaf_scalar ones) x
text_member [] p x = refl
text_member ((q, Leaf y) ∷ ones) p x = ap (λ b. scalar_eq x y || b) (text_member ones p x)
text_member ((q, t) ∷ ones) p x = text_member ones p x

-- no position after that of a collection has the same owner
no_other : (ones : List One) (p : ℕ) → AllByRecursion (λ later. p < later.0) ones
    → list_any (λ one. owner_eq (alone p) (identity_of one.1 one.0)) ones ≡ false
no_other [] p a = refl
no_other ((q, Leaf y) ∷ ones) p a = no_other ones p a.1
no_other ((q, u) ∷ ones) p a =
    rw (ne_eqb p q (λ e. omega arith)) (no_other ones p a.1)

module _ (weight : Tree → ℕ) where
  abbrev weigh : One → ℕ
  weigh one = weight one.1

  owned_total : (low : ℕ) (ones : List One) → Rise low ones
      → total weigh (unique_keys owned_eq ones)
      ≡ total weigh (flat_map collection_of ones) + total (λ y. weight (Leaf y))
      (unique_keys scalar_eq (flat_map leaf_scalar ones))
  owned_total low [] r = refl
  owned_total low ((p, Leaf x) ∷ ones) r =
      let more = owned_total (p + 1) ones r.1 in
      rw (text_member ones p x) (elim (is_member scalar_eq (flat_map leaf_scalar ones) x) as
      (λ b. total weigh
      (cond b (unique_keys owned_eq ones) ((p, Leaf x) ∷ unique_keys owned_eq ones))
      ≡ total weigh (flat_map collection_of ones) + total (λ y. weight (Leaf y)) (cond b
      (unique_keys scalar_eq (flat_map leaf_scalar ones))
      (x ∷ unique_keys scalar_eq (flat_map leaf_scalar ones)))) [
        | true ↦ more
        | false ↦ omega (arith, more)
      ])
  owned_total low ((p, t) ∷ ones) r =
      rw (no_other ones p (later p ones r.1)) (omega (arith, owned_total (p + 1) ones r.1))

-- ---- counts and sizes

module _ (tree : Tree) {class : ℕ → ℕ} {count : ℕ} (o : AreIdentities
    (lengthless tree) class count) where
  kept_is : representatives class tree ≡ unique_keys owned_eq (positions tree 0)
  kept_is = simp map-id at (unique_seen (same_class class) owned_eq (λ one. one)
      (Stands (lengthless tree)) (λ a b s r. tells_both eqb owner_eq (class a.0) (class b.0)
      (identity_of a.1 a.0) (identity_of b.1 b.0) (eqb_tells _ _) (owners_tell _ _)
      (o.same a.1 b.1 a.0 b.0 s r).0 (o.same a.1 b.1 a.0 b.0 s r).1)
      (positions tree 0) (positions_stand (lengthless tree) tree 0 (occurs_whole refl)))

  kept_total : (weight : Tree → ℕ) → total (λ (one : One). weight one.1) (representatives class tree)
      ≡ total (λ (one : One). weight one.1) (collections_in tree) + total (λ y. weight (Leaf y))
      (unique_keys scalar_eq (scalars_in tree))
  kept_total weight =
      ap (total (λ (one : One). weight one.1)) kept_is
      ∙ owned_total weight 0 (positions tree 0) (positions_rise tree)

  pub owned_count : count_by class tree ≡ object_count tree
  owned_count = simp total_one at (kept_total (λ t. 1))

  pub owned_size : size_by class tree ≡ file_size tree
  owned_size =
      let w = reference_width (object_count tree) in
      λ i. size_with (owned_count i) ((ap (λ n. objects_by class (reference_width n) tree) owned_count
      ∙ simp total_sum at (kept_total (object_size w))) i)

-- ---- no collection is entered twice

module _ {es : List PlainEvent} {class : ℕ → ℕ} {count : ℕ} (o : AreIdentities es class count)
    (num : ℕ → ℕ) (num_apart : (t u : Tree) (p q : ℕ) → OccursAt es t p → OccursAt es u q
    → num p ≡ num q
    → class p ≡ class q) where
  all_apart : (a : One) → Stands es a → identity_of a.1 a.0 ≡ alone a.0 → (ones : List One)
      → AllByRecursion (Stands es) ones → AllByRecursion (λ later. a.0 < later.0) ones
      → AllByRecursion (λ y. eqb (num a.0) y ≡ false)
      (map (λ one. num one.0) (flat_map collection_of ones))
  all_apart a s i [] r h = tt
  all_apart a s i ((q, Leaf y) ∷ ones) r h = all_apart a s i ones r.1 h.1
  all_apart a s i ((q, t) ∷ ones) r h = (
    ne_eqb _ _ (λ e.
        let k = sym i
        ∙ (o.same a.1 t a.0 q s r.0).0 (num_apart a.1 t a.0 q s r.0 e) in
        let j : a.0 ≡ q = cc in omega arith),
    all_apart a s i ones r.1 h.1,
  )

  distinct_at : (low : ℕ) (ones : List One) → AllByRecursion (Stands es) ones → Rise low ones
      → IsDistinct eqb (map (λ one. num one.0) (flat_map collection_of ones))
  unfolding IsDistinct
  distinct_at low [] s r = tt
  distinct_at low ((p, Leaf x) ∷ ones) s r = distinct_at (p + 1) ones s.1 r.1
  distinct_at low ((p, t) ∷ ones) s r = (
    all_apart (p, t) s.0 refl ones s.1 (later p ones r.1),
    distinct_at (p + 1) ones s.1 r.1,
  )

  pub entered_once : (tree : Tree) → OccursAt es tree 0
      → IsDistinct eqb (map (λ one. num one.0) (collections_in tree))
  entered_once tree s = distinct_at 0 (positions tree 0) (positions_stand es tree 0 s)
      (positions_rise tree)
