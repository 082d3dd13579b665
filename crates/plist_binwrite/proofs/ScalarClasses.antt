-- The classes of buffered events: that of a scalar is its index among the different scalars, and that
-- of a collection follows from its number.
use Rattle.std.proofs.Common.{◌≡◌, ◌⊎◌, ◌↔◌, inl, inr, ℕ, ◌<◌, true, false, List, length, Option, None, Some, refl, ap, sym, ◌∙◌, arith, ◌+◌, ◌-◌, Bool, eqb, slice_get, unwrap_or}
use Rattle.std.proofs.lemmas.Option.{slice_get_within}
use Rattle.plist_base.specs.Events.{EndCollection, ScalarEvent, PlainEvent}
use Rattle.plist_base.specs.Trees.{Scalar, Tree, Leaf, Array, Dictionary}
use Rattle.plist_buffer.specs.Occurrences.{OccursAt}
use Rattle.plist_buffer.proofs.TreeStarts.{occurs_in, stands_single, starts_array, starts_dictionary, begins}
use Rattle.plist_binwrite.specs.Classes.{class_by, scalar_class}
use Rattle.plist_buffer.specs.EventTable.{HasItem, collection_number, event_at, lists_in, plain_events, scalars_of, IsBracketed, count_collections}
use Rattle.plist_buffer.specs.declared.event_table.EventTable.{EventTable}
use Rattle.plist_buffer.specs.inner.Columns.{scalar_named}
use Rattle.plist_buffer.specs.inner.Entries.{entry_at, is_leaf}
use Rattle.plist_buffer.specs.inner.UnclosedStarts.{skip_after}
use Rattle.plist_buffer.proofs.EntryEvents.{no_scalar, scalar_stored, scalar_is_leaf, scalar_used}
use Rattle.plist_buffer.proofs.CollectionNumbers.{IsCollectionAt, collection_at, collection_ends, array_at, dictionary_at, number_below, number_used, numbers_apart}
use Rattle.std.proofs.lemmas.Bool.Decides.{eqb_tells, leb_tells}
use Rattle.plist_base.specs.Scalars.{scalar_eq}
use Rattle.plist_buffer.proofs.SameScalars.{Tells, scalars_tell, tells_made}

-- ---- what has an object of its own

-- what a tree shares its object with: equal scalars share one, and a collection has its own
pub data Identity : Type 0 where
  shared : Scalar → Identity
  alone : ℕ → Identity

-- the identity of a tree that begins at an index
abbrev pub identity_of : Tree → (index : ℕ) → Identity
identity_of (Leaf x) p = shared x
identity_of tree p = alone p

-- the classes are below a count, and those of trees are equal if and only if the identities are
pub record AreIdentities (es : List PlainEvent) (class : ℕ → ℕ) (count : ℕ) : Type 0 where
  pub below : (t : Tree) (p : ℕ) → OccursAt es t p → class p < count
  pub same : (t u : Tree) (p q : ℕ) → OccursAt es t p → OccursAt es u q
      → (class p ≡ class q) ↔ (identity_of t p ≡ identity_of u q)

abbrev pub owner_eq : Identity → Identity → Bool
owner_eq (shared a) (shared b) = scalar_eq a b
owner_eq (alone p) (alone q) = eqb p q
owner_eq a b = false

-- `owner_eq` decides whether two events have one object
pub owners_tell : (a b : Identity) → Tells owner_eq a b
owners_tell (shared a) (shared b) =
    tells_made scalar_eq owner_eq shared a b refl (λ e. cc) (scalars_tell a b)
owners_tell (alone p) (alone q) = tells_made eqb owner_eq alone p q refl (λ e. cc) (eqb_tells p q)
owners_tell a b = inr (refl, λ e. cc)

-- ---- the classes of buffered events

module _ (held : EventTable) where
  abbrev es : List PlainEvent
  es = plain_events held

  abbrev scalars : List PlainEvent
  scalars = scalars_of held

  module _ (of_collection : ℕ → ℕ) where
    abbrev class : ℕ → ℕ
    class = class_by of_collection held

    -- a scalar's class is its index among the different scalars
    abbrev IsShared : ℕ → Type 0
    IsShared p = (slice_get scalars (class p) ≡ Some (event_at es p)) × (is_leaf (event_at es p) ≡ true)

    -- that of a collection follows from its number
    abbrev IsAlone : ℕ → Type 0
    IsAlone p = (class p ≡ of_collection (collection_number held p)) × (is_leaf (event_at es p) ≡ false)

    told : (p : ℕ) → p < length es → IsShared p ⊎ IsAlone p
    told p lt = by (scalar_named (lists_in held) (entry_at held.entries p)) refl
      where
        class_is : (found : Option ℕ) → scalar_named (lists_in held) (entry_at held.entries p) ≡ found
            → class p ≡ unwrap_or found (of_collection (collection_number held p))
        class_is found is = ap (λ o. unwrap_or o (of_collection (collection_number held p))) is

        by : (found : Option ℕ) → scalar_named (lists_in held) (entry_at held.entries p) ≡ found
            → IsShared p ⊎ IsAlone p
        by None is = inr (class_is None is, no_scalar held.kept lt is)
        by (Some k) is = inl (
          ap (slice_get scalars) (class_is (Some k) is) ∙ scalar_stored held.kept lt is,
          scalar_is_leaf held.kept lt is,
        )

    pub leaf_class : (x : Scalar) (p : ℕ) → OccursAt es (Leaf x) p
        → slice_get scalars (class p) ≡ Some (ScalarEvent x)
    leaf_class x p s = elim (told p (occurs_in s)) [
      | inl k ↦ k.0 ∙ ap Some (stands_single s)
      | inr n ↦ cc (n.1, ap is_leaf (stands_single s))
    ]

    pub collection_class : (t : Tree) (p : ℕ) → IsCollectionAt es t p
        → class p ≡ of_collection (collection_number held p)
    collection_class (Leaf x) p s = absurd (omega (arith, s.large))
    collection_class (Array ts) p s = elim (told p (occurs_in s.occurs)) [
      | inl k ↦ cc (k.1, ap is_leaf (starts_array s.occurs))
      | inr n ↦ n.0
    ]
    collection_class (Dictionary ms) p s = elim (told p (occurs_in s.occurs)) [
      | inl k ↦ cc (k.1, ap is_leaf (starts_dictionary s.occurs))
      | inr n ↦ n.0
    ]

    -- the class of a scalar is less than the number of different scalars
    pub leaf_below : (x : Scalar) (p : ℕ) → OccursAt es (Leaf x) p → class p < length scalars
    leaf_below x p s = slice_get_within scalars (class p) _ (leaf_class x p s)

    -- each number below the number of different scalars is a class
    pub leaf_used : (k : ℕ) → k < length scalars → (p : ℕ) × HasItem es p × (class p ≡ k)
    leaf_used k lt =
        let (p, item, named) = scalar_used held.kept k lt in
        (p, item, ap (λ o. unwrap_or o (of_collection (collection_number held p))) named)

    -- equal scalars have one class
    pub leaves_same : (x y : Scalar) (p q : ℕ) → OccursAt es (Leaf x) p → OccursAt es (Leaf y) q
        → (class p ≡ class q) ↔ (x ≡ y)
    leaves_same x y p q s r =
        let k = leaf_class x p s in
        let l = leaf_class y q r in (
          λ h. cc,
          λ h. held.kept.apart (class p) (class q) _ (k ∙ ap (λ x. Some (ScalarEvent x)) h) l,
        )

  abbrev own : ℕ → ℕ
  own collection = length scalars + collection

  -- the class of a tree, by its identity
  abbrev HasClass : Identity → ℕ → Type 0
  HasClass (shared x) p = OccursAt es (Leaf x) p
  HasClass (alone index) p = (p ≡ index) × (t : Tree) × IsCollectionAt es t p

  has_class : (t : Tree) (p : ℕ) → OccursAt es t p → HasClass (identity_of t p) p
  has_class (Leaf x) p s = s
  has_class (Array ts) p s = (refl, Array ts, array_at s)
  has_class (Dictionary ms) p s = (refl, Dictionary ms, dictionary_at s)

  class_below : (a : Identity) (p : ℕ) → HasClass a p
      → scalar_class held p < length scalars + count_collections held
  class_below (shared x) p s = omega (arith, leaf_below own x p s)
  class_below (alone index) p s =
      omega (arith, collection_class own s.1 p s.2, number_below held s.1 p s.2)

  -- no scalar has the class of a collection
  apart : (x : Scalar) (index p q : ℕ) → HasClass (shared x) p → HasClass (alone index) q
      → scalar_class held p ≡ scalar_class held q → ⊥
  apart x index p q k l h =
      omega (arith, leaf_below own x p k, collection_class own l.1 q l.2, h)

  same_class : (a b : Identity) (p q : ℕ) → HasClass a p → HasClass b q → (scalar_class held p ≡ scalar_class held q) ↔ (a ≡ b)
  same_class (shared x) (shared y) p q k l =
      let same = leaves_same own x y p q k l in
      (λ h. ap shared (same.0 h), λ h. same.1 (cc))
  same_class (shared x) (alone j) p q k l = ((λ h. absurd (apart x j p q k l h)), λ h. cc)
  same_class (alone i) (shared y) p q k l = ((λ h. absurd (apart y i q p l k (sym h))), λ h. cc)
  same_class (alone i) (alone j) p q k l = (
    λ h.
        let same = numbers_apart held k.1 l.1 p q k.2 l.2 (omega (
          arith,
          collection_class own k.1 p k.2,
          collection_class own l.1 q l.2,
          h,
        )) in cc (k.0, l.0),
    λ h. let same : i ≡ j = cc in cc (k.0, l.0),
  )

  -- equal scalars have one class, and each collection has its own
  pub equal_scalars : AreIdentities es (scalar_class held) (length scalars + count_collections held)
  equal_scalars = record {
    below = λ t p s. class_below _ p (has_class t p s);
    same = λ t u p q s r. same_class _ _ p q (has_class t p s) (has_class u q r);
  }

  -- each number below the number of different scalars and collections is a class
  pub all_used : IsBracketed es → (k : ℕ) → k < length scalars + count_collections held
      → (p : ℕ) × HasItem es p × (scalar_class held p ≡ k)
  all_used whole k lt = elim (leb_tells (length scalars) k) [
    | inl after ↦
        let number = k - length scalars in
        let (p, t, s, is) = number_used held whole number (omega (arith, lt, after.1)) in
        let class_is = collection_class own t p s in
        (p, (occurs_in s.occurs, begins t p s.occurs), omega (arith, class_is, is, after.1))
    | inr before ↦ leaf_used own k before.1
  ]

-- the class of a scalar doesn't depend on those of collections
pub leaf_any : (held : EventTable) (f g : ℕ → ℕ) (x : Scalar) (p : ℕ)
    → OccursAt (plain_events held) (Leaf x) p → class_by f held p ≡ class_by g held p
leaf_any held f g x p s = by (scalar_named (lists_in held) (entry_at held.entries p)) refl
  where
    by : (found : Option ℕ) → scalar_named (lists_in held) (entry_at held.entries p) ≡ found
        → class_by f held p ≡ class_by g held p
    by None is = cc (no_scalar held.kept (occurs_in s) is, ap is_leaf (stands_single s))
    by (Some k) is =
        ap (λ o. unwrap_or o (f (collection_number held p))) is
        ∙ sym (ap (λ o. unwrap_or o (g (collection_number held p))) is)

-- where no scalar is, a collection begins, whose number is among those of collections
pub collection_there : (held : EventTable) → IsBracketed (plain_events held) → (p : ℕ)
    → HasItem (plain_events held) p → is_leaf (event_at (plain_events held) p) ≡ false
    → (event_at (plain_events held) (skip_after (plain_events held) p - 1) ≡ EndCollection)
    × (collection_number held p < count_collections held)
collection_there held whole p item other =
    let (t, s) = collection_at (plain_events held) whole p item other in
    (collection_ends held t p s, number_below held t p s)
