-- A plan by classes is a numbering: each number has one object. There are as many objects as classes,
-- which is also the bound of the classes, and the objects have the same total size.
use Rattle.std.proofs.Common.{◌≡◌, ℕ, ◌+◌, ◌-◌, ◌<◌, Bool, nat_eq, List, ◌∷◌, get_or, refl, ap, sym, ◌∙◌, true, eqb, map}
use Rattle.plist_base.specs.Events.{PlainEvent}
use Rattle.plist_base.specs.Trees.{Tree, Leaf, Array, Dictionary, Trees, NoTrees, TreeAnd, Members, NoMembers, MemberAnd}
use Rattle.plist_base.specs.Object as obj
use Rattle.plist_base.specs.Object.{Object}
use Rattle.plist_binwrite.specs.Classes.{AreClasses, object_of, Describes, representatives, count_by, objects_by, size_by, class_in, events_in, bound_in}
use Rattle.plist_binwrite.specs.declared.classes.Classed.{Classed}
use Rattle.plist_binwrite.specs.declared.plan.Numbering.{Numbering}
use Rattle.plist_binwrite.specs.inner.Numbering.{IsNumberingOfEvents, object_number, size_below, total_below}
use Rattle.plist_buffer.specs.Occurrences.{event_count, OccursAt, positions}
use Rattle.plist_buffer.proofs.TreeOccurrences.{ItemsOccurAt, PairsOccurAt, occurs_items, occurs_pairs, occurs_item, occurs_next, occurs_key, occurs_value, occurs_next_pair, occurs_whole}
use Rattle.plist_binwrite.proofs.NumberingSteps.{numbers_below, known_number}
use Rattle.plist_buffer.proofs.TreeStarts.{begins, occurs_in}
use Rattle.plist_binwrite.proofs.TreeObjects.{references, pairs}
use Rattle.std.specs.List.{AllByRecursion}
use Rattle.std.specs.Set.{is_member, unique_keys}
use Rattle.std.proofs.lemmas.Bool.Decides.{eqb_tells}
use Rattle.plist_base.specs.Bracketing.{lengthless}
use Rattle.plist_binwrite.specs.Sizes.{object_size, size_with}
use Rattle.plist_binwrite.specs.Forms.{reference_width}
use Rattle.plist_buffer.specs.EventTable.{HasItem}
use Rattle.plist_buffer.proofs.TreePositions.{Stands, positions_stand, positions_all}
use Rattle.plist_buffer.proofs.SameScalars.{tells_both}
use Rattle.plist_binwrite.proofs.Totals.{count_below, total, total_all, unique_member, unique_distinct, total_map, total_one, total_sum}
use Rattle.plist_buffer.proofs.Uniques.{all_from, all_unique, members_self, member_has, unique_seen}

-- do the two positions have the same class?
abbrev pub same_class : (class : ℕ → ℕ) → ℕ × Tree → ℕ × Tree → Bool
same_class class a b = nat_eq (class a.0) (class b.0)

module _ {es : List PlainEvent} {class : ℕ → ℕ} (c : AreClasses es class) where
  module _ (num : ℕ → ℕ)
      (same : (t u : Tree) (p q : ℕ) → OccursAt es t p → OccursAt es u q → class p ≡ class q
      → num p ≡ num q) where
    mutual
      -- indices of one class have the same tree, and so the same object by the numbers
      pub one_object : (t u : Tree) (p q : ℕ) → OccursAt es t p → OccursAt es u q
          → class p ≡ class q
          → (t ≡ u) × (object_of num t p ≡ object_of num u q)
      one_object (Leaf x) (Leaf y) p q s r e =
          let k = c.object (Leaf x) (Leaf y) p q s r e in (cc, cc)
      one_object (Array ts) (Array us) p q s r e =
          let o = c.object (Array ts) (Array us) p q s r e in
          let k = one_items ts us (p + 1) (q + 1) (occurs_items s) (occurs_items r) (cc) in
          (ap Array k.0, ap obj.Array k.1)
      one_object (Dictionary ms) (Dictionary ns) p q s r e =
          let o = c.object (Dictionary ms) (Dictionary ns) p q s r e in
          let k = one_pairs ms ns (p + 1) (q + 1) (occurs_pairs s) (occurs_pairs r) (cc) in
          (ap Dictionary k.0, ap obj.Dictionary k.1)
      one_object t u p q s r e = let k = c.object t u p q s r e in (cc, cc)

      one_items : (ts us : Trees) (p q : ℕ) → ItemsOccurAt es ts p → ItemsOccurAt es us q
          → references class ts p ≡ references class us q → (ts ≡ us)
          × (references num ts p ≡ references num us q)
      one_items NoTrees NoTrees p q s r e = (refl, refl)
      one_items (TreeAnd t ts) (TreeAnd u us) p q s r e =
          let k = one_object t u p q (occurs_item s) (occurs_item r) (cc) in
          let n = same t u p q (occurs_item s) (occurs_item r) (cc) in
          let more = one_items ts us _ _ (occurs_next s) (occurs_next r) (cc) in
          (cc, cc)
      one_items ts us p q s r e = (cc, cc)

      one_pairs : (ms ns : Members) (p q : ℕ) → PairsOccurAt es ms p → PairsOccurAt es ns q
          → pairs class ms p ≡ pairs class ns q → (ms ≡ ns) × (pairs num ms p ≡ pairs num ns q)
      one_pairs NoMembers NoMembers p q s r e = (refl, refl)
      one_pairs (MemberAnd k t ms) (MemberAnd l u ns) p q s r e =
          let one : ◌≡◌ {A = ℕ × ℕ} (class p, class (p + 1)) (class q, class (q + 1)) = cc in
          let first = ap (λ d. d.0) one in
          let second = ap (λ d. d.1) one in
          let o = c.object _ _ p q (occurs_key s) (occurs_key r) first in
          let key : k ≡ l = cc in
          let m = same _ _ p q (occurs_key s) (occurs_key r) first in
          let j = one_object t u (p + 1) (q + 1) (occurs_value s) (occurs_value r) second in
          let n = same t u _ _ (occurs_value s) (occurs_value r) second in
          let more = one_pairs ms ns _ _ (occurs_next_pair s) (occurs_next_pair r) (cc) in
          ((λ i. MemberAnd (key i) (j.0 i) (more.0 i)), λ i. (m i, n i) ∷ more.1 i)
      one_pairs ms ns p q s r e = (cc, cc)

  pub sound : (t u : Tree) (p q : ℕ) → OccursAt es t p → OccursAt es u q → class p ≡ class q → t ≡ u
  sound t u p q s r e = (one_object _ (λ t u p q s r e. e) t u p q s r e).0

-- the objects of the numbers, and the sizes of their trees
pub record Numbered (es : List PlainEvent) (number : ℕ → ℕ) : Type 0 where
  pub rank : ℕ → ℕ
  pub ranked : (t : Tree) (p : ℕ) → OccursAt es t p → rank (number p) ≡ event_count t
  pub objects : ℕ → Object
  pub describes : Describes es number objects

-- ---- the numbers of a tree's positions

-- the numbers of a tree's positions are exactly those below a count, and two positions have one
-- number if and only if they have one class
module _ {es : List PlainEvent} (whole : Tree) (e : es ≡ lengthless whole) (class num : ℕ → ℕ)
    (count : ℕ) (below : (p : ℕ) → HasItem es p → num p < count)
    (used : (k : ℕ) → k < count → (p : ℕ) × HasItem es p × (num p ≡ k))
    (alike : (a b : ℕ × Tree) → Stands es a → Stands es b
    → same_class class a b ≡ same_class num a b) where
  stand : AllByRecursion (Stands es) (positions whole 0)
  stand = positions_stand es _ 0 (occurs_whole e)

  abbrev number : ℕ × Tree → ℕ
  number one = num one.0

  abbrev numbers : List ℕ
  numbers = map number (positions whole 0)

  -- the numbers are those below the count
  total_numbers : (w : ℕ → ℕ) → total w (unique_keys eqb numbers) ≡ total_below w count
  total_numbers w =
      total_all w count (unique_keys eqb numbers) (unique_distinct eqb eqb_tells numbers)
      (λ q h. member_has number (λ k. k < count) (positions whole 0) q
      (all_from (λ one. number one < count) (Stands es)
      (λ one s. below one.0 (occurs_in s, begins one.1 one.0 s)) (positions whole 0) stand)
      (sym (unique_member eqb eqb_tells numbers q) ∙ h))
      (λ q h. let (p, item, is) = used q h in
      let m = positions_all es (λ p. is_member eqb numbers (num p) ≡ true) whole e
      (members_self number (positions whole 0)) p item.0 item.1 in
      unique_member eqb eqb_tells numbers q ∙ ap (is_member eqb numbers) (sym is) ∙ m)

  -- the total weight of the numbers is that of one position of each class
  total_is : (w : ℕ → ℕ) (v : ℕ × Tree → ℕ)
      → ((one : ℕ × Tree) → Stands es one → w (number one) ≡ v one)
      → total_below w count ≡ total v (representatives class whole)
  total_is w v same =
      let kept = unique_seen (same_class class) eqb number (Stands es) alike _ stand in
      sym (total_numbers w) ∙ ap (total w) (sym kept)
      ∙ total_map number w v (representatives class whole) (all_from _ (Stands es) same _
      (all_unique (Stands es) (same_class class) (positions whole 0) stand))

  -- there are as many numbers as classes
  count_is : count ≡ count_by class whole
  count_is = simp (count_below, total_one) at (total_is (λ k. 1) (λ one. 1) (λ one s. refl))

-- ---- a plan's numbers

module _ {given : Classed} {numbering : Numbering} (n : IsNumberingOfEvents given numbering) where
  abbrev es : List PlainEvent
  es = events_in given

  abbrev class : ℕ → ℕ
  class = class_in given

  abbrev num : ℕ → ℕ
  num = object_number given numbering

  pub number_below : (t : Tree) (p : ℕ) → OccursAt es t p → num p < numbering.count
  number_below t p s = numbers_below n p (occurs_in s, begins t p s)

  first_class : (t : Tree) (p : ℕ) → OccursAt es t p → class (n.so_far.first (num p)).0 ≡ class p
  first_class t p s =
      n.so_far.same p (occurs_in s, begins t p s) (n.all p (occurs_in s, begins t p s))

  -- indices of one number have one class, and indices of one class have one number
  pub number_apart : (t u : Tree) (p q : ℕ) → OccursAt es t p → OccursAt es u q → num p ≡ num q
      → class p ≡ class q
  number_apart t u p q s r e =
      sym (first_class t p s) ∙ ap (λ k. class (n.so_far.first k).0) e ∙ first_class u q r

  pub number_same : (t u : Tree) (p q : ℕ) → OccursAt es t p → OccursAt es u q → class p ≡ class q
      → num p ≡ num q
  number_same t u p q s r e = ap (λ c. get_or numbering.by_class c 0 - 1) e

  -- the tree of a number, and its object
  pub first_same : (t : Tree) (p : ℕ) → OccursAt es t p → ((n.so_far.first (num p)).1 ≡ t)
      × (object_of num (n.so_far.first (num p)).1 (n.so_far.first (num p)).0 ≡ object_of num t p)
  first_same t p s =
      one_object n.so_far.classed.objects num number_same _ t _ p
      (n.so_far.known (num p) (number_below t p s)).0 s (first_class t p s)

  pub numbered : Numbered es num
  numbered = record {
    rank = λ k. event_count (n.so_far.first k).1;
    ranked = λ t p s. ap event_count (first_same t p s).0;
    objects = λ k. object_of num (n.so_far.first k).1 (n.so_far.first k).0;
    describes = λ t p s. (first_same t p s).1;
  }

  first_item : (k : ℕ) → k < numbering.count → (p : ℕ) × HasItem es p × (num p ≡ k)
  first_item k h =
      let s = (n.so_far.known k h).0 in (_, (occurs_in s, begins _ _ s), known_number n k h)

  alike : (a b : ℕ × Tree) → Stands es a → Stands es b
      → same_class class a b ≡ same_class num a b
  alike a b s r =
      tells_both eqb eqb (class a.0) (class b.0) (num a.0) (num b.0) (eqb_tells _ _) (eqb_tells _ _)
      (number_same a.1 b.1 a.0 b.0 s r) (number_apart a.1 b.1 a.0 b.0 s r)

  module _ (whole : Tree) (e : es ≡ lengthless whole) where
    -- there are as many objects as classes
    pub numbered_count : numbering.count ≡ count_by class whole
    numbered_count = count_is whole e class num numbering.count (numbers_below n) first_item alike

    -- all objects have as many bytes as one object for each class
    pub numbered_size : (w : ℕ)
        → size_below w n.so_far.first numbering.count ≡ objects_by class w whole
    numbered_size w =
        total_is whole e class num numbering.count (numbers_below n) first_item alike _
        (λ one. object_size w one.1)
        (λ one s. ap (object_size w) (first_same one.1 one.0 s).0)
        ∙ total_sum (λ one. object_size w one.1) (representatives class whole)

    pub size_by_numbers : size_by class whole ≡ size_with numbering.count
        (size_below (reference_width numbering.count) n.so_far.first numbering.count)
    size_by_numbers = sym (λ i. size_with (numbered_count i)
        ((numbered_size (reference_width numbering.count)
        ∙ ap (λ c. objects_by class (reference_width c) whole) numbered_count) i))

  -- the bound of the classes is the number of objects
  pub bound_is_count : bound_in given ≡ numbering.count
  bound_is_count =
      let (whole, e) = n.so_far.whole in
      count_is whole e class class (bound_in given) n.so_far.classed.below n.so_far.classed.used
      (λ a b s r. refl)
      ∙ sym (numbered_count whole e)
