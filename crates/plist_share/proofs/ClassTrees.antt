-- The classes that are found from the inside outwards: each class has one tree.
use Rattle.std.proofs.Common.{◌≡◌, ◌≢◌, ◌⊎◌, inl, inr, ℕ, ◌+◌, ◌-◌, ◌<◌, ◌≤◌, ◌↔◌, Bool, IsTrue, true, false, List, ◌∷◌, ◌++◌, length, map, set, Option, None, Some, refl, sym, ap, ◌∙◌, subst, arith, length-append, option_map, slice_get, slice_index}
use Rattle.std.proofs.lemmas.Bool.Decides.{eqb_tells, leb_tells}
use Rattle.std.proofs.lemmas.List.{length-map, get_or-set_other, get_or-set_same}
use Rattle.std.proofs.lemmas.Option.{slice_get_within, same_Some}
use Rattle.std.specs.Map.{keys_of, values_of}
use Rattle.plist_base.specs.Trees.{Scalar, Tree, Leaf, Array, Dictionary, Trees, NoTrees, TreeAnd, Members, NoMembers, MemberAnd}
use Rattle.plist_base.specs.Events.{PlainEvent, EndCollection, ScalarEvent, shape_of}
use Rattle.plist_base.specs.Object as obj
use Rattle.plist_base.specs.Object.{dictionary}
use Rattle.plist_binwrite.specs.Classes.{AreClasses, object_of, HasEachCollection, listed_class}
use Rattle.plist_binwrite.specs.declared.classes.ClassList.{ClassList}
use Rattle.plist_buffer.specs.EventTable.{HasItem, IsBracketed, collection_number, is_end, item_indices, key_indices, value_indices, event_at, plain_events, scalars_of}
use Rattle.plist_binwrite.proofs.TreeObjects.{pairs, references, keys_are, values_are}
use Rattle.plist_buffer.specs.Occurrences.{event_count, OccursAt}
use Rattle.plist_buffer.proofs.TreeOccurrences.{ItemsOccurAt, PairsOccurAt, keys_in, occurs_items, occurs_pairs, occurs_item, occurs_next, occurs_key, occurs_value, occurs_next_pair, values_in}
use Rattle.plist_base.specs.declared.event.EventShape.{EventShape}
use Rattle.plist_base.specs.declared.event.EventShape.TheVariants as shape
use Rattle.plist_buffer.specs.declared.event_table.EventTable.{EventTable}
use Rattle.plist_buffer.specs.inner.Entries.{AreDistinct, is_leaf}
use Rattle.plist_buffer.proofs.CollectionNumbers.{IsCollectionAt, array_at, collection_at, dictionary_at, number_below, numbers_apart, occurs_at}
use Rattle.plist_binwrite.proofs.ClassObjects.{sound}
use Rattle.plist_binwrite.proofs.ScalarClasses.{collection_class, leaf_any, leaf_below, leaf_used, leaves_same}
use Rattle.plist_binwrite.proofs.Reading.{dictionary_is}
use Rattle.plist_buffer.proofs.TreeStarts.{begins, occurs_in, starts_array, starts_dictionary}
use Rattle.plist_share.specs.inner.Nodes.{AreClassesFrom, Node, node_at, IsClass, IsClassAt, Extends, SeparatesAll}

-- ---- a dictionary's pairs by their keys and their values, and back

same_pairs : (class : ℕ → ℕ) (ms ns : Members) (p q : ℕ)
    → map class (key_indices ms p) ++ map class (value_indices ms p)
    ≡ map class (key_indices ns q) ++ map class (value_indices ns q)
    → obj.Dictionary (pairs class ms p) ≡ obj.Dictionary (pairs class ns q)
same_pairs class ms ns p q e =
    let a = pairs _ ms p in
    let b = pairs _ ns q in
    let all : keys_of a ++ values_of a ≡ keys_of b ++ values_of b =
    (λ i. keys_are class ms p i ++ values_are class ms p i) ∙ e
    ∙ (λ i. sym (keys_are class ns q) i ++ sym (values_are class ns q) i) in
    let many : length a ≡ length b =
    omega (arith, simp (length-append, length-map) at (ap length all)) in
    sym (dictionary_is a) ∙ (λ i. dictionary (many i) (all i)) ∙ dictionary_is b

same_halves : (f g : ℕ → ℕ) (ms : Members) (p q : ℕ) → pairs f ms p ≡ pairs g ms q
    → map f (key_indices ms p) ++ map f (value_indices ms p)
    ≡ map g (key_indices ms q) ++ map g (value_indices ms q)
same_halves f g ms p q e = λ i.
    (sym (keys_are f ms p) ∙ ap keys_of e ∙ keys_are g ms q) i
    ++ (sym (values_are f ms p) ∙ ap values_of e ∙ values_are g ms q) i

-- ---- all indices have their classes

module _ {held : EventTable} {found : ClassList} {nodes : List Node} {from : ℕ}
    (bound : found.bound ≡ length (scalars_of held)) (given : AreClassesFrom held found nodes from)
    (start : from ≡ 0) (long : HasEachCollection found held) where
  abbrev es : List PlainEvent
  es = plain_events held

  abbrev class : ℕ → ℕ
  class = listed_class found held

  abbrev of_collection : ℕ → ℕ
  of_collection = slice_index found.by_collection

  all : (t : Tree) (p : ℕ) → OccursAt es t p → IsClass found.bound nodes (node_at class t p) (class p)
  all t p s = given.each p (omega arith) t s

  -- the class of a scalar is below the bound
  low : (t : Tree) (p : ℕ) → OccursAt es t p → node_at class t p ≡ None → class p < found.bound
  low (Leaf x) p s e = omega (arith, bound, leaf_below held of_collection x p s)
  low (Array ts) p s e = cc
  low (Dictionary ms) p s e = cc

  -- trees of one class have the same node, if any
  one_node : (a b : Option Node) (c d : ℕ) → IsClass found.bound nodes a c
      → IsClass found.bound nodes b d → (a ≡ None → c < found.bound)
      → (b ≡ None → d < found.bound) → c ≡ d → a ≡ b
  one_node None None c d k l f g e = refl
  one_node None (Some n) c d k l f g e = absurd (omega (arith, f refl, l.1, e))
  one_node (Some m) None c d k l f g e = absurd (omega (arith, g refl, k.1, e))
  one_node (Some m) (Some n) c d k l f g e =
      let same : k.0 ≡ l.0 = omega (arith, k.1, l.1, e) in
      sym k.2 ∙ ap (slice_get nodes) same ∙ l.2

  -- collections of one node have the same object
  node_object : (t u : Tree) (p q : ℕ) → ((x y : Scalar) → t ≡ Leaf x → u ≡ Leaf y → x ≡ y)
      → node_at class t p ≡ node_at class u q → object_of class t p ≡ object_of class u q
  node_object (Leaf x) (Leaf y) p q leaf e = ap obj.Scalar (leaf x y refl refl)
  node_object (Array ts) (Array us) p q leaf e =
      ap (λ (k : Node). obj.Array k.1) (same_Some _ _ e)
  node_object (Dictionary ms) (Dictionary ns) p q leaf e =
      same_pairs _ ms ns _ _ (ap (λ (k : Node). k.1) (same_Some _ _ e))
  node_object t u p q leaf e = let kinds = ap (option_map (λ (k : Node). k.0)) e in cc

  one_object : (t u : Tree) (p q : ℕ) → OccursAt es t p → OccursAt es u q → class p ≡ class q
      → object_of class t p ≡ object_of class u q
  one_object t u p q s r e =
      node_object t u p q (λ x y i j. (leaves_same held of_collection x y p q (rw i at s) (rw j at r)).0 e)
      (one_node _ _ _ _ (all t p s) (all u q r) (low t p s) (low u q r) e)

  found_classes : AreClasses es class
  found_classes = record { object = one_object }

  -- each class is less than the bound and the number of nodes together
  class_below : (t : Tree) (p : ℕ) → OccursAt es t p → class p < found.bound + length nodes
  class_below (Leaf x) p s = omega (arith, bound, leaf_below held of_collection x p s)
  class_below (Array ts) p s =
      let a = all (Array ts) p s in omega (arith, a.1, slice_get_within nodes a.0 _ a.2)
  class_below (Dictionary ms) p s =
      let a = all (Dictionary ms) p s in omega (arith, a.1, slice_get_within nodes a.0 _ a.2)

  -- each number below these is the class of a scalar or of a collection
  class_used : (k : ℕ) → k < found.bound + length nodes
      → (p : ℕ) × HasItem es p × (class p ≡ k)
  class_used k lt = elim (leb_tells found.bound k) [
    | inl after ↦
        let (p, le, item, is) = given.used (k - found.bound) (omega (arith, lt, after.1)) in
        (p, item, omega (arith, is, after.1))
    | inr before ↦ leaf_used held of_collection k (omega (arith, before.1, bound))
  ]

  module _ (apart : AreDistinct nodes) where
    -- indices of one node have one class
    one_class : (k l : Node) (c d : ℕ) → k ≡ l → IsClass found.bound nodes (Some k) c
        → IsClass found.bound nodes (Some l) d → c ≡ d
    one_class k l c d e a b =
        let same = apart a.0 b.0 k a.2 (cc) in
        omega arith

    mutual
      -- the indices of equal trees have the same class
      complete : (t : Tree) (p q : ℕ) → OccursAt es t p → OccursAt es t q → class p ≡ class q
      complete (Leaf x) p q s r = (leaves_same held of_collection x x p q s r).1 refl
      complete (Array ts) p q s r =
          one_class _ _ _ _
          (ap (λ l. (false, l)) (complete_items ts _ _ (occurs_items s) (occurs_items r)))
          (all (Array ts) p s) (all (Array ts) q r)
      complete (Dictionary ms) p q s r =
          let same = complete_pairs ms _ _ (occurs_pairs s) (occurs_pairs r) in
          one_class _ _ _ _ (ap (λ l. (true, l)) (same_halves _ _ ms _ _ same))
          (all (Dictionary ms) p s) (all (Dictionary ms) q r)

      complete_items : (ts : Trees) (p q : ℕ) → ItemsOccurAt es ts p → ItemsOccurAt es ts q
          → references class ts p ≡ references class ts q
      complete_items NoTrees p q s r = refl
      complete_items (TreeAnd t ts) p q s r =
          let first = complete t p q (occurs_item s) (occurs_item r) in
          let more = complete_items ts (p + event_count t) _ (occurs_next s) (occurs_next r) in
          λ i. first i ∷ more i

      complete_pairs : (ms : Members) (p q : ℕ) → PairsOccurAt es ms p → PairsOccurAt es ms q
          → pairs class ms p ≡ pairs class ms q
      complete_pairs NoMembers p q s r = refl
      complete_pairs (MemberAnd k t ms) p q s r =
          let key = (leaves_same held of_collection _ _ p q (occurs_key s) (occurs_key r)).1 refl in
          let first = complete t _ _ (occurs_value s) (occurs_value r) in
          let more = complete_pairs ms _ _ (occurs_next_pair s)
          (occurs_next_pair r) in
          λ i. (key i, first i) ∷ more i

    -- the classes separate the trees
    pub separates : IsBracketed es → SeparatesAll held
        (record { by_collection = found.by_collection; bound = found.bound + length nodes })
    separates whole = record {
      objects = found_classes;
      trees = λ t u p q s r. (
        sound found_classes t u p q s r,
        λ e. complete t p q s (rw e r),
      );
      long = long;
      below = λ p item. let t = occurs_at es whole p item in class_below t.0 p t.1;
      used = class_used;
    }

-- a collection begins at the index of a start
pub start_at : (held : EventTable) → IsBracketed (plain_events held) → (p : ℕ)
    → p < length (plain_events held)
    → (shape_of (event_at (plain_events held) p) ≡ shape.StartArray)
    ⊎ (shape_of (event_at (plain_events held) p) ≡ shape.StartDictionary)
    → (t : Tree) × IsCollectionAt (plain_events held) t p
start_at held whole p lt starts =
    let e = event_at (plain_events held) p in
    let told = is_start e starts in
    collection_at (plain_events held) whole p (lt, told.0) told.1
  where
    is_start : (e : PlainEvent) → (shape_of e ≡ shape.StartArray) ⊎ (shape_of e ≡ shape.StartDictionary)
        → (is_end e ≡ false) × (is_leaf e ≡ false)
    is_start EndCollection (inl is) = cc
    is_start EndCollection (inr is) = cc
    is_start (ScalarEvent x) (inl is) = cc
    is_start (ScalarEvent x) (inr is) = cc
    is_start e is = (refl, refl)

-- ---- the class of one more collection

-- the classes of trees after index p are the same before and after
module _ (es : List PlainEvent) (class after : ℕ → ℕ) (p : ℕ)
    (agree : (t : Tree) (q : ℕ) → OccursAt es t q → q ≢ p → after q ≡ class q) where
  items_agree : (ts : Trees) (q : ℕ) → ItemsOccurAt es ts q → p < q
      → map after (item_indices ts q) ≡ map class (item_indices ts q)
  items_agree NoTrees q s h = refl
  items_agree (TreeAnd t ts) q s h =
      let a = agree t q (occurs_item s) (λ e. omega (arith, h, e)) in
      let r = items_agree ts _ (occurs_next s) (omega (arith, h)) in λ i. a i ∷ r i

  pairs_agree : (ms : Members) (q : ℕ) → PairsOccurAt es ms q → p < q
      → pairs after ms q ≡ pairs class ms q
  pairs_agree NoMembers q s h = refl
  pairs_agree (MemberAnd k t ms) q s h =
      let a = agree _ q (occurs_key s) (λ e. omega (arith, h, e)) in
      let b = agree t _ (occurs_value s) (λ e. omega (arith, h, e)) in
      let r = pairs_agree ms _ (occurs_next_pair s) (omega (arith, h)) in
      λ i. (a i, b i) ∷ r i

  node_stays : (t : Tree) (q : ℕ) → OccursAt es t q → p ≤ q → node_at after t q ≡ node_at class t q
  node_stays (Leaf x) q s h = refl
  node_stays (Array ts) q s h =
      ap (λ l. Some (false, l)) (items_agree ts (q + 1) (occurs_items s) (omega (arith, h)))
  node_stays (Dictionary ms) q s h =
      ap (λ l. Some (true, l))
      (same_halves _ _ ms _ _ (pairs_agree ms (q + 1) (occurs_pairs s) (omega (arith, h))))

-- a class stays the same if nodes are added
class_stays : (count : ℕ) {keys new : List Node} {index : ℕ} → Extends keys index new
    → (node : Option Node) (c : ℕ) → IsClass count keys node c → IsClass count new node c
class_stays count more None c k = tt
class_stays count {keys} more (Some node) c k =
    (k.0, k.1, more.keeps k.0 (slice_get_within keys k.0 _ k.2) ∙ k.2)

module _ (es : List PlainEvent) (class : ℕ → ℕ) (count : ℕ) (keys : List Node) where
  -- the node of a tree that is said to be a dictionary or an array
  abbrev node_by : (is_dictionary : Bool) → Tree → ℕ → Node
  node_by is_dictionary t p = (is_dictionary, map class (keys_in t p) ++ map class (values_in t p))

  not_dictionary : (b : Bool) (kind : EventShape) → IsTrue b ↔ (kind ≡ shape.StartDictionary)
      → kind ≡ shape.StartArray → false ≡ b
  not_dictionary false kind tells is = refl
  not_dictionary true kind tells is = let dictionary = tells.0 refl in absurd (cc)

  -- if a collection begins at an index, its class as a collection is its class as a tree
  pub by_collection : (b : Bool) (t : Tree) (p c : ℕ) → OccursAt es t p
      → IsTrue b ↔ (shape_of (event_at es p) ≡ shape.StartDictionary)
      → IsClass count keys (Some (node_by b t p)) c → IsClass count keys (node_at class t p) c
  by_collection b (Leaf x) p c s tells h = tt
  by_collection b (Array ts) p c s tells h =
      subst (λ d. IsClass count keys (Some (node_by d (Array ts) p)) c)
      (sym (not_dictionary b _ tells (ap shape_of (starts_array s)))) h
  by_collection b (Dictionary ms) p c s tells h =
      subst (λ d. IsClass count keys (Some (node_by d (Dictionary ms) p)) c)
      (tells.1 (ap shape_of (starts_dictionary s))) h

-- the class of the collection at index p is set
module _ (held : EventTable) (found : ClassList) (p c : ℕ) (u : Tree)
    (at : IsCollectionAt (plain_events held) u p) (long : HasEachCollection found held) where
  abbrev events : List PlainEvent
  events = plain_events held

  abbrev number : ℕ
  number = collection_number held p

  abbrev set_list : ClassList
  set_list = record { by_collection = set found.by_collection number c; bound = found.bound }

  here : listed_class set_list held p ≡ c
  here = collection_class held (slice_index set_list.by_collection) u p at
      ∙ get_or-set_same found.by_collection number c 0
      (omega (arith, number_below held u p at, long))

  other : (t : Tree) (q : ℕ) → IsCollectionAt events t q → q ≢ p
      → listed_class set_list held q ≡ listed_class found held q
  other t q s n =
      collection_class held (slice_index set_list.by_collection) t q s
      ∙ get_or-set_other found.by_collection number (collection_number held q) c 0
      (λ e. n (numbers_apart held t u q p s at e))
      ∙ sym (collection_class held (slice_index found.by_collection) t q s)

  agree : (t : Tree) (q : ℕ) → OccursAt events t q → q ≢ p
      → listed_class set_list held q ≡ listed_class found held q
  agree (Leaf x) q s n =
      leaf_any held (slice_index set_list.by_collection) (slice_index found.by_collection) x q s
  agree (Array ts) q s n = other _ q (array_at s) n
  agree (Dictionary ms) q s n = other _ q (dictionary_at s) n

  pub collection_written : (keys new : List Node) → IsBracketed events
      → AreClassesFrom held found keys (p + 1) → found.bound ≤ c
      → Extends keys (c - found.bound) new → IsClassAt held found new p c
      → AreClassesFrom held set_list new p
  collection_written keys new whole old above more this = record {
    each = λ q le t s.
        let class = listed_class found held in
        let after = listed_class set_list held in
        rw (node_stays events class after p agree t q s le) (elim (eqb_tells q p) [
          | inl e ↦ rw (e.1, here) (this t (rw e.1 at s))
          | inr n ↦ rw (agree t q s n.1)
              (class_stays found.bound more _ _ (old.each q (omega (arith, le, n.1)) t s))
        ]);
    used = λ i lt. elim (eqb_tells i (c - found.bound)) [
      | inl e ↦ (
        p,
        omega arith,
        (occurs_in at.occurs, begins u p at.occurs),
        omega (arith, here, above, e.1),
      )
      | inr n ↦
          let (q, le, item, is) = old.used i (more.only i lt n.1) in
          let t = occurs_at events whole q item in
          (q, omega (arith, le), item, agree t.0 q t.1 (λ same. omega (arith, same, le)) ∙ is)
    ];
  }

-- if no collection begins at an index, nothing is missing
pub none_written : (held : EventTable) (found : ClassList) (keys : List Node) (p : ℕ)
    → shape_of (event_at (plain_events held) p) ≢ shape.StartArray
    → shape_of (event_at (plain_events held) p) ≢ shape.StartDictionary
    → AreClassesFrom held found keys (p + 1) → AreClassesFrom held found keys p
none_written held found keys p a d old = record {
  each = λ q le t s. elim (eqb_tells q p) [
    | inl e ↦ rw e.1 (none t (rw e.1 at s))
    | inr n ↦ old.each q (omega (arith, le, n.1)) t s
  ];
  used = λ i lt. let (q, le, item, is) = old.used i lt in (q, omega (arith, le), item, is);
}
  where
    none : IsClassAt held found keys p (listed_class found held p)
    none (Leaf x) s = tt
    none (Array ts) s = absurd (a (ap shape_of (starts_array s)))
    none (Dictionary ms) s = absurd (d (ap shape_of (starts_dictionary s)))
