-- The objects of trees by their indices: what they unfold to, their forms, their sizes, and that they
-- can be written.
use Rattle.std.proofs.Common.{◌≡◌, ◌⊎◌, ℕ, suc, ◌+◌, ◌-◌, ◌<◌, ◌≤◌, true, false, eqb, List, [], ◌∷◌, ◌++◌, length, map, zip, Some, Ok, refl, ap, sym, arith, length-append, inl, inr, ◌*◌, ◌^◌, flat_map, subst, ◌∙◌}
use Rattle.std.specs.List.{list_any, flat_map, slice_get, AllByRecursion}
use Rattle.std.proofs.lemmas.Bool.{ne_eqb}
use Rattle.std.proofs.lemmas.Grind.{flat_map-append}
use Rattle.std.proofs.lemmas.List.{map-append, length-map}
use Rattle.std.proofs.lemmas.Option.{slice_get_within}
use Rattle.std.specs.Map.{keys_of, values_of}
use Rattle.plist_base.proofs.Paths.{IsPath, path_none, path_push, path_fuel}
use Rattle.plist_base.specs.Bracketing.{bracketing, bracketing_of_items, bracketing_of_pairs, lengthless, lengthless_items, lengthless_pairs}
use Rattle.plist_base.specs.Events.{PlainEvent, Item, EndCollection, ScalarEvent, shape_of}
use Rattle.plist_base.specs.Trees as trees
use Rattle.plist_base.specs.Trees.{number_of_trees, number_of_members, Tree, Leaf, Array, Dictionary, Trees, NoTrees, TreeAnd, Members, NoMembers, MemberAnd, Scalar, String}
use Rattle.plist_base.specs.Object.{children_of}
use Rattle.plist_base.specs.Unfolding.{TableEntry, items_of, until_fault, unfolding_of, visits_within, visits_of}
use Rattle.plist_binwrite.specs.Sizes.{collection_of, object_size}
use Rattle.plist_buffer.specs.EventTable.{item_indices, key_indices, value_indices, HasItem, is_end, event_at}
use Rattle.plist_buffer.specs.Occurrences.{event_count, OccursAt, positions, positions_in_items, positions_in_pairs}
use Rattle.plist_buffer.proofs.TreeOccurrences.{ItemsOccurAt, PairsOccurAt, occurs_items, occurs_pairs, occurs_item, occurs_next, occurs_key, occurs_value, occurs_next_pair}
use Rattle.plist_binwrite.specs.Classes.{object_of, events_in}
use Rattle.plist_buffer.proofs.Uniques.{all_from}
use Rattle.plist_base.specs.declared.marker.CountedKind.TheVariants as kind
use Rattle.plist_base.specs.declared.event.EventShape.{EventShape}
use Rattle.plist_base.specs.declared.event.EventShape.TheVariants as shape
use Rattle.plist_base.specs.Utf16.{units_of}
use Rattle.plist_buffer.specs.inner.LongContents.{is_ascii_text}
use Rattle.plist_binwrite.specs.Forms.{length_form, scalar_form, form, IsWritable, IsWritableScalar, AllFit}
use Rattle.std.specs.Int.{bytes_high_first}
use Rattle.plist_buffer.specs.Children.{half_of}
use Rattle.plist_buffer.specs.declared.children.Half.TheVariants.{Values}
use Rattle.plist_binwrite.specs.declared.plan.FilePlan.{FilePlan}
use Rattle.plist_binwrite.specs.inner.Layout.{collection_form, number_of_event}
use Rattle.plist_buffer.proofs.TreeStarts.{stands_single, starts_array, starts_dictionary, begins, occurs_in}
use Rattle.plist_buffer.proofs.ChildIndices.{few_children, keys_are_in, values_are_in}
use Rattle.plist_binwrite.proofs.Reading.{length-table}

-- the object numbers of the items, the first of which begins at index q
abbrev pub references : (num : ℕ → ℕ) → Trees → ℕ → List ℕ
references num ts q = map num (item_indices ts q)

-- the object numbers of the keys and values of the pairs, the first of which begins at index q
abbrev pub pairs : (num : ℕ → ℕ) → Members → ℕ → List (ℕ × ℕ)
pairs num ms q = zip (map num (key_indices ms q)) (map num (value_indices ms q))

pub length-references : (num : ℕ → ℕ) (ts : Trees) (q : ℕ) → length (references num ts q)
    ≡ number_of_trees ts
length-references num NoTrees q = refl
length-references num (TreeAnd t ts) q = omega (arith, length-references num ts (q + event_count t))

pub length-pairs : (num : ℕ → ℕ) (ms : Members) (q : ℕ)
    → length (pairs num ms q) ≡ number_of_members ms
length-pairs num NoMembers q = refl
length-pairs num (MemberAnd k t ms) q = omega (arith, length-pairs num ms (q + 1 + event_count t))

-- ---- the view of some trees: their events, and the numbers of their collections

module _ (num : ℕ → ℕ) where
  abbrev numbers : List (ℕ × Tree) → List ℕ
  numbers ones = map (λ one. num one.0) (flat_map collection_of ones)

  pub record Shows (shown : List Item) (entered : List ℕ) (es : List PlainEvent)
      (ones : List (ℕ × Tree)) : Type 0 where
    pub items : shown ≡ map Ok es
    pub visits : entered ≡ numbers ones

  shows_both : {i j : List Item} {v w : List ℕ} {a b : List PlainEvent} {x y : List (ℕ × Tree)}
      → Shows i v a x → Shows j w b y → Shows (i ++ j) (v ++ w) (a ++ b) (x ++ y)
  shows_both {a} {b} {x} {y} s t = record {
    items = rw (s.items, t.items) (sym (map-append Ok a b));
    visits =
        rw (
          s.visits,
          t.visits,
          flat_map-append collection_of x y,
          map-append (λ one. num one.0) (flat_map collection_of x) (flat_map collection_of y),
        ) refl;
  }

  -- a collection's view is that of its contents, between its start and its end
  shows_within : {i : List Item} {v : List ℕ} {es : List PlainEvent} {ones : List (ℕ × Tree)}
      (start : PlainEvent) (one : ℕ × Tree) → collection_of one ≡ one ∷ [] → Shows i v es ones
      → Shows (Ok start ∷ (i ++ Ok EndCollection ∷ [])) (num one.0 ∷ v)
      (start ∷ (es ++ EndCollection ∷ [])) (one ∷ ones)
  shows_within {es} start one is s = record {
    items = rw s.items (ap (λ l. Ok start ∷ l) (sym (map-append Ok es (EndCollection ∷ []))));
    visits = rw (s.visits, is) refl;
  }

module _ (table : List TableEntry) (es : List PlainEvent) (num rank : ℕ → ℕ)
    (ranked : (t : Tree) (p : ℕ) → OccursAt es t p → rank (num p) ≡ event_count t)
    (holds : (t : Tree) (p : ℕ) → OccursAt es t p
    → (place : ℕ) × (slice_get table (num p) ≡ Some (record {
      place = place;
      object = object_of num t p;
    }))) where
  -- what an object unfolds to while those on the path are open, and which numbers are entered
  abbrev items_in : List ℕ → ℕ → ℕ → List Item
  items_in path at i = unfolding_of table (length table - length path) path at i

  abbrev visits_in : List ℕ → ℕ → List ℕ
  visits_in path i = visits_of table (length table - length path) path i

  abbrev ShowsTree : List ℕ → ℕ → Tree → ℕ → Type 0
  ShowsTree path at t p =
      Shows num (items_in path at (num p)) (visits_in path (num p)) (bracketing t) (positions t p)

  abbrev ShowsAll : List ℕ → ℕ → List ℕ → List PlainEvent → List (ℕ × Tree) → Type 0
  ShowsAll path at is events ones =
      Shows num (flat_map (items_in path at) is) (flat_map (visits_in path) is) events ones

  -- the open objects are those of trees of at least m events
  record Path (m : ℕ) (path : List ℕ) : Type 0 where
    is : IsPath (length table) path
    above : AllByRecursion (λ x. m ≤ rank x) path

  -- an object of a tree of fewer events isn't open
  not_on_path : (m i : ℕ) (path : List ℕ) → rank i < m → AllByRecursion (λ x. m ≤ rank x) path
      → list_any (eqb i) path ≡ false
  not_on_path m i [] h a = refl
  not_on_path m i (x ∷ path) h a =
      rw (ne_eqb i x (λ e. let k = ap rank e in omega (arith, a.0)))
      (not_on_path m i path h a.1)

  -- the object of a tree is entered, and its view is that of its contents
  entered : (t : Tree) (p at : ℕ) {m : ℕ} {path : List ℕ} → OccursAt es t p → event_count t < m
      → Path m path
      → ((place : ℕ) → Path (event_count t) (num p ∷ path) → Shows num
      (items_of place (object_of num t p) (items_in (num p ∷ path) place))
      (visits_within (num p) (object_of num t p) (visits_in (num p ∷ path)))
      (bracketing t) (positions t p)) → ShowsTree path at t p
  unfolding unfolding_of visits_of
  entered t p at {m} {path} s h o shows =
      let found = holds t p s in
      let not_open = not_on_path m (num p) path (omega (arith, ranked t p s)) o.above in
      let path_in = path_push (num p) o.is (slice_get_within table (num p) _ found.1) not_open in
      let all = all_from (λ x. event_count t ≤ rank x) (λ x. m ≤ rank x) (λ x l. omega arith) _ o.above in
      let fuel = path_fuel path_in in
      let e : length table - length path ≡ suc (length table - length (num p ∷ path)) = omega
      arith in
      rw (e, found.1, not_open)
      (shows found.0 (record { is = path_in; above = (omega (arith, ranked t p s), all) }))

  leaf : (x : trees.Scalar) (p at : ℕ) {m : ℕ} {path : List ℕ} → OccursAt es (Leaf x) p → 1 < m
      → Path m path → ShowsTree path at (Leaf x) p
  leaf x p at s h o = entered (Leaf x) p at s h o (λ _ _. record { items = refl; visits = refl })

  mutual
    unfolds : (t : Tree) (p at : ℕ) {m : ℕ} {path : List ℕ} → OccursAt es t p → event_count t < m
        → Path m path → ShowsTree path at t p
    unfolds (Leaf x) p at s h o = leaf x p at s h o
    unfolds (Array ts) p at s h o =
        entered (Array ts) p at s h o (λ place inside. rw (length-references num ts (p + 1))
        (shows_within num _ _ refl (unfolds_items ts (p + 1) place (occurs_items s)
        (omega (arith, length-append {A = PlainEvent})) inside)))
    unfolds (Dictionary ms) p at s h o =
        entered (Dictionary ms) p at s h o (λ place inside. rw (length-pairs num ms (p + 1))
        (shows_within num _ _ refl (unfolds_pairs ms (p + 1) place (occurs_pairs s)
        (omega (arith, length-append {A = PlainEvent})) inside)))

    unfolds_items : (ts : Trees) (q at : ℕ) {m : ℕ} {path : List ℕ} → ItemsOccurAt es ts q
        → length (lengthless_items ts) < m → Path m path
        → ShowsAll path at (references num ts q) (bracketing_of_items ts) (positions_in_items ts q)
    unfolds_items NoTrees q at s h o = record { items = refl; visits = refl }
    unfolds_items (TreeAnd t ts) q at s h o =
        let long = length-append (lengthless t) (lengthless_items ts) in
        shows_both num (unfolds t q at (occurs_item s) (omega arith) o)
        (unfolds_items ts (q + event_count t) at (occurs_next s) (omega arith) o)

    unfolds_pairs : (ms : Members) (q at : ℕ) {m : ℕ} {path : List ℕ} → PairsOccurAt es ms q
        → length (lengthless_pairs ms) < m → Path m path
        → ShowsAll path at (children_of (pairs num ms q)) (bracketing_of_pairs ms)
        (positions_in_pairs ms q)
    unfolds_pairs NoMembers q at s h o = record { items = refl; visits = refl }
    unfolds_pairs (MemberAnd k t ms) q at s h o =
        let long = length-append (lengthless t) (lengthless_pairs ms) in
        shows_both num (leaf (trees.String k) q at (occurs_key s) (omega arith) o)
        (shows_both num (unfolds t (q + 1) at (occurs_value s) (omega arith) o)
        (unfolds_pairs ms (q + 1 + event_count t) at (occurs_next_pair s) (omega arith) o))

  pub unfolds_whole : (t : Tree) (at : ℕ) → OccursAt es t 0 → ShowsTree [] at t 0
  unfolds_whole t at s =
      unfolds t 0 at {m = suc (event_count t)} s (omega arith)
      (record { is = path_none (length table); above = tt })

pub no_fault : (es : List PlainEvent) → until_fault (map Ok es) ≡ map Ok es
no_fault [] = refl
no_fault (e ∷ es) = ap (λ l. Ok e ∷ l) (no_fault es)

-- ---- the forms of objects

-- ---- the children of a tree

length-items : (ts : Trees) (q : ℕ) → length (item_indices ts q) ≡ number_of_trees ts
length-items NoTrees q = refl
length-items (TreeAnd t ts) q = omega (arith, length-items ts (q + event_count t))

length-values : (ms : Members) (q : ℕ) → length (value_indices ms q) ≡ number_of_members ms
length-values NoMembers q = refl
length-values (MemberAnd k t ms) q = omega (arith, length-values ms (q + 1 + event_count t))

module _ {es : List PlainEvent} {p : ℕ} where
  pub count_items : {ts : Trees} → OccursAt es (Array ts) p
      → length (half_of es Values p) ≡ number_of_trees ts
  count_items {ts} s = ap length (values_are_in es (Array ts) p s) ∙ length-items ts (p + 1)

  pub count_pairs : {ms : Members} → OccursAt es (Dictionary ms) p
      → length (half_of es Values p) ≡ number_of_members ms
  count_pairs {ms} s = ap length (values_are_in es (Dictionary ms) p s) ∙ length-values ms (p + 1)

-- ---- references fit

-- each event other than an end has a number below the count
abbrev pub AllNumbered : List PlainEvent → (number : ℕ → ℕ) → (count : ℕ) → Type 0
AllNumbered es number count = (p : ℕ) → HasItem es p → number p < count

module _ (es : List PlainEvent) (number : ℕ → ℕ) (count w : ℕ)
    (all : AllNumbered es number count) (wide : count ≤ 256 ^ w) where
  number_fits : (t : Tree) (p : ℕ) → OccursAt es t p → number p < 256 ^ w
  number_fits t p s =
      omega (arith, all p (occurs_in s, begins t p s))

  refs_fit : (ts : Trees) (q : ℕ) → ItemsOccurAt es ts q
      → AllFit w (references number ts q)
  refs_fit NoTrees q s = tt
  refs_fit (TreeAnd t ts) q s =
      (number_fits t q (occurs_item s), refs_fit ts _ (occurs_next s))

  pairs_fit : (ms : Members) (q : ℕ) → PairsOccurAt es ms q
      → AllFit w (keys_of (pairs number ms q))
      × AllFit w (values_of (pairs number ms q))
  pairs_fit NoMembers q s = (tt, tt)
  pairs_fit (MemberAnd k t ms) q s =
      let more = pairs_fit ms _ (occurs_next_pair s) in (
        (number_fits _ q (occurs_key s), more.0),
        (number_fits t _ (occurs_value s), more.1),
      )

  -- an object whose children are numbered can be written
  pub object_fits : length es < 2 ^ 64 → (p : ℕ)
      → ((x : Scalar) → event_at es p ≡ ScalarEvent x → IsWritableScalar x) → (t : Tree)
      → OccursAt es t p → IsWritable w (object_of number t p)
  object_fits few p scalar (Leaf x) s = scalar x (stands_single s)
  object_fits few p scalar (Array ts) s = (
    omega (
      arith,
      few,
      few_children es Values p,
      count_items s,
      length-references number ts (p + 1),
    ),
    refs_fit ts _ (occurs_items s),
  )
  object_fits few p scalar (Dictionary ms) s =
      let fit = pairs_fit ms _ (occurs_pairs s) in (
        omega (arith, few, few_children es Values p, count_pairs s, length-pairs number ms (p + 1)),
        fit.0,
        fit.1,
      )

-- ---- by the kind of the event at an index

module _ {es : List PlainEvent} {k : EventShape} {p : ℕ} (at : k ≡ shape_of (event_at es p))
    (P : Tree → Type 0) where
  pub of_array : k ≡ shape.StartArray → ((ts : Trees) → OccursAt es (Array ts) p → P (Array ts))
      → (t : Tree) → OccursAt es t p → P t
  of_array is h (Leaf x) s = cc (ap shape_of (stands_single s))
  of_array is h (Array ts) s = h ts s
  of_array is h (Dictionary ms) s = cc (ap shape_of (starts_dictionary s))

  pub of_dictionary : k ≡ shape.StartDictionary
      → ((ms : Members) → OccursAt es (Dictionary ms) p → P (Dictionary ms)) → (t : Tree)
      → OccursAt es t p → P t
  of_dictionary is h (Leaf x) s = cc (ap shape_of (stands_single s))
  of_dictionary is h (Array ts) s = cc (ap shape_of (starts_array s))
  of_dictionary is h (Dictionary ms) s = h ms s

-- a scalar is at this index
pub of_scalar : {es : List PlainEvent} {p : ℕ} (P : Tree → Type 0) {x : Scalar}
    → event_at es p ≡ ScalarEvent x → P (Leaf x) → (t : Tree) → OccursAt es t p → P t
of_scalar P {x} is h (Leaf y) s =
    let single = stands_single s in let same : x ≡ y = cc in subst (λ x. P (Leaf x)) same h
of_scalar P is h (Array ts) s = let start = starts_array s in cc
of_scalar P is h (Dictionary ms) s = let start = starts_dictionary s in cc

-- ---- forms and sizes

module _ (num : ℕ → ℕ) where
  pub keys_are : (ms : Members) (q : ℕ) → keys_of (pairs num ms q) ≡ map num (key_indices ms q)
  keys_are NoMembers q = refl
  keys_are (MemberAnd k t ms) q = ap (λ l. num q ∷ l) (keys_are ms _)

  pub values_are : (ms : Members) (q : ℕ)
      → values_of (pairs num ms q) ≡ map num (value_indices ms q)
  values_are NoMembers q = refl
  values_are (MemberAnd k t ms) q = ap (λ l. num (q + 1) ∷ l) (values_are ms _)

-- the bytes of a collection are those of its object
module _ (plan : FilePlan) where
  abbrev es : List PlainEvent
  es = events_in plan.given

  abbrev num : ℕ → ℕ
  num = number_of_event plan

  -- the bytes of the object of a tree that begins at an index
  abbrev tree_form : Tree → (index : ℕ) → List ℕ
  tree_form tree index = form plan.width (object_of num tree index)

  pub array_is : {p : ℕ} {ts : Trees} → OccursAt es (Array ts) p
      → collection_form plan kind.Array p ≡ tree_form (Array ts) p
  array_is {p} {ts} s =
      rw (keys_are_in es _ p s, values_are_in es _ p s, length-map _ num) refl

  pub dictionary_is : {p : ℕ} {ms : Members} → OccursAt es (Dictionary ms) p
      → collection_form plan kind.Dictionary p ≡ tree_form (Dictionary ms) p
  dictionary_is {p} {ms} s =
      rw (keys_are_in es _ p s, values_are_in es _ p s, keys_are num ms _, values_are num ms _)
      (rw (length-values ms _, length-pairs num ms _) refl)

-- an object's form has its size
pub form_size : (w : ℕ) (num : ℕ → ℕ) (t : Tree) (p : ℕ)
    → length (form w (object_of num t p)) ≡ object_size w t
form_size w num (Leaf x) p = omega arith
form_size w num (Array ts) p = simp (length-append, length-table, length-references)
form_size w num (Dictionary ms) p =
    simp (length-append, length-table, length-map, length-pairs) (grind arith)

pub wide_length : (text : List ℕ) → is_ascii_text text ≡ false
    → length (length_form kind.WideText (length (units_of text))) + length (units_of text) * 2
    ≡ length (scalar_form (String text))
wide_length text wide =
    let head = length-append (length_form kind.WideText (length (units_of text)))
    (flat_map (bytes_high_first 2) (units_of text)) in
    rw (wide) (omega (arith, head, length-table 2 (units_of text)))

-- an index at which a tree begins isn't one at which none does
pub items_apart : (es : List PlainEvent) {p k : ℕ} → HasItem es p
    → (is_end (event_at es k) ≡ true) ⊎ (length es ≤ k) → p ≡ k → ⊥
items_apart es item (inl end) same = cc (item.1, end, ap (λ q. is_end (event_at es q)) same)
items_apart es item (inr past) same = omega (arith, item.0, past, same)
