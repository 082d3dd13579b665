-- The children of a collection: how a walk finds them, and which they are in a tree.
use Rattle.std.proofs.Common.{◌≡◌, ℕ, zero, suc, ◌+◌, ◌^◌, ◌<◌, ◌≤◌, Bool, true, false, if◌then◌else◌, List, [], ◌∷◌, length, drop, refl, ap, sym, ◌∙◌, arith, rules}
use Rattle.std.specs.List.{AllByRecursion}
use Rattle.std.proofs.lemmas.List.{get_or_past}
use Rattle.plist_base.specs.Events.{PlainEvent, EndCollection}
use Rattle.plist_base.specs.Trees.{Tree, Leaf, Array, Dictionary, Trees, NoTrees, TreeAnd, Members, NoMembers, MemberAnd}
use Rattle.plist_buffer.specs.Children.{child_at, last_at, children_within, children_from, children_after, half_of}
use Rattle.plist_buffer.specs.EventTable.{HasItem, is_end, event_at, item_indices, key_indices, lists_in, plain_events, value_indices}
use Rattle.plist_buffer.specs.Occurrences.{event_count, OccursAt}
use Rattle.plist_buffer.proofs.TreeOccurrences.{ItemsOccurAt, PairsOccurAt, keys_in, values_in, occurs_items, occurs_pairs, occurs_item, occurs_next, occurs_key, occurs_value, occurs_next_pair}
use Rattle.plist_buffer.specs.declared.children.Child.{Child}
use Rattle.plist_buffer.specs.declared.children.Child.TheVariants.{Item, Key, Value}
use Rattle.plist_buffer.specs.declared.children.Half.{Half}
use Rattle.plist_buffer.specs.declared.children.Half.TheVariants.{Keys, Values}
use Rattle.plist_buffer.specs.declared.event_table.EventTable.{EventTable}
use Rattle.plist_buffer.specs.inner.UnclosedStarts.{skip_after}
use Rattle.plist_buffer.proofs.EntryEvents.{long_shown}
use Rattle.plist_buffer.proofs.OpenStarts.{skip_ends, skip_forward}
use Rattle.plist_buffer.proofs.TreeStarts.{begins, first_event, stands_single, starts_array, starts_dictionary}

-- an index past all events counts as that of an end
past_end : (es : List PlainEvent) (q : ℕ) → length es ≤ q → is_end (event_at es q) ≡ true
past_end es q h = ap is_end (get_or_past es q EndCollection h)

pub item_within : (es : List PlainEvent) (q : ℕ) → is_end (event_at es q) ≡ false → q < length es
item_within es q h = grind (arith, past_end es q)

last_after : (child : Child) (q : ℕ) → q ≤ last_at child q
last_after child q = search rules

-- the two lists are equal if both are empty, or if what follows their first item is equal
unless : (b c : Bool) (x : ℕ) (u v : List ℕ) → (b ≡ false → c ≡ false → u ≡ v)
    → (if b then [] else (if c then [] else x ∷ u)) ≡ (if b then [] else (if c then [] else x ∷ v))
unless b c x u v h = search rules

module _ (child : Child) (es : List PlainEvent) where
  onward : (q : ℕ) → is_end (event_at es (last_at child q)) ≡ false
      → q < skip_after es (last_at child q)
  onward q h =
      omega (arith, last_after child q, (skip_forward es _ (item_within es _ h)).0)

  none_past : (most q : ℕ) → length es ≤ q → children_within (suc most) child es q ≡ []
  none_past most q h = rw (past_end es q h) refl

  -- every bound that is large enough yields the same children
  enough : (m n q : ℕ) → length es ≤ m + q → length es ≤ n + q
      → children_within m child es q ≡ children_within n child es q
  enough zero zero q a b = refl
  enough zero (suc n) q a b = sym (none_past n q (omega (arith, a)))
  enough (suc m) zero q a b = none_past m q (omega (arith, b))
  enough (suc m) (suc n) q a b =
      unless _ _ _ _ _ (λ e f. enough m n (skip_after es (last_at child q))
      (omega (arith, a, onward q f)) (omega (arith, b, onward q f)))

  -- at an end, no child is left
  pub none_left : (q : ℕ) → is_end (event_at es q) ≡ true → children_from child es q ≡ []
  none_left q h =
      enough (length es) (suc (length es)) q (omega arith) (omega arith) ∙ rw h refl

  -- otherwise the next child precedes those that are left after it
  pub one_left : (q : ℕ) → is_end (event_at es q) ≡ false
      → is_end (event_at es (last_at child q)) ≡ false
      → children_from child es q
      ≡ child_at child q ∷ children_from child es (skip_after es (last_at child q))
  one_left q e f =
      enough (length es) (suc (length es)) q (omega arith) (omega arith) ∙ rw (e, f) refl

-- a child isn't an end
child_is : (child : Child) (es : List PlainEvent) (q : ℕ) → is_end (event_at es q) ≡ false
    → is_end (event_at es (last_at child q)) ≡ false
    → is_end (event_at es (child_at child q)) ≡ false
child_is child es q e f = search rules

module _ (es : List PlainEvent) where
  -- what is true of no children, and of one and those after it, is true of those that are found
  found : (b c : Bool) (x : ℕ) (l : List ℕ) (P : List ℕ → Type 0) → P []
      → (b ≡ false → c ≡ false → P (x ∷ l)) → P (if b then [] else (if c then [] else x ∷ l))
  found b c x l P none some = search (rules, none, some)

  items_within : (most : ℕ) (child : Child) (q : ℕ)
      → AllByRecursion (HasItem es) (children_within most child es q)
  items_within zero child q = tt
  items_within (suc most) child q =
      found _ _ _ _ (AllByRecursion (HasItem es)) tt (λ e f. let i = child_is child es q e f in
      ((item_within es _ i, i), items_within most child (skip_after es (last_at child q))))

  few_within : (most : ℕ) (child : Child) (q : ℕ)
      → length (children_within most child es q) ≤ most
  few_within zero child q = omega arith
  few_within (suc most) child q =
      found _ _ _ _ (λ l. length l ≤ suc most) (omega arith)
      (λ e f. omega (arith, few_within most child (skip_after es (last_at child q))))

  -- what is true of no children and of those of a collection is true of any children
  any_children : (P : List ℕ → Type 0) → P []
      → ((child : Child) (q : ℕ) → P (children_from child es q)) → (half : Half) (index : ℕ)
      → P (half_of es half index)
  any_children P none some half index = by (event_at es index) half (index + 1)
    where
      by : (event : PlainEvent) (half : Half) (q : ℕ) → P (children_after event half es q)
      by event half q = search (rules, none, some)

  -- there are at most as many children as events, and each is an item
  pub few_children : (half : Half) (index : ℕ) → length (half_of es half index) ≤ length es
  few_children =
      any_children (λ l. length l ≤ length es) (omega arith) (few_within (length es))

  pub are_items : (half : Half) (index : ℕ)
      → AllByRecursion (HasItem es) (half_of es half index)
  are_items = any_children (AllByRecursion (HasItem es)) tt (items_within (length es))

  -- ---- the children of a tree

  no_item : (child : Child) (q : ℕ) {rest : List PlainEvent} → drop q es ≡ EndCollection ∷ rest
      → children_from child es q ≡ []
  no_item child q {rest} e =
      none_left child es q (ap is_end (first_event es q EndCollection rest e))

  items_left : (ts : Trees) (q : ℕ) → ItemsOccurAt es ts q
      → children_from Item es q ≡ item_indices ts q
  items_left NoTrees q s = no_item Item q s.is
  items_left (TreeAnd t ts) q s =
      let here = begins t q (occurs_item s) in
      one_left Item es q here here
      ∙ ap (λ l. q ∷ l) (ap (children_from Item es) (skip_ends es t q (occurs_item s))
      ∙ items_left ts (q + event_count t) (occurs_next s))

  keys_left : (ms : Members) (q : ℕ) → PairsOccurAt es ms q
      → children_from Key es q ≡ key_indices ms q
  keys_left NoMembers q s = no_item Key q s.is
  keys_left (MemberAnd k t ms) q s =
      one_left Key es q (begins _ q (occurs_key s)) (begins t (q + 1) (occurs_value s))
      ∙ ap (λ l. q ∷ l) (ap (children_from Key es) (skip_ends es t (q + 1) (occurs_value s))
      ∙ keys_left ms (q + 1 + event_count t) (occurs_next_pair s))

  values_left : (ms : Members) (q : ℕ) → PairsOccurAt es ms q
      → children_from Value es q ≡ value_indices ms q
  values_left NoMembers q s = no_item Value q s.is
  values_left (MemberAnd k t ms) q s =
      one_left Value es q (begins _ q (occurs_key s)) (begins t (q + 1) (occurs_value s))
      ∙ ap (λ l. (q + 1) ∷ l) (ap (children_from Value es) (skip_ends es t (q + 1) (occurs_value s))
      ∙ values_left ms (q + 1 + event_count t) (occurs_next_pair s))

  pub keys_are_in : (t : Tree) (p : ℕ) → OccursAt es t p → half_of es Keys p ≡ keys_in t p
  keys_are_in (Leaf x) p s = rw (stands_single s) refl
  keys_are_in (Array ts) p s = rw (starts_array s) refl
  keys_are_in (Dictionary ms) p s =
      ap (λ e. children_after e Keys es (p + 1)) (starts_dictionary s)
      ∙ keys_left ms (p + 1) (occurs_pairs s)

  pub values_are_in : (t : Tree) (p : ℕ) → OccursAt es t p
      → half_of es Values p ≡ values_in t p
  values_are_in (Leaf x) p s = rw (stands_single s) refl
  values_are_in (Array ts) p s =
      ap (λ e. children_after e Values es (p + 1)) (starts_array s)
      ∙ items_left ts (p + 1) (occurs_items s)
  values_are_in (Dictionary ms) p s =
      ap (λ e. children_after e Values es (p + 1)) (starts_dictionary s)
      ∙ values_left ms (p + 1) (occurs_pairs s)

-- a half of the children in a table has less than 2^63 indices
pub few_in_table : (held : EventTable) (half : Half) (index : ℕ)
    → length (half_of (plain_events held) half index) < 2 ^ 63
few_in_table held half index =
    let long = long_shown (lists_in held) held.entries in
    omega (arith, few_children (plain_events held) half index, long, held.few)
