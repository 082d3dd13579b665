-- Stamps on the keys of a dictionary: a key with the dictionary's stamp has occurred in it before.
use Rattle.std.proofs.Common.{◌≡◌, ◌≢◌, inl, inr, ℕ, ◌+◌, ◌<◌, true, false, Some, List, [], ◌∷◌, length, get_or, set, refl, ap, sym, ◌∙◌, subst, arith, rules}
use Rattle.std.specs.List.{AllByRecursion}
use Rattle.std.specs.Prelude.{◌↔◌, slice_get, ⊤}
use Rattle.std.proofs.lemmas.Bool.Decides.{eqb_tells}
use Rattle.std.proofs.lemmas.List.{get_or-set_same, get_or-set_other}
use Rattle.std.proofs.lemmas.List.Elements.{All-get_or, All-set, All-from_get_or}
use Rattle.std.proofs.lemmas.Option.{slice_get_within, same_Some}
use Rattle.plist_base.specs.Bracketing.{lengthless}
use Rattle.plist_base.specs.Events.{PlainEvent, ScalarEvent, shape_of}
use Rattle.plist_base.specs.Trees.{String, Tree, Leaf, Array, Dictionary, Trees, NoTrees, TreeAnd, Members, NoMembers, MemberAnd}
use Rattle.plist_base.specs.declared.event.EventShape.TheVariants as shape
use Rattle.plist_buffer.specs.EventTable.{AllBelow, event_at, is_end, key_indices}
use Rattle.plist_buffer.specs.inner.Entries.{AreDistinct, is_leaf}
use Rattle.plist_buffer.specs.RepeatedKeys.{Lacks, HasDistinctKeys, HasKeysOnce, ItemsHaveKeysOnce, ValuesHaveKeysOnce}
use Rattle.plist_buffer.specs.Occurrences.{event_count, OccursAt, positions, positions_in_items, positions_in_pairs}
use Rattle.plist_buffer.proofs.TreeOccurrences.{ItemsOccurAt, PairsOccurAt, occurs_whole, occurs_items, occurs_pairs, occurs_item, occurs_next, occurs_key, occurs_value, occurs_next_pair}
use Rattle.plist_buffer.proofs.TreePositions.{positions_all}
use Rattle.plist_buffer.proofs.TreeStarts.{stands_single, starts_array}
use Rattle.plist_buffer.proofs.Uniques.{all_both}

-- ---- one dictionary, by the events of its keys

-- no key is this event
abbrev pub LacksEvent : List PlainEvent → PlainEvent → (keys : List ℕ) → Type 0
LacksEvent es e keys = AllByRecursion (λ k. e ≢ event_at es k) keys

-- the keys differ
abbrev pub Differ : List PlainEvent → (keys : List ℕ) → Type 0
Differ es [] = ⊤
Differ es (k ∷ keys) = LacksEvent es (event_at es k) keys × Differ es keys

-- the event has the stamp
abbrev pub IsStamped : (scalars : List PlainEvent) (mark : ℕ) (stamps : List ℕ) → PlainEvent
    → Type 0
IsStamped scalars mark stamps e =
    (s : ℕ) × (slice_get scalars s ≡ Some e) × (get_or stamps s 0 ≡ mark)

-- no key has the stamp
abbrev pub AreFresh : (scalars : List PlainEvent) (mark : ℕ) (stamps : List ℕ) → List PlainEvent
    → (keys : List ℕ) → Type 0
AreFresh scalars mark stamps es keys =
    (e : PlainEvent) → IsStamped scalars mark stamps e → LacksEvent es e keys

-- the keys that are left decide whether all keys differ
pub record Tells (scalars : List PlainEvent) (mark : ℕ) (stamps : List ℕ) (es : List PlainEvent)
    (all left : List ℕ) : Type 0 where
  pub down : Differ es all → Differ es left × AreFresh scalars mark stamps es left
  pub up : Differ es left × AreFresh scalars mark stamps es left → Differ es all

module _ {scalars : List PlainEvent} {mark : ℕ} {es : List PlainEvent} {stamps : List ℕ} where
  pub tells_start : (start : ℕ) → mark ≡ start + 1 → length stamps ≡ length scalars
      → AllBelow (start + 1) stamps → (keys : List ℕ) → Tells scalars mark stamps es keys keys
  tells_start start is long older keys = record {
    down = λ d. (
      d,
      λ e (s, at, m).
          absurd (grind (arith, slice_get_within scalars s _ at, older s)),
    );
    up = λ d. d.0;
  }

  module _ {all : List ℕ} where
    pub tells_end : Tells scalars mark stamps es all [] → Differ es all
    tells_end w = w.up (tt, λ e stamped. tt)

    module _ {key : ℕ} {left : List ℕ} (w : Tells scalars mark stamps es all (key ∷ left)) (s : ℕ)
        (apart : AreDistinct scalars) (here : slice_get scalars s ≡ Some (event_at es key)) where
      -- a key that has the stamp occurred before
      pub tells_repeats : get_or stamps s 0 ≡ mark → Differ es all → ⊥
      tells_repeats is d = ((w.down d).1 (event_at es key) (s, here, is)).0 refl

      -- a key that doesn't have the stamp gets it
      pub tells_next : get_or stamps s 0 ≢ mark → s < length stamps
          → Tells scalars mark (set stamps s mark) es all left
      tells_next other within = record {
        down = λ d. let l = w.down d in (
          l.0.1,
          λ e (t, at, m). elim (eqb_tells t s) [
            | inl same ↦ subst (λ k. LacksEvent es k left)
                (same_Some _ _ (sym here ∙ sym (ap (slice_get scalars) same.1) ∙ at)) l.0.0
            | inr n ↦ (l.1 e (t, at, sym (get_or-set_other stamps s t mark 0 n.1) ∙ m)).1
          ],
        );
        up = λ (d, fresh). w.up (
          (fresh (event_at es key) (s, here, get_or-set_same stamps s mark 0 within), d),
          λ e (t, at, m).
              let off : t ≢ s = λ e. other (ap (λ n. get_or stamps n 0) (sym e) ∙ m) in (
                (λ is. off (apart t s e at (here ∙ ap Some (sym is)))),
                fresh e (t, at, get_or-set_other stamps s t mark 0 off ∙ m),
              ),
        );
      }

-- each key is a scalar
pub keys_leaves : {es : List PlainEvent} (ms : Members) (q : ℕ) → PairsOccurAt es ms q
    → AllByRecursion (λ k. is_leaf (event_at es k) ≡ true) (key_indices ms q)
keys_leaves NoMembers q s = tt
keys_leaves (MemberAnd k t ms) q s =
    (ap is_leaf (stands_single (occurs_key s)), keys_leaves ms _ (occurs_next_pair s))

-- two keys are equal if their events are
same_key : (k l : List ℕ) → ScalarEvent (String k) ≡ ScalarEvent (String l) → k ≡ l
same_key k l p = cc

module _ {es : List PlainEvent} where
  -- an event differs from those of keys if and only if its key differs from the keys
  lacks : (e : PlainEvent) (key : List ℕ) (ms : Members) (q : ℕ) → PairsOccurAt es ms q
      → e ≡ ScalarEvent (String key) → LacksEvent es e (key_indices ms q) ↔ Lacks key ms
  lacks e key NoMembers q s is = ((λ h. tt), λ h. tt)
  lacks e key (MemberAnd k t ms) q s is =
      let here = stands_single (occurs_key s) in
      let next = lacks e key ms _ (occurs_next_pair s) is in (
        (λ h. ((λ same. h.0 (is ∙ ap (λ l. ScalarEvent (String l)) same ∙ sym here)), next.0 h.1)),
        λ h. ((λ same. h.0 (same_key key k (sym is ∙ same ∙ here))), next.1 h.1),
      )

  pub differ : (ms : Members) (q : ℕ) → PairsOccurAt es ms q
      → Differ es (key_indices ms q) ↔ HasDistinctKeys ms
  differ NoMembers q s = ((λ d. tt), λ d. tt)
  differ (MemberAnd k t ms) q s =
      let first = lacks _ k ms _ (occurs_next_pair s) (stands_single (occurs_key s)) in
      let next = differ ms _ (occurs_next_pair s) in (
        (λ d. (first.0 d.0, next.0 d.1)),
        λ d. (first.1 d.0, next.1 d.1),
      )

-- ---- the stamps

pub below_set : (n : ℕ) (stamps : List ℕ) (s mark : ℕ) → mark < n → AllBelow n stamps
    → AllBelow n (set stamps s mark)
below_set n stamps s mark lt all i h =
    All-get_or (λ v. v < n) _ i 0 h
    (All-set (λ v. v < n) _ s _ lt (All-from_get_or (λ v. v < n) _ 0 all))

-- ---- all dictionaries

-- a dictionary's own keys differ
abbrev IfDictionary : Tree → Type 0
IfDictionary (Dictionary ms) = HasDistinctKeys ms
IfDictionary t = Unit {0}

goes_on : (e : PlainEvent) → shape_of e ≡ shape.StartDictionary → is_end e ≡ false
goes_on e k = search rules

module _ (es : List PlainEvent) where
  module _ (each : (p : ℕ) (ms : Members) → OccursAt es (Dictionary ms) p
      → HasDistinctKeys ms) where
    mutual
      once_tree : (t : Tree) (p : ℕ) → OccursAt es t p → HasKeysOnce t
      once_tree (Leaf x) p s = tt
      once_tree (Array ts) p s = once_items ts _ (occurs_items s)
      once_tree (Dictionary ms) p s = (each p ms s, once_values ms _ (occurs_pairs s))

      once_items : (ts : Trees) (q : ℕ) → ItemsOccurAt es ts q → ItemsHaveKeysOnce ts
      once_items NoTrees q s = tt
      once_items (TreeAnd t ts) q s =
          (once_tree t q (occurs_item s), once_items ts (q + event_count t) (occurs_next s))

      once_values : (ms : Members) (q : ℕ) → PairsOccurAt es ms q → ValuesHaveKeysOnce ms
      once_values NoMembers q s = tt
      once_values (MemberAnd k t ms) q s = (
        once_tree t _ (occurs_value s),
        once_values ms _
            (occurs_next_pair s),
      )

  -- in each dictionary the keys differ
  pub all_once : (t : Tree) → es ≡ lengthless t
      → ((p : ℕ) (ms : Members) → OccursAt es (Dictionary ms) p → HasDistinctKeys ms)
      → HasKeysOnce t
  all_once t is each = once_tree each t 0 (occurs_whole is)

  -- a tree begins at this index, and if it is a dictionary, its own keys differ
  abbrev Once : ℕ → Type 0
  Once p = (t : Tree) × OccursAt es t p × IfDictionary t

  mutual
    once_positions : (t : Tree) (p : ℕ) → OccursAt es t p → HasKeysOnce t
        → AllByRecursion (λ one. Once one.0) (positions t p)
    once_positions (Leaf x) p s h = ((Leaf x, s, tt), tt)
    once_positions (Array ts) p s h = ((Array ts, s, tt), items_positions ts _ (occurs_items s) h)
    once_positions (Dictionary ms) p s h =
        ((Dictionary ms, s, h.0), pairs_positions ms _ (occurs_pairs s) h.1)

    items_positions : (ts : Trees) (p : ℕ) → ItemsOccurAt es ts p → ItemsHaveKeysOnce ts
        → AllByRecursion (λ one. Once one.0) (positions_in_items ts p)
    items_positions NoTrees p s h = tt
    items_positions (TreeAnd t ts) p s h =
        all_both (λ one. Once _) _ _
        (once_positions t p (occurs_item s) h.0) (items_positions ts (p + event_count t)
        (occurs_next s) h.1)

    pairs_positions : (ms : Members) (p : ℕ) → PairsOccurAt es ms p → ValuesHaveKeysOnce ms
        → AllByRecursion (λ one. Once one.0) (positions_in_pairs ms p)
    pairs_positions NoMembers p s h = tt
    pairs_positions (MemberAnd k t ms) p s h = (
      (Leaf _, occurs_key s, tt),
      all_both (λ one. Once _) _ _
          (once_positions t (p + 1) (occurs_value s) h.0)
          (pairs_positions ms (p + 1 + event_count t) (occurs_next_pair s) h.1),
    )

  -- in one dictionary some keys are equal
  pub one_repeats : (t : Tree) (p : ℕ) → es ≡ lengthless t → p < length es
      → shape_of (event_at es p) ≡ shape.StartDictionary
      → ((ms : Members) → OccursAt es (Dictionary ms) p → HasDistinctKeys ms → ⊥)
      → HasKeysOnce t → ⊥
  one_repeats t p is lt begin never once =
      let f = positions_all es Once t is (once_positions t 0 (occurs_whole is) once) p lt
      (goes_on _ begin) in
      by f.0 f.1 f.2
    where
      by : (u : Tree) → OccursAt es u p → IfDictionary u → ⊥
      by (Leaf x) s o = cc (ap shape_of (stands_single s))
      by (Array ts) s o = cc (ap shape_of (starts_array s))
      by (Dictionary ms) s o = never ms s o
