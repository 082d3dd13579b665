-- Where trees occur in a list of events.
use Rattle.std.proofs.Common.{◌≡◌, ℕ, ◌+◌, List, [], ◌∷◌, ◌++◌, length, drop, sym, ◌∙◌, append_assoc, append-nil}
use Rattle.std.proofs.Math.Seq.{drop-append_seam}
use Rattle.std.proofs.lemmas.List.{drop-drop}
use Rattle.plist_base.specs.Trees as trees
use Rattle.plist_base.specs.Events.{PlainEvent, EndCollection}
use Rattle.plist_base.specs.Trees.{Tree, Leaf, Array, Dictionary, Trees, TreeAnd, Members, MemberAnd}
use Rattle.plist_buffer.specs.EventTable.{item_indices, key_indices, value_indices}
use Rattle.plist_base.specs.Bracketing.{lengthless, lengthless_items, lengthless_pairs}
use Rattle.plist_buffer.specs.Occurrences.{event_count, OccursAt}

-- the indices of the keys of a tree that begins at index p
abbrev pub keys_in : Tree → ℕ → List ℕ
keys_in (Dictionary ms) p = key_indices ms (p + 1)
keys_in tree p = []

-- the indices of the items or values of a tree that begins at index p
abbrev pub values_in : Tree → ℕ → List ℕ
values_in (Leaf x) p = []
values_in (Array ts) p = item_indices ts (p + 1)
values_in (Dictionary ms) p = value_indices ms (p + 1)

-- the remaining items of an array, and its end, occur from index p on
pub record ItemsOccurAt (es : List PlainEvent) (ts : Trees) (p : ℕ) : Type 0 where
  pub rest : List PlainEvent
  pub is : drop p es ≡ lengthless_items ts ++ EndCollection ∷ rest

-- the remaining pairs of a dictionary, and its end, occur from index p on
pub record PairsOccurAt (es : List PlainEvent) (ms : Members) (p : ℕ) : Type 0 where
  pub rest : List PlainEvent
  pub is : drop p es ≡ lengthless_pairs ms ++ EndCollection ∷ rest

drop_twice : (n p : ℕ) (es : List PlainEvent) → drop (p + n) es ≡ drop n (drop p es)
drop_twice n p es = simp drop-drop

-- if `a` and then `b` are the events from an index on, `b` begins at the index after `a`
pub past : (a b es : List PlainEvent) (p : ℕ) → drop p es ≡ a ++ b → drop (p + length a) es ≡ b
past a b es p h = cc (drop_twice (length a) p es, drop-append_seam a b)

pub past_one : (e : PlainEvent) (b es : List PlainEvent) (p : ℕ) → drop p es ≡ e ∷ b
    → drop (p + 1) es ≡ b
past_one e b es p h = past (e ∷ []) b es p h

-- after the start of a collection, its contents begin
past_start : (start : PlainEvent) (inside rest es : List PlainEvent) (p : ℕ)
    → drop p es ≡ (start ∷ (inside ++ EndCollection ∷ [])) ++ rest
    → drop (p + 1) es ≡ inside ++ EndCollection ∷ rest
past_start start inside rest es p h =
    past_one start _ es p h ∙ append_assoc inside (EndCollection ∷ []) rest

module _ {es : List PlainEvent} where
  -- if the events are those of a tree, the tree occurs at index 0
  pub occurs_whole : {t : Tree} → es ≡ lengthless t → OccursAt es t 0
  occurs_whole {t} e = record { rest = []; is = e ∙ sym (append-nil (lengthless t)) }

  pub occurs_items : {ts : Trees} {p : ℕ} → OccursAt es (Array ts) p → ItemsOccurAt es ts (p + 1)
  occurs_items {ts} {p} s =
      record { rest = s.rest; is = past_start _ (lengthless_items ts) _ es p s.is }

  pub occurs_pairs : {ms : Members} {p : ℕ} → OccursAt es (Dictionary ms) p
      → PairsOccurAt es ms (p + 1)
  occurs_pairs {ms} {p} s =
      record { rest = s.rest; is = past_start _ (lengthless_pairs ms) _ es p s.is }

  pub occurs_item : {t : Tree} {ts : Trees} {q : ℕ} → ItemsOccurAt es (TreeAnd t ts) q
      → OccursAt es t q
  occurs_item {t} {ts} {q} s =
      record {
        rest = lengthless_items ts ++ EndCollection ∷ s.rest;
        is = s.is ∙ append_assoc (lengthless t) (lengthless_items ts) _;
      }

  pub occurs_next : {t : Tree} {ts : Trees} {q : ℕ} → ItemsOccurAt es (TreeAnd t ts) q
      → ItemsOccurAt es ts (q + event_count t)
  unfolding occurs_item
  occurs_next {t} {ts} {q} s =
      record {
        rest = s.rest;
        is = past (lengthless t) _ es q (occurs_item s).is;
      }

  pub occurs_key : {k : List ℕ} {t : Tree} {ms : Members} {q : ℕ}
      → PairsOccurAt es (MemberAnd k t ms) q
      → OccursAt es (Leaf (trees.String k)) q
  occurs_key {k} {t} {ms} {q} s =
      record { rest = (lengthless t ++ lengthless_pairs ms) ++ EndCollection ∷ s.rest; is = s.is }

  pub occurs_value : {k : List ℕ} {t : Tree} {ms : Members} {q : ℕ}
      → PairsOccurAt es (MemberAnd k t ms) q → OccursAt es t (q + 1)
  occurs_value {k} {t} {ms} {q} s =
      record {
        rest = lengthless_pairs ms ++ EndCollection ∷ s.rest;
        is = past_one _ _ es q s.is ∙ append_assoc (lengthless t) (lengthless_pairs ms) _;
      }

  pub occurs_next_pair : {k : List ℕ} {t : Tree} {ms : Members} {q : ℕ}
      → PairsOccurAt es (MemberAnd k t ms) q → PairsOccurAt es ms (q + 1 + event_count t)
  unfolding occurs_value
  occurs_next_pair {k} {t} {ms} {q} s =
      record { rest = s.rest; is = past (lengthless t) _ es (q + 1) (occurs_value s).is }
