-- The numbers of collections: each closed collection has one of its own.
use Rattle.std.proofs.Common.{◌≡◌, ◌≢◌, ◌==◌, ℕ, zero, suc, ◌+◌, ◌-◌, ◌<◌, ◌≤◌, if◌then◌else◌, List, [], ◌∷◌, ◌++◌, false, length, drop, get_or, map, take, Option, None, Some, inl, inr, refl, ap, ◌∙◌, arith, length-append, append_assoc}
use Rattle.std.proofs.lemmas.Bool.Decides.{nat_tests, eqb_tells}
use Rattle.std.proofs.Math.ListN.{get_or-map}
use Rattle.std.proofs.lemmas.List.{get_or_default, length-map, take_all}
use Rattle.plist_base.specs.Bracketing.{lengthless, lengthless_items, lengthless_pairs}
use Rattle.plist_base.specs.Events.{PlainEvent, EndCollection, StartArray, StartDictionary}
use Rattle.plist_base.specs.Trees.{Tree, Leaf, Array, Dictionary, Trees, NoTrees, TreeAnd, Members, NoMembers, MemberAnd}
use Rattle.plist_buffer.specs.EventTable.{HasItem, IsBracketed, collection_number, count_collections, event_at, is_end, lists_in, plain_events}
use Rattle.plist_buffer.specs.Occurrences.{event_count, OccursAt}
use Rattle.plist_buffer.proofs.TreeOccurrences.{ItemsOccurAt, PairsOccurAt, occurs_items, occurs_item, occurs_key, occurs_next, occurs_next_pair, occurs_pairs, occurs_value, occurs_whole, past}
use Rattle.plist_buffer.specs.declared.entries.EntryKind.{EntryKind}
use Rattle.plist_buffer.specs.declared.entries.EntryKind.TheVariants as kind
use Rattle.plist_buffer.specs.declared.event_table.EventTable.{EventTable}
use Rattle.plist_buffer.specs.declared.entries.EventEntry.{EventEntry}
use Rattle.plist_buffer.specs.declared.entries.EventEntry.TheVariants as entry
use Rattle.plist_buffer.specs.declared.entries.ScalarNumber.TheVariants.{Small}
use Rattle.plist_buffer.specs.inner.Columns.{ends_before, ends_in, kind_in, one_if_end}
use Rattle.plist_buffer.specs.Expects.{innermost}
use Rattle.plist_buffer.specs.inner.UnclosedStarts.{skip_after, skip_after_event, skip_from, unclosed_after_event}
use Rattle.plist_buffer.proofs.OpenStarts.{skip_ends, skip_forward}
use Rattle.plist_buffer.proofs.EntryEvents.{end_there, long_shown, lt}
use Rattle.plist_buffer.specs.inner.Entries.{entry_at, event_of_entry, is_leaf}
use Rattle.plist_buffer.proofs.TreePositions.{Stands, positions_all, positions_stand}
use Rattle.plist_buffer.proofs.TreeStarts.{begins, first_event, occurs_in, stands_single}
use Rattle.plist_buffer.proofs.Uniques.{all_from}

-- ---- the start that an event closes

-- the innermost start that is open before the event at index r, if the first event is at `index`
abbrev open_at : List PlainEvent → (index r : ℕ) → (unclosed : List ℕ) → Option ℕ
open_at [] index r unclosed = None
open_at (e ∷ es) index r unclosed =
    if r == index then innermost unclosed else open_at es (index + 1) r (unclosed_after_event e index unclosed)

open_past : (es : List PlainEvent) (index r : ℕ) (unclosed : List ℕ) → r < index
    → open_at es index r unclosed ≡ None
open_past [] index r unclosed lt = refl
open_past (e ∷ es) index r unclosed lt =
    grind (arith, nat_tests, open_past es (index + 1) r (unclosed_after_event e index unclosed))

-- an event after which it is known where the tree at q ends closes that tree
changed : (e : PlainEvent) (index : ℕ) (unclosed : List ℕ) (q given : ℕ)
    → skip_after_event e index unclosed q given ≢ given
    → (innermost unclosed ≡ Some q) × (skip_after_event e index unclosed q given ≡ index + 1)
changed e index unclosed q given other = grind (arith, nat_tests)

-- if the tree that begins at q ends after the event at r, q is the innermost open start before it
closes : (es : List PlainEvent) (index r q given : ℕ) (unclosed : List ℕ)
    → skip_from es index unclosed q given ≡ suc r → given ≢ suc r
    → open_at es index r unclosed ≡ Some q
closes [] index r q given unclosed is other = absurd (other is)
closes (e ∷ es) index r q given unclosed is other =
    let next = skip_after_event e index unclosed q given in
    let unclosed_next = unclosed_after_event e index unclosed in
    grind (
      arith,
      nat_tests,
      changed e index unclosed q given,
      closes es (index + 1) r q next unclosed_next,
      open_past es (index + 1) r unclosed_next,
    )

-- two trees that end at the same index, and have more than one event, begin at the same index
ends_once : (es : List PlainEvent) (p q r : ℕ) → skip_after es p ≡ suc r → p + 1 ≢ suc r
    → skip_after es q ≡ suc r → q + 1 ≢ suc r → p ≡ q
ends_once es p q r a b c d =
    cc (closes es 0 r p (p + 1) [] a b, closes es 0 r q (q + 1) [] c d)

-- ---- the number of ends before an end

ends_rise : (kinds : List EntryKind) (a b : ℕ) → get_or kinds a kind.Small ≡ kind.End → a < b
    → b ≤ length kinds → ends_in (take a kinds) < ends_in (take b kinds)
ends_rise (k ∷ kinds) zero (suc b) is lt le = omega (arith, ap one_if_end is)
ends_rise (k ∷ kinds) (suc a) (suc b) is lt le = omega (arith, ends_rise kinds a b is)
ends_rise kinds a b is lt le = absurd (omega (arith, lt, le))

-- each number below the number of ends belongs to an end
nth_end : (entries : List EventEntry) (c : ℕ) → c < ends_in (map kind_in entries)
    → (r : ℕ) × (r < length entries) × (entry_at entries r ≡ entry.End)
    × (ends_before entries r ≡ c)
nth_end [] c lt = absurd (omega (arith, lt))
nth_end (entry.End ∷ entries) zero lt = (0, omega arith, refl, refl)
nth_end (entry.End ∷ entries) (suc c) lt =
    let more = nth_end entries c (omega (arith, lt)) in
    (suc more.0, omega (arith, more.1), more.2, omega (arith, more.3))
nth_end (entry.Scalar (Small i) ∷ entries) c lt =
    let more = nth_end entries c (omega (arith, lt)) in
    (suc more.0, omega (arith, more.1), more.2, omega (arith, more.3))
nth_end (e ∷ entries) c lt =
    let more = nth_end entries c (omega (arith, lt)) in
    (suc more.0, omega (arith, more.1), more.2, omega (arith, more.3))

-- ---- the collections of a table

-- the tree is a collection that begins at an index
pub record IsCollectionAt (es : List PlainEvent) (t : Tree) (p : ℕ) : Type 0 where
  pub occurs : OccursAt es t p
  pub large : 1 < event_count t

pub array_at : {es : List PlainEvent} {ts : Trees} {p : ℕ} → OccursAt es (Array ts) p
    → IsCollectionAt es (Array ts) p
array_at {ts = ts} s = record {
  occurs = s;
  large = omega (arith, length-append (lengthless_items ts) (EndCollection ∷ []));
}

pub dictionary_at : {es : List PlainEvent} {ms : Members} {p : ℕ} → OccursAt es (Dictionary ms) p
    → IsCollectionAt es (Dictionary ms) p
dictionary_at {ms = ms} s = record {
  occurs = s;
  large = omega (arith, length-append (lengthless_pairs ms) (EndCollection ∷ []));
}

-- in a tree's events, each event that isn't an end begins a tree
pub occurs_at : (es : List PlainEvent) → IsBracketed es → (p : ℕ) → HasItem es p
    → (u : Tree) × OccursAt es u p
occurs_at es (t, e) p item =
    positions_all es (λ q. (u : Tree) × OccursAt es u q) t e
    (all_from (λ one. (u : Tree) × OccursAt es u _) (Stands es) (λ one s. (one.1, s)) _
    (positions_stand es t 0 (occurs_whole e))) p item.0 item.1

-- a collection begins at the index of an event that isn't a scalar, if a tree does
pub collection_at : (es : List PlainEvent) → IsBracketed es → (p : ℕ) → HasItem es p
    → is_leaf (event_at es p) ≡ false → (t : Tree) × IsCollectionAt es t p
collection_at es whole p item other = by (occurs_at es whole p item).0 (occurs_at es whole p item).1
  where
    by : (t : Tree) → OccursAt es t p → (u : Tree) × IsCollectionAt es u p
    by (Leaf x) s = cc (other, ap is_leaf (stands_single s))
    by (Array ts) s = (Array ts, array_at s)
    by (Dictionary ms) s = (Dictionary ms, dictionary_at s)

-- the event before the index after a collection is its end
end_before : (es : List PlainEvent) (p : ℕ) (start : PlainEvent) (inside rest : List PlainEvent)
    → drop p es ≡ (start ∷ (inside ++ EndCollection ∷ [])) ++ rest
    → skip_after es p ≡ p + length (start ∷ (inside ++ EndCollection ∷ []))
    → event_at es (skip_after es p - 1) ≡ EndCollection
end_before es p start inside rest is after =
    grind (arith, length-append inside (EndCollection ∷ []), append_assoc (start ∷ inside) (EndCollection ∷ []) rest, past (start ∷ inside) (EndCollection ∷ rest) es p, first_event es (p + length (start ∷ inside)) EndCollection rest)

-- a collection's last event is an end
last_event : (es : List PlainEvent) (t : Tree) (p : ℕ) → IsCollectionAt es t p
    → event_at es (skip_after es p - 1) ≡ EndCollection
last_event es (Leaf x) p s = absurd (omega (arith, s.large))
last_event es (Array ts) p s =
    end_before es p (StartArray None) (lengthless_items ts) s.occurs.rest s.occurs.is
    (skip_ends es (Array ts) p s.occurs)
last_event es (Dictionary ms) p s =
    end_before es p (StartDictionary None) (lengthless_pairs ms) s.occurs.rest s.occurs.is
    (skip_ends es (Dictionary ms) p s.occurs)

-- ---- each end closes a collection

module _ (es : List PlainEvent) where
  -- a collection ends with the event at index r
  abbrev IsClosedBy : (r : ℕ) → Type 0
  IsClosedBy r = (p : ℕ) × (t : Tree) × IsCollectionAt es t p × (p + event_count t ≡ suc r)

  -- no tree begins at an end
  begins_apart : (t : Tree) (p r : ℕ) → OccursAt es t p → event_at es r ≡ EndCollection → p ≢ r
  begins_apart t p r s ends same = cc (begins t p s, ap is_end ends, ap (event_at es) same)

  mutual
    closed_in : (t : Tree) (p r : ℕ) → OccursAt es t p → event_at es r ≡ EndCollection → p ≤ r
        → r < p + event_count t → IsClosedBy r
    closed_in (Leaf x) p r s ends le lt =
        absurd (begins_apart (Leaf x) p r s ends (omega (arith, le, lt)))
    closed_in (Array ts) p r s ends le lt = elim (eqb_tells (p + event_count (Array ts)) (suc r)) [
      | inl last ↦ (p, Array ts, array_at s, last.1)
      | inr other ↦ closed_in_items ts (p + 1) r (occurs_items s) ends
          (omega (arith, le, begins_apart (Array ts) p r s ends))
          (omega (arith, lt, other.1, length-append (lengthless_items ts) (EndCollection ∷ [])))
    ]
    closed_in (Dictionary ms) p r s ends le lt =
        elim (eqb_tells (p + event_count (Dictionary ms)) (suc r)) [
          | inl last ↦ (p, Dictionary ms, dictionary_at s, last.1)
          | inr other ↦ closed_in_pairs ms (p + 1) r (occurs_pairs s) ends
              (omega (arith, le, begins_apart (Dictionary ms) p r s ends))
              (omega (arith, lt, other.1, length-append (lengthless_pairs ms) (EndCollection ∷ [])))
        ]

    closed_in_items : (ts : Trees) (q r : ℕ) → ItemsOccurAt es ts q → event_at es r ≡ EndCollection
        → q ≤ r → r < q + length (lengthless_items ts) → IsClosedBy r
    closed_in_items NoTrees q r s ends le lt = absurd (omega (arith, le, lt))
    closed_in_items (TreeAnd t ts) q r s ends le lt = grind (
      arith,
      closed_in_items ts (q + event_count t) r (occurs_next s) ends,
      closed_in t q r (occurs_item s) ends,
      length-append (lengthless t) (lengthless_items ts),
    )

    closed_in_pairs : (ms : Members) (q r : ℕ) → PairsOccurAt es ms q
        → event_at es r ≡ EndCollection → q ≤ r → r < q + length (lengthless_pairs ms)
        → IsClosedBy r
    closed_in_pairs NoMembers q r s ends le lt = absurd (omega (arith, le, lt))
    closed_in_pairs (MemberAnd k t ms) q r s ends le lt = grind (
      arith,
      begins_apart _ q r (occurs_key s) ends,
      closed_in_pairs ms (q + 1 + event_count t) r (occurs_next_pair s) ends,
      closed_in t (q + 1) r (occurs_value s) ends,
      length-append (lengthless t) (lengthless_pairs ms),
    )

module _ (held : EventTable) where
  abbrev es : List PlainEvent
  es = plain_events held

  abbrev kinds : List EntryKind
  kinds = map kind_in held.entries

  -- a collection is closed
  pub collection_ends : (t : Tree) (p : ℕ) → IsCollectionAt es t p
      → event_at es (skip_after es p - 1) ≡ EndCollection
  collection_ends t p s = last_event es t p s

  -- the last entry of a collection is an end
  last_kind : (t : Tree) (p : ℕ) → IsCollectionAt es t p
      → (get_or kinds (skip_after es p - 1) kind.Small ≡ kind.End) × (skip_after es p ≤ length kinds)
  last_kind t p s =
      let forward = skip_forward es p (occurs_in s.occurs) in
      let within : skip_after es p - 1 < length es = omega (arith, forward.0, forward.1) in
      let at = end_there held.kept within (collection_ends t p s) in
      let long = long_shown (lists_in held) held.entries in (
        get_or_default kinds (skip_after es p - 1) kind.Small kind.End
            (omega (arith, lt held.kept within, length-map held.entries kind_in))
            ∙ get_or-map kind_in held.entries (skip_after es p - 1) entry.End ∙ ap kind_in at,
        omega (arith, forward.1, long, length-map held.entries kind_in),
      )

  -- its number is less than that of the collections
  pub number_below : (t : Tree) (p : ℕ) → IsCollectionAt es t p
      → collection_number held p < count_collections held
  number_below t p s =
      let last = last_kind t p s in
      let forward = skip_forward es p (occurs_in s.occurs) in
      grind (arith, ends_rise kinds (skip_after es p - 1) (length kinds) last.0, take_all (length kinds) kinds)

  -- two collections have different numbers
  pub numbers_apart : (t u : Tree) (p q : ℕ) → IsCollectionAt es t p → IsCollectionAt es u q
      → collection_number held p ≡ collection_number held q → p ≡ q
  numbers_apart t u p q s r same =
      let a = last_kind t p s in
      let b = last_kind u q r in
      let forward_p = skip_forward es p (occurs_in s.occurs) in
      let forward_q = skip_forward es q (occurs_in r.occurs) in
      let ends : skip_after es q ≡ suc (skip_after es p - 1) = grind (arith, ends_rise kinds (skip_after es p - 1) (skip_after es q - 1) a.0, ends_rise kinds (skip_after es q - 1) (skip_after es p - 1) b.0) in
      ends_once es p q (skip_after es p - 1) (omega (arith, forward_p.0))
      (λ h. omega (arith, h, skip_ends es t p s.occurs, s.large))
      ends
      (λ h. omega (arith, h, ends, skip_ends es u q r.occurs, r.large))

  -- each number below the number of collections belongs to a collection
  pub number_used : IsBracketed es → (c : ℕ) → c < count_collections held
      → (p : ℕ) × (t : Tree) × IsCollectionAt es t p × (collection_number held p ≡ c)
  number_used (whole, is) c lt =
      let found = nth_end held.entries c lt in
      let ends : event_at es found.0 ≡ EndCollection =
      get_or-map (event_of_entry (lists_in held)) held.entries found.0 entry.End
      ∙ ap (event_of_entry (lists_in held)) found.2 in
      let (p, t, s, last) = closed_in es whole 0 found.0 (occurs_whole is) ends (omega arith)
      (omega (arith, found.1, long_shown (lists_in held) held.entries, ap length is)) in
      let at : skip_after es p - 1 ≡ found.0 = omega (arith, skip_ends es t p s.occurs, last) in
      (p, t, s, ap (ends_before held.entries) at ∙ found.3)
