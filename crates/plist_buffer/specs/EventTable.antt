-- The events of a table, and the indices of trees among them.
use Rattle.std.specs.Prelude.{◌≡◌, ℕ, ◌+◌, ◌-◌, ◌<◌, Bool, true, false, List, [], ◌∷◌, length, map, slice_index, slice_index_or, ◌++◌}
use Rattle.plist_base.specs.declared.event.Event.{Event}
use Rattle.plist_base.specs.Events.{PlainEvent, event_of, EndCollection}
use Rattle.plist_buffer.specs.declared.event_table.EventTable.{EventTable}
use Rattle.plist_base.specs.Trees.{Tree, Trees, NoTrees, TreeAnd, Members, NoMembers, MemberAnd}
use Rattle.plist_base.specs.Bracketing.{without_length, lengthless}
use Rattle.plist_buffer.specs.Occurrences.{event_count}
use Rattle.plist_buffer.specs.inner.Columns.{ends_before, ends_in, kind_in}
use Rattle.plist_buffer.specs.inner.Entries.{ScalarLists, all_scalars, lists_of, events_of_entries}
use Rattle.plist_buffer.specs.inner.UnclosedStarts.{skip_after}

-- the event as it is buffered, without the length of a start
abbrev pub plain_event : Event → PlainEvent
plain_event event = without_length (event_of event)

-- the different scalars, in two lists
abbrev pub lists_in : EventTable → ScalarLists
lists_in held = lists_of held.small.keys held.long.keys

-- the different scalars: first those that aren't strings or data of more than eight bytes, and then
-- these, each in the order of their first occurrence
abbrev pub scalars_of : EventTable → List PlainEvent
scalars_of held = all_scalars (lists_in held)

-- the events of a table, without the lengths of starts
abbrev pub plain_events : EventTable → List PlainEvent
plain_events held = events_of_entries (lists_in held) held.entries

-- is the event an end?
abbrev pub is_end : PlainEvent → Bool
is_end EndCollection = true
is_end event = false

-- the event at an index, or an end if there is none
abbrev pub event_at : List PlainEvent → ℕ → PlainEvent
event_at es p = slice_index_or es p EndCollection

-- a tree begins at an index
abbrev pub HasItem : List PlainEvent → (index : ℕ) → Type 0
HasItem es p = (p < length es) × (is_end (event_at es p) ≡ false)

-- an event was appended
abbrev pub GrowsBy : (before : EventTable) → PlainEvent → (after : EventTable) → Type 0
GrowsBy before event after = plain_events after ≡ plain_events before ++ event ∷ []

-- the buffered event at an index
abbrev pub table_event : EventTable → (index : ℕ) → PlainEvent
table_event held p = event_at (plain_events held) p

-- the number of ends among the buffered events
abbrev pub count_collections : EventTable → ℕ
count_collections held = ends_in (map kind_in held.entries)

-- the number of ends before that of the collection that begins at an index
abbrev pub collection_number : EventTable → (index : ℕ) → ℕ
collection_number held p = ends_before held.entries (skip_after (plain_events held) p - 1)

-- the events are those of a tree
abbrev pub IsBracketed : List PlainEvent → Type 0
IsBracketed es = (t : Tree) × (es ≡ lengthless t)

-- the indices of items, the first of which begins at index q
abbrev pub item_indices : Trees → ℕ → List ℕ
item_indices NoTrees q = []
item_indices (TreeAnd t ts) q = q ∷ item_indices ts (q + event_count t)

-- the indices of the keys of pairs, the first of which begins at index q
abbrev pub key_indices : Members → ℕ → List ℕ
key_indices NoMembers q = []
key_indices (MemberAnd k t ms) q = q ∷ key_indices ms (q + 1 + event_count t)

-- the indices of the values of pairs, the first of which begins at index q
abbrev pub value_indices : Members → ℕ → List ℕ
value_indices NoMembers q = []
value_indices (MemberAnd k t ms) q = (q + 1) ∷ value_indices ms (q + 1 + event_count t)

-- each number of a list is below n
abbrev pub AllBelow : ℕ → List ℕ → Type 0
AllBelow n ps = (i : ℕ) → i < length ps → slice_index ps i < n
