-- The entries in which events are buffered: the events that they represent, and their invariants.
use Rattle.std.specs.Prelude.{◌≡◌, ℕ, ◌+◌, ◌<◌, ◌≤◌, ◌==◌, Bool, true, false, List, [], ◌∷◌, ◌++◌, length, slice_index_or, set, map, reverse, Option, None, Some, IfSome, slice_get}
use Rattle.std.specs.Option.{unwrap_or}
use Rattle.std.specs.List.{list_any}
use Rattle.plist_base.specs.Bracketing.{without_length}
use Rattle.plist_base.specs.Events.{PlainEvent, StartArray, StartDictionary, EndCollection, ScalarEvent}
use Rattle.plist_buffer.specs.StoredScalars.{event_of_small, event_of_long, events_of_small}
use Rattle.plist_base.specs.declared.packed_scalar.PackedScalar.{PackedScalar}
use Rattle.plist_buffer.specs.declared.long_scalar.LongScalar.{LongScalar}
use Rattle.plist_buffer.specs.inner.UnclosedStarts.{unclosed_after, skip_after}
use Rattle.plist_buffer.specs.declared.entries.EventEntry.{EventEntry}
use Rattle.plist_buffer.specs.declared.entries.EventEntry.TheVariants as entry
use Rattle.plist_buffer.specs.declared.entries.ScalarNumber.{ScalarNumber}
use Rattle.plist_buffer.specs.declared.entries.ScalarNumber.TheVariants.{Small, Long}

-- no key occurs twice
abbrev pub AreDistinct : {K : Type 0} → List K → Type 0
AreDistinct {K} keys = (i j : ℕ) (k : K) → slice_get keys i ≡ Some k → slice_get keys j ≡ Some k
    → i ≡ j

-- the events of the different scalars
pub record ScalarLists : Type 0 where
  -- of those that aren't strings or data of more than eight bytes
  pub small : List PlainEvent
  -- of the strings and data of more than eight bytes
  pub long : List PlainEvent

-- all different scalars, the small ones first
abbrev pub all_scalars : ScalarLists → List PlainEvent
all_scalars scalars = scalars.small ++ scalars.long

-- the scalar with a number, or `None`
abbrev pub scalar_numbered : ScalarLists → ScalarNumber → Option PlainEvent
scalar_numbered scalars (Small index) = slice_get scalars.small index
scalar_numbered scalars (Long index) = slice_get scalars.long index

-- each scalar keeps its number
abbrev pub KeepsScalars : (old new : ScalarLists) → Type 0
KeepsScalars old new = (number : ScalarNumber) (e : PlainEvent)
    → scalar_numbered old number ≡ Some e → scalar_numbered new number ≡ Some e

-- each number that was found for one of these small scalars is that of an equal scalar
abbrev pub AreFound : ScalarLists → List PackedScalar → (found : List (Option ℕ)) → Type 0
AreFound scalars sought found = (k : ℕ) (x : PackedScalar) → k < length sought
    → IfSome (slice_index_or found k None) (λ number. scalar_numbered scalars (Small number)
    ≡ Some (event_of_small (slice_index_or sought k x)))

-- the event of the scalar with a number, or an end if there is none
abbrev pub event_numbered : ScalarLists → ScalarNumber → PlainEvent
event_numbered scalars number = unwrap_or (scalar_numbered scalars number) EndCollection

-- are the numbers equal?
abbrev pub same_number : ScalarNumber → ScalarNumber → Bool
same_number (Small i) (Small j) = i == j
same_number (Long i) (Long j) = i == j
same_number i j = false

-- is the event a scalar?
abbrev pub is_leaf : PlainEvent → Bool
is_leaf (ScalarEvent x) = true
is_leaf event = false

-- the entry at an index, or an end if there is none
abbrev pub entry_at : List EventEntry → ℕ → EventEntry
entry_at entries index = slice_index_or entries index entry.End

-- the event of an entry, given the different scalars
abbrev pub event_of_entry : ScalarLists → EventEntry → PlainEvent
event_of_entry scalars (entry.Array following) = StartArray None
event_of_entry scalars (entry.Dictionary following) = StartDictionary None
event_of_entry scalars (entry.Scalar number) = without_length (event_numbered scalars number)
event_of_entry scalars entry.End = EndCollection

-- the events of entries, given the different scalars
abbrev pub events_of_entries : ScalarLists → List EventEntry → List PlainEvent
events_of_entries scalars entries = map (event_of_entry scalars) entries

-- if the entry is a scalar's, does its number belong to one of the scalars?
abbrev pub is_sound : ScalarLists → EventEntry → Bool
is_sound scalars (entry.Scalar number) = is_leaf (event_numbered scalars number)
is_sound scalars other = true

-- does the entry refer to the scalar with this number?
abbrev pub names : (scalar : ScalarNumber) → EventEntry → Bool
names scalar (entry.Scalar number) = same_number number scalar
names scalar other = false

-- is the entry a start?
abbrev pub is_start : EventEntry → Bool
is_start (entry.Array following) = true
is_start (entry.Dictionary following) = true
is_start other = false

-- the index after the tree that begins with the entry at this index
abbrev pub index_after_entry : (index : ℕ) → EventEntry → ℕ
index_after_entry index (entry.Array following) = following
index_after_entry index (entry.Dictionary following) = following
index_after_entry index other = index + 1

-- the index after the tree that begins at an index
abbrev pub index_after_at : List EventEntry → (index : ℕ) → ℕ
index_after_at entries index = index_after_entry index (entry_at entries index)

-- the entry with `following` as the index after its end, if it is a start
abbrev pub closed_at : EventEntry → ℕ → EventEntry
closed_at (entry.Array old) following = entry.Array following
closed_at (entry.Dictionary old) following = entry.Dictionary following
closed_at other following = other

-- the entries with an end appended, which closes the start at this index
abbrev pub ended_at : List EventEntry → (start : ℕ) → List EventEntry
ended_at entries start =
    set (entries ++ entry.End ∷ []) start
    (closed_at (entry_at (entries ++ entry.End ∷ []) start) (length entries + 1))

-- each entry of a scalar refers to a scalar, `unclosed` has the open starts with the innermost
-- last, and the index after each tree is that of `skip_after`
pub record AreEntriesOf (scalars : ScalarLists) (entries : List EventEntry)
    (unclosed : List ℕ) : Type 0 where
  pub sound : (p : ℕ) → p < length entries → is_sound scalars (entry_at entries p) ≡ true
  pub starts : reverse unclosed ≡ unclosed_after (events_of_entries scalars entries)
  pub skips : (p : ℕ) → p < length entries
      → index_after_at entries p ≡ skip_after (events_of_entries scalars entries) p

-- the invariant of a table: no two scalars are equal, an entry refers to each of them, and so there
-- are at least as many entries
pub record IsValidTable (scalars : ScalarLists) (entries : List EventEntry)
    (unclosed : List ℕ) : Type 0 where
  pub apart : AreDistinct (all_scalars scalars)
  pub used : (number : ScalarNumber) (e : PlainEvent) → scalar_numbered scalars number ≡ Some e
      → list_any (names number) entries ≡ true
  pub fewer : length scalars.small + length scalars.long ≤ length entries
  pub entries_are : AreEntriesOf scalars entries unclosed

-- the events of these scalars
abbrev pub lists_of : List PackedScalar → List LongScalar → ScalarLists
lists_of small long = record { small = events_of_small small; long = map event_of_long long }
