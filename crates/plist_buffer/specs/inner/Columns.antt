-- Entries as two lists, one of their kinds and one of their numbers.
use Rattle.std.specs.Prelude.{◌≡◌, ℕ, ◌+◌, ◌<◌, List, [], ◌∷◌, length, map, slice_index, slice_index_or, take, Option, None, Some}
use Rattle.std.specs.Option.{option_map}
use Rattle.plist_buffer.specs.inner.Entries.{ScalarLists}
use Rattle.plist_buffer.specs.declared.entries.EventEntry.{EventEntry}
use Rattle.plist_buffer.specs.declared.entries.EventEntry.TheVariants as entry
use Rattle.plist_buffer.specs.declared.entries.EntryKind.{EntryKind}
use Rattle.plist_buffer.specs.declared.entries.EntryKind.TheVariants as kind
use Rattle.plist_buffer.specs.declared.entries.ScalarNumber.{ScalarNumber}
use Rattle.plist_buffer.specs.declared.entries.ScalarNumber.TheVariants.{Small, Long}

-- the kind of an entry
abbrev pub kind_in : EventEntry → EntryKind
kind_in (entry.Array following) = kind.Array
kind_in (entry.Dictionary following) = kind.Dictionary
kind_in (entry.Scalar (Small index)) = kind.Small
kind_in (entry.Scalar (Long index)) = kind.Long
kind_in entry.End = kind.End

-- the number of an entry, which is `ends` for an end
abbrev pub number_in : (ends : ℕ) → EventEntry → ℕ
number_in ends (entry.Array following) = following
number_in ends (entry.Dictionary following) = following
number_in ends (entry.Scalar (Small index)) = index
number_in ends (entry.Scalar (Long index)) = index
number_in ends entry.End = ends

-- the number of the scalar that an entry refers to, or `None`
abbrev pub number_named : EventEntry → Option ScalarNumber
number_named (entry.Scalar number) = Some number
number_named other = None

-- the index of a scalar among all different ones, of which the small ones come first
abbrev pub index_of_number : ScalarLists → ScalarNumber → ℕ
index_of_number scalars (Small index) = index
index_of_number scalars (Long index) = length scalars.small + index

-- the index of the scalar that an entry refers to among all different scalars, or `None`
abbrev pub scalar_named : ScalarLists → EventEntry → Option ℕ
scalar_named scalars e = option_map (index_of_number scalars) (number_named e)

-- the entry of a kind and a number
abbrev pub entry_of : EntryKind → ℕ → EventEntry
entry_of kind.Array number = entry.Array number
entry_of kind.Dictionary number = entry.Dictionary number
entry_of kind.Small number = entry.Scalar (Small number)
entry_of kind.Long number = entry.Scalar (Long number)
entry_of kind.End number = entry.End

-- the entries with these kinds and these numbers
abbrev pub entries_from : List EntryKind → List ℕ → List EventEntry
entries_from (k ∷ kinds) (n ∷ numbers) = entry_of k n ∷ entries_from kinds numbers
entries_from kinds numbers = []

-- 1 for an end, and 0 for any other kind
abbrev pub one_if_end : EntryKind → ℕ
one_if_end kind.End = 1
one_if_end other = 0

-- the number of ends among entries of these kinds
abbrev pub ends_in : List EntryKind → ℕ
ends_in [] = 0
ends_in (k ∷ kinds) = one_if_end k + ends_in kinds

-- the number of ends before an index
abbrev pub ends_before : List EventEntry → (index : ℕ) → ℕ
ends_before entries index = ends_in (take index (map kind_in entries))

-- there are as many numbers as kinds, and `ends` ends; the number of each end is the number of ends
-- before it
pub record AreColumns (kinds : List EntryKind) (numbers : List ℕ) (ends : ℕ) : Type 0 where
  pub long : length kinds ≡ length numbers
  pub counted : ends ≡ ends_in kinds
  pub numbered : (p : ℕ) → p < length kinds → slice_index_or kinds p kind.Small ≡ kind.End
      → slice_index numbers p ≡ ends_in (take p kinds)
