-- How the open collections are stored, and the items that remain in the middle of a walk. A list of
-- frames has the innermost one first, except in `with_innermost`.
use Rattle.std.specs.Prelude.{◌≡◌, ◌⊎◌, ℕ, zero, suc, ◌+◌, ◌-◌, ◌*◌, ◌^◌, ◌<◌, ◌≤◌, Bool, true, false, if◌then◌else◌, List, [], ◌∷◌, ◌++◌, length, take, drop, slice_index, nat_eq, nat_lt, Result, Ok, Err, Option, None, Some, option_and_then, IsOkAnd, MatchBool, MatchResult, ⊤}
use Rattle.std.specs.List.{list_any, flat_map, IsDistinct, AllByRecursion, slice_get}
use Rattle.std.specs.Option.{option_map_or}
use Rattle.plist_base.specs.declared.error.Error.{Error}
use Rattle.plist_base.specs.Faults.{Fault, FaultKind, InvalidUtf8String, InvalidUtf16String, LimitReached, MatchFault, kind_of, error_kind_of, fault_of}
use Rattle.plist_base.specs.Events.{StartArray, StartDictionary, EndCollection, ScalarEvent, Item}
use Rattle.plist_base.specs.Packing.{IsPacked, unpacked}
use Rattle.plist_base.specs.Trees as trees
use Rattle.plist_base.specs.Trees.{Data, String}
use Rattle.plist_binread.specs.declared.frames.Frame.{Frame}
use Rattle.plist_binread.specs.declared.frames.NextChild.{NextChild}
use Rattle.plist_binread.specs.declared.frames.NextChild.TheVariants as child
use Rattle.plist_decode.specs.declared.head.Bounds.{Bounds}
use Rattle.plist_base.specs.Container.{Head, head_of}
use Rattle.plist_decode.specs.Packed.{is_marked, unmarked, open_kind, open_start}
use Rattle.plist_binread.specs.declared.reader.WalkState.{WalkState}
use Rattle.plist_binread.specs.declared.reader.WalkState.TheVariants.{Fresh, Walking, Ended}
use Rattle.plist_base.specs.Unfolding.{TableEntry, table_of, unfolding_of}
use Rattle.plist_decode.specs.Decoding.{AreReferencesAt, children_in, scalar_in}
use Rattle.plist_decode.specs.Reading.{bytes_at}

-- ---- the open collections

-- the frame with these fields
abbrev pub frame_of : (object next count : ℕ) → Frame
frame_of object next count = record { object = object; next = next; count = count }

-- the outer collections, followed by the innermost one if there is one
abbrev pub with_innermost : (outer : List Frame) → Option Frame → List Frame
with_innermost outer None = outer
with_innermost outer (Some frame) = outer ++ frame ∷ []

-- this is the next child of the innermost frame, which is the first in the list, and these are the
-- frames afterwards
abbrev pub NextOf : (old : List Frame) → NextChild → (new : List Frame) → Type 0
NextOf old child.Nothing new = (old ≡ []) × (new ≡ [])
NextOf old (child.End object) new =
    (next : ℕ) × (count : ℕ) × (old ≡ frame_of object next count ∷ new) × (count ≤ next)
NextOf old (child.Child frame) new =
    (below : List Frame) × (old ≡ frame ∷ below)
    × (new ≡ frame_of frame.object (frame.next + 1) frame.count ∷ below)
    × (frame.next < frame.count)

-- ---- the path

-- the numbers of the open objects
abbrev pub path_of : List Frame → List ℕ
path_of [] = []
path_of (frame ∷ below) = frame.object ∷ path_of below

-- exactly the open objects are marked, and each is open once and has a tag
pub record MarksOpenPath (tags : List ℕ) (frames : List Frame) : Type 0 where
  pub distinct : IsDistinct nat_eq (path_of frames)
  pub below : (number : ℕ) → list_any (nat_eq number) (path_of frames) ≡ true → number < length tags
  pub marks : (number : ℕ) → number < length tags
      → is_marked (slice_index tags number) ≡ list_any (nat_eq number) (path_of frames)

-- the tag and the content of each cached object are those of a scalar
abbrev pub ArePacked : (tags contents : List ℕ) → Type 0
ArePacked tags contents = (number : ℕ) → number < length tags
    → 0 < unmarked (slice_index tags number)
    → IsPacked (slice_index tags number) (slice_index contents number)

-- the number of cached objects
abbrev pub cached_count : (tags : List ℕ) → ℕ
cached_count [] = 0
cached_count (tag ∷ tags) = (if nat_lt 0 (unmarked tag) then 1 else 0) + cached_count tags

-- ---- the remaining items

-- the offset of an entry, or 0 without an entry
abbrev pub place_at : Option TableEntry → ℕ
place_at entry = option_map_or (λ (e : TableEntry). e.place) entry 0

-- the numbers of the children of an entry's object
abbrev pub children_at : Option TableEntry → List ℕ
children_at entry = option_map_or (λ (e : TableEntry). children_in e.object) entry []

-- the scalar of an entry's object, or `None` if the object isn't a scalar
abbrev pub scalar_at : Option TableEntry → Option trees.Scalar
scalar_at entry = option_and_then (λ (e : TableEntry). scalar_in e.object) entry

module _ (table : List TableEntry) where
  -- the items of the children that remain in each frame, and its end, without regard to faults
  abbrev pub remaining_items : List Frame → List Item
  remaining_items [] = []
  remaining_items (frame ∷ below) =
      flat_map (unfolding_of table (length table - suc (length below))
      (frame.object ∷ path_of below) (place_at (slice_get table frame.object)))
      (drop frame.next (children_at (slice_get table frame.object)))
      ++ Ok EndCollection ∷ remaining_items below

-- ---- what is known about the file's bytes

-- the offsets of the objects in a file with this head
abbrev pub places_with : Result Head Fault → List ℕ
places_with (Ok head) = head.places
places_with (Err fault) = []

-- the number of objects that the head of these bytes counts
abbrev pub objects_in_head : List ℕ → ℕ
objects_in_head bytes = length (places_with (head_of bytes))

-- `found` is the number of objects in the file, or perhaps 0 after a failed read or allocation
abbrev pub CountsObjects : {A : Type 0} → List ℕ → Result A Error → (found : ℕ) → Type 0
CountsObjects bytes answer found =
    let counted = found ≡ objects_in_head bytes in
    let perhaps = counted ⊎ (found ≡ 0) in
    MatchResult answer (λ _. counted)
    (λ error. MatchFault (kind_of (error_kind_of error)) perhaps perhaps counted)

-- the table of a file's objects, which end before the trailer
abbrev pub entries_of : List ℕ → Bounds → List TableEntry
entries_of bytes bounds =
    table_of (take bounds.trailer bytes) bounds.reference_width (places_with (head_of bytes))

-- a file with this head has these bounds
abbrev pub AreBoundsOf : Result Head Fault → Bounds → Type 0
AreBoundsOf answer bounds = IsOkAnd answer (λ head.
    (bounds.trailer ≡ head.trailer) × (bounds.reference_width ≡ head.reference_width))

-- the content is the offset of the entry, or the tag and the content encode the entry's scalar
abbrev pub IsHeld : Option TableEntry → (tag content : ℕ) → Type 0
IsHeld entry tag content = MatchBool (nat_eq (unmarked tag) 0) (content ≡ place_at entry)
    (scalar_at entry ≡ Some (unpacked tag content))

-- the tag of an open collection says where the references to its children lie
abbrev pub LocatesReferences : List ℕ → Bounds → Option TableEntry → (tag : ℕ) → Type 0
LocatesReferences bytes bounds entry tag = is_marked tag ≡ true → AreReferencesAt
    bounds.reference_width (bytes_at bounds (place_at entry) bytes) (children_at entry)
    (open_kind tag) (open_start tag)

-- what a reader has stored about the objects is true of the file with these bytes
pub record MatchesFile (bytes : List ℕ) (bounds : Bounds) (tags contents : List ℕ)
    (frames : List Frame) : Type 0 where
  pub head : AreBoundsOf (head_of bytes) bounds
  pub within : bounds.trailer ≤ length bytes
  pub size : objects_in_head bytes ≡ length tags
  pub held : (number : ℕ) → number < length tags
      → IsHeld (slice_get (entries_of bytes bounds) number) (slice_index tags number)
      (slice_index contents number)
  pub refers : (number : ℕ) → number < length tags
      → LocatesReferences bytes bounds (slice_get (entries_of bytes bounds) number)
      (slice_index tags number)
  pub counts : AllByRecursion (λ frame. length
      (children_at (slice_get (entries_of bytes bounds) frame.object)) ≡ frame.count) frames

-- ---- what a step yields

-- some items remain
abbrev pub SomeRemain : List Item → Type 0
SomeRemain items = 0 < length items

-- the first item needs memory: a start, a string, data, or the error of a string or of a limit
abbrev pub AllocatesFirst : List Item → Type 0
AllocatesFirst [] = ⊥
AllocatesFirst (Ok (StartArray length) ∷ items) = ⊤
AllocatesFirst (Ok (StartDictionary length) ∷ items) = ⊤
AllocatesFirst (Ok (ScalarEvent (Data bytes)) ∷ items) = ⊤
AllocatesFirst (Ok (ScalarEvent (String text)) ∷ items) = ⊤
AllocatesFirst (Ok event ∷ items) = ⊥
AllocatesFirst (Err fault ∷ items) = IsTextOrLimitFault fault.kind
  where
    IsTextOrLimitFault : FaultKind → Type 0
    IsTextOrLimitFault InvalidUtf8String = ⊤
    IsTextOrLimitFault InvalidUtf16String = ⊤
    IsTextOrLimitFault (LimitReached limit) = ⊤
    IsTextOrLimitFault kind = ⊥

-- the first item needs memory; or the reader is new and an item remains, since a new reader
-- allocates its lists before any item
abbrev pub AllocatesNext : (new : Bool) → List Item → Type 0
AllocatesNext new items = MatchBool new (SomeRemain items) (AllocatesFirst items)

-- the error is `Io`; or `OutOfMemory`, if the first item needs memory; or the only item
abbrev pub Explains : List Item → Error → Type 0
Explains before error =
    MatchFault (kind_of (error_kind_of error)) (SomeRemain before) (AllocatesFirst before)
    (before ≡ Err (fault_of error) ∷ [])

-- ---- the number that falls with each step

-- an upper bound on the steps below an object, where `fuel` objects aren't open
unfoldable pub walk_steps : (fuel : ℕ) → ℕ
walk_steps zero = 1
walk_steps (suc fuel) = 2 + 2 ^ 64 * walk_steps fuel

-- an upper bound on the steps that remain with these open collections
abbrev pub walk_weight : (count : ℕ) → List Frame → ℕ
walk_weight count [] = 0
walk_weight count (frame ∷ below) =
    (frame.count - frame.next) * walk_steps (count - suc (length below)) + 1 + walk_weight count
    below

-- the number of the object that is entered next, or `None` if there is none
abbrev pub next_number : List TableEntry → List Frame → Option ℕ
next_number table [] = None
next_number table (frame ∷ below) = if nat_lt frame.next frame.count
    then Some (slice_index (children_at (slice_get table frame.object)) frame.next) else None

-- ---- the state of a reader

-- the value that belongs to the state
abbrev pub by_state : {X : Type 0} → WalkState → (fresh walking ended : X) → X
by_state Fresh fresh walking ended = fresh
by_state Walking fresh walking ended = walking
by_state Ended fresh walking ended = ended

-- whether no item has been requested yet
abbrev pub is_fresh : WalkState → Bool
is_fresh state = by_state state true false false

-- whether the reader has begun and hasn't ended
abbrev pub is_walking : WalkState → Bool
is_walking state = by_state state false true false

-- the state of a reader after it has yielded this item
abbrev pub state_after : {A E : Type 0} → Option (Result A E) → WalkState
state_after None = Ended
state_after (Some (Ok value)) = Walking
state_after (Some (Err error)) = Ended
