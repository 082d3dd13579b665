-- The tag and the content of an object, which store its offset or a small scalar, or where the
-- references of an open collection lie.
use Rattle.std.specs.Prelude.{◌≡◌, ℕ, slice_index, nat_eq, ◌+◌, ◌%◌, Bool, true, false, List, length, nat_le, if◌then◌else◌}
use Rattle.plist_base.specs.Events.{PlainEvent, ScalarEvent}
use Rattle.plist_base.specs.Trees.{Scalar, Data, Date, String}
use Rattle.plist_decode.specs.declared.decoded.CollectionKind.{CollectionKind}
use Rattle.plist_decode.specs.declared.decoded.CollectionKind.TheVariants as collection

-- whether a tag and eight bytes can store the scalar
abbrev pub is_small : Scalar → Bool
is_small (Data bytes) = nat_le (length bytes) 8
is_small (String text) = nat_le (length text) 8
is_small (Date bytes) = false
is_small scalar = true

-- whether the event is that of a small scalar
abbrev pub is_small_event : PlainEvent → Bool
is_small_event (ScalarEvent scalar) = is_small scalar
is_small_event event = false

-- whether the high bit of a tag is set, which marks an open object
abbrev pub is_marked : ℕ → Bool
is_marked tag = nat_le 128 tag

-- the tag, or 0 if it is that of an open object
abbrev pub unmarked : ℕ → ℕ
unmarked tag = if is_marked tag then 0 else tag

-- the tag of an open collection of this kind, whose references begin `start` bytes after its offset
abbrev pub open_tag : CollectionKind → (start : ℕ) → ℕ
open_tag collection.Array start = 128 + start
open_tag collection.Dictionary start = 144 + start

-- the kind of the open collection with this tag
abbrev pub open_kind : (tag : ℕ) → CollectionKind
open_kind tag = if nat_le 144 tag then collection.Dictionary else collection.Array

-- the number of bytes from the offset of the open collection with this tag to its references
abbrev pub open_start : (tag : ℕ) → ℕ
open_start tag = tag % 16

-- all tags except that of this object are unchanged
pub record KeepsOtherTags (number : ℕ) (old new : List ℕ) : Type 0 where
  pub size : length new ≡ length old
  pub others : (i : ℕ) → nat_eq i number ≡ false → slice_index new i ≡ slice_index old i
