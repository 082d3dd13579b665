-- What is read from known bytes: numbers, bytes and objects.
use Rattle.std.specs.Prelude.{◌≡◌, ℕ, ◌+◌, ◌*◌, ◌<◌, ◌≤◌, List, length, map, take, drop, Option, IfSome}
use Rattle.std.specs.List.{range_with_len}
use Rattle.plist_base.specs.Faults.{Fault, IsIoOrMemory}
use Rattle.plist_base.specs.Sources.{LiesAt}
use Rattle.plist_base.specs.Container.{number_at}
use Rattle.plist_base.specs.Object.{Object, counted_layout, layout_of, object_after_marker, object_in}
use Rattle.plist_base.specs.declared.marker.CountedKind.{CountedKind}
use Rattle.plist_base.specs.declared.marker.CountedKind.TheVariants as counted
use Rattle.plist_decode.specs.declared.decoded.CollectionKind.{CollectionKind}
use Rattle.plist_decode.specs.declared.decoded.CollectionKind.TheVariants as collection
use Rattle.std.specs.declared.alloc.Global.{Global}
use Rattle.std.specs.declared.vec.Vec.{Vec}
use Rattle.plist_decode.specs.declared.head.Bounds.{Bounds}

-- ---- what a read returns

-- if all of the `size` bytes exist, reading them fails only with `Io` or `OutOfMemory`
abbrev pub IsIoOrMemoryAt : (place size : ℕ) → List ℕ → Fault → Type 0
IsIoOrMemoryAt place size bytes fault = place + size ≤ length bytes → IsIoOrMemory fault.kind

-- these are the `size` bytes from an offset on
abbrev pub AreBytesAt : (place size : ℕ) → List ℕ → Vec ℕ Global → Type 0
AreBytesAt place size bytes found = found.items ≡ take size (drop place bytes)

-- these numbers of `width` bytes each lie one after the other from an offset on
abbrev pub AreFirstNumbers : (known : Option (List ℕ)) → (place width : ℕ) → List ℕ → Type 0
AreFirstNumbers known place width numbers =
    IfSome known (λ bytes. numbers ≡ map (λ k. number_at bytes (place + k * width) width)
    (range_with_len 0 (length numbers)))

-- ---- what the bytes at an object's front say, whatever follows them

-- these bytes lie between an object's offset and the trailer, and reach up to the trailer or are at
-- least 26
pub record IsFront (bounds : Bounds) (place : ℕ) (seen : List ℕ) : Type 0 where
  pub starts : place < bounds.trailer
  pub within : place + length seen ≤ bounds.trailer
  pub shown : length seen < 26 → bounds.trailer ≤ place + length seen

-- these are an object's first bytes in the file, as many as `IsFront` says
pub record IsFrontAt (known : Option (List ℕ)) (bounds : Bounds) (place : ℕ) (seen : List ℕ) : Type 0
  where
    pub front : IsFront bounds place seen
    pub lies : IfSome known (λ bytes. LiesAt bytes place seen)

-- ---- an object whose marker was read

-- the object that has this marker and these bytes after it
abbrev pub object_with : (width marker : ℕ) → List ℕ → Object
object_with width marker rest = object_after_marker marker (layout_of width marker) rest

-- the kind of a collection among the kinds of objects that have a length
abbrev pub counted_kind : CollectionKind → CountedKind
counted_kind collection.Array = counted.Array
counted_kind collection.Dictionary = counted.Dictionary

-- the object of this kind that has these bytes after its marker
abbrev pub object_counted : (width : ℕ) → CountedKind → (low : ℕ) → List ℕ → Object
object_counted width kind low rest = object_after_marker low (counted_layout width kind) rest

-- the bytes from the offset of an object up to the trailer
abbrev pub bytes_at : Bounds → (place : ℕ) → List ℕ → List ℕ
bytes_at bounds place bytes = drop place (take bounds.trailer bytes)

-- the object at an offset
abbrev pub object_at : Bounds → (place : ℕ) → List ℕ → Object
object_at bounds place bytes = object_in bounds.reference_width (bytes_at bounds place bytes)
