-- What an object consists of, where its references lie, and what its decoding returns.
use Rattle.std.specs.Prelude.{◌≡◌, ℕ, ◌+◌, ◌*◌, ◌/◌, ◌%◌, ◌<◌, ◌≤◌, Bool, false, List, [], length, if◌then◌else◌, slice_index, nat_eq, Option, None, Some, ⊤}
use Rattle.std.specs.Option.{option_map}
use Rattle.plist_base.specs.declared.error.Error.{Error}
use Rattle.plist_base.specs.Faults.{InvalidUtf8String, InvalidUtf16String, MatchFault, kind_of, error_kind_of, offset_of}
use Rattle.plist_base.specs.Events.{PlainEvent, ScalarEvent, StartArray, StartDictionary}
use Rattle.plist_base.specs.Trees as trees
use Rattle.plist_base.specs.Trees.{Data, String}
use Rattle.plist_decode.specs.Packed.{is_small}
use Rattle.plist_base.specs.Container.{number_at}
use Rattle.plist_base.specs.Object.{Object, Scalar, Array, Dictionary, Faulty, children_of}
use Rattle.plist_decode.specs.declared.decoded.CollectionKind.{CollectionKind}
use Rattle.plist_decode.specs.declared.decoded.CollectionKind.TheVariants as collection

-- ---- the parts of an object

-- the numbers of an object's children in the order of the walk
abbrev pub children_in : Object → List ℕ
children_in (Array items) = items
children_in (Dictionary pairs) = children_of pairs
children_in object = []

-- the object is a collection with this start and this many children
abbrev pub IsCollection : Object → PlainEvent → (count : ℕ) → Type 0
IsCollection (Array items) start count =
    (start ≡ StartArray (Some (length items))) × (length items ≡ count)
IsCollection (Dictionary pairs) start count =
    (start ≡ StartDictionary (Some (length pairs))) × (length (children_of pairs) ≡ count)
IsCollection object start count = ⊥

-- the start of a collection of this many items or pairs
abbrev pub start_event : CollectionKind → (count : ℕ) → PlainEvent
start_event collection.Array count = StartArray (Some count)
start_event collection.Dictionary count = StartDictionary (Some count)

-- the number of children of a collection of this many items or pairs
abbrev pub child_count : CollectionKind → (count : ℕ) → ℕ
child_count collection.Array count = count
child_count collection.Dictionary count = 2 * count

-- the scalar of the object, or `None` if the object isn't a scalar
abbrev pub scalar_in : Object → Option trees.Scalar
scalar_in (Scalar scalar) = Some scalar
scalar_in object = None

-- the event of the object, or `None` if the object isn't a scalar
abbrev pub scalar_event_in : Object → Option PlainEvent
scalar_event_in object = option_map ScalarEvent (scalar_in object)

-- whether the object is a small scalar
abbrev pub is_small_object : Object → Bool
is_small_object (Scalar scalar) = is_small scalar
is_small_object object = false

-- ---- the references of a collection

-- the index of a child's reference among those to all `count` children; in a dictionary, the
-- references to the keys precede those to the values
abbrev pub reference_index : CollectionKind → (count index : ℕ) → ℕ
reference_index collection.Array count index = index
reference_index collection.Dictionary count index =
    if nat_eq (index % 2) 0 then index / 2 else count / 2 + index / 2

-- the references to these children of the object in these bytes begin at `start`
abbrev pub AreReferencesAt : (width : ℕ) (bytes children : List ℕ) → CollectionKind → (start : ℕ)
    → Type 0
AreReferencesAt width bytes children kind start = (index : ℕ) → index < length children
    → (start + reference_index kind (length children) index * width + width ≤ length bytes)
    × (number_at bytes (start + reference_index kind (length children) index * width) width
    ≡ slice_index children index)

-- ---- what is decoded

-- the object needs memory: it is a collection, data, or a string, which may be invalid
abbrev pub Allocates : Object → Type 0
Allocates (Scalar (String text)) = ⊤
Allocates (Scalar (Data bytes)) = ⊤
Allocates (Array items) = ⊤
Allocates (Dictionary pairs) = ⊤
Allocates (Faulty InvalidUtf8String) = ⊤
Allocates (Faulty InvalidUtf16String) = ⊤
Allocates object = ⊥

-- the error is that of the object at this offset, or that of a failed read or allocation
abbrev pub IsRefusedAs : Object → (place : ℕ) → Error → Type 0
IsRefusedAs object place error =
    MatchFault (kind_of (error_kind_of error)) ⊤ (Allocates object)
    ((object ≡ Faulty (kind_of (error_kind_of error))) × (offset_of error ≡ Some place))
