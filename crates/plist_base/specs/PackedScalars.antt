-- Scalars that are stored as a tag and eight bytes.
use Rattle.std.specs.Prelude.{◌<◌, Bool, length, ⊤}
use Rattle.plist_base.specs.Packing.{unpacked}
use Rattle.plist_base.specs.Events.{PlainEvent, ScalarEvent}
use Rattle.plist_base.specs.Trees.{Scalar, Data, String}
use Rattle.plist_base.specs.contracts.packed_scalar.PackedScalarPartialEq.TheImpl as impl
use Rattle.plist_base.specs.declared.packed_scalar.PackedScalar.{PackedScalar}

-- the scalar that is packed
abbrev pub scalar_of_packed : PackedScalar → Scalar
scalar_of_packed packed = unpacked packed.tag packed.content

-- the event isn't that of a scalar which can be packed: it is a start, an end, or a string or data of
-- more than eight bytes
abbrev pub IsUnpackable : PlainEvent → Type 0
IsUnpackable (ScalarEvent (Data bytes)) = 8 < length bytes
IsUnpackable (ScalarEvent (String text)) = 8 < length text
IsUnpackable (ScalarEvent scalar) = ⊥
IsUnpackable event = ⊤

-- the test of two packed scalars
abbrev pub packed_eq : PackedScalar → PackedScalar → Bool
packed_eq a b = (impl.ghosts).eq a b
