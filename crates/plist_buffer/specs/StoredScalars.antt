-- The scalars of a table, as contracts describe them.
use Rattle.std.specs.Prelude.{◌≡◌, ℕ, List, false, true, map, ⊤}
use Rattle.plist_base.specs.Events.{PlainEvent, ScalarEvent}
use Rattle.plist_base.specs.Trees.{Scalar, Data, String}
use Rattle.plist_base.specs.PackedScalars.{scalar_of_packed}
use Rattle.plist_base.specs.Utf16.{IsUtf16, utf8_of_utf16}
use Rattle.plist_buffer.specs.inner.LongContents.{is_ascii_text, bytes_stored, form_in, scalar_from}
use Rattle.plist_buffer.specs.declared.stored_scalar.ScalarRef.{ScalarRef}
use Rattle.plist_buffer.specs.declared.stored_scalar.ScalarRef.TheVariants as lent
use Rattle.plist_base.specs.declared.packed_scalar.PackedScalar.{PackedScalar}
use Rattle.plist_buffer.specs.declared.long_scalar.LongRef.{LongRef}
use Rattle.plist_buffer.specs.declared.long_scalar.LongScalar.{LongScalar}

-- the scalar that a `ScalarRef` refers to
abbrev pub scalar_of_ref : ScalarRef → Scalar
scalar_of_ref (lent.AsciiString text) = String text.now
scalar_of_ref (lent.Data bytes) = Data bytes.now
scalar_of_ref (lent.Packed scalar) = scalar_of_packed scalar
scalar_of_ref (lent.WideString units) = String (utf8_of_utf16 units.now)

-- these bytes are a string in UTF-16 that isn't ASCII
pub record IsWide (units : List ℕ) : Type 0 where
  pub valid : IsUtf16 units
  pub wide : is_ascii_text (utf8_of_utf16 units) ≡ false

-- if the scalar is given as a string in ASCII, it is one; if it is given as a string in UTF-16, it
-- is one, and isn't ASCII
abbrev pub IsStored : ScalarRef → Type 0
IsStored (lent.AsciiString text) = is_ascii_text text.now ≡ true
IsStored (lent.WideString units) = IsWide units.now
IsStored other = ⊤

-- a long scalar
abbrev pub scalar_of_long : LongScalar → Scalar
scalar_of_long stored = scalar_from (form_in stored.content) (bytes_stored stored.content)

-- the long scalar that a `LongRef` refers to
abbrev pub scalar_of_long_ref : LongRef → Scalar
scalar_of_long_ref lent = scalar_from lent.form lent.bytes.now

-- the event of a small scalar
abbrev pub event_of_small : PackedScalar → PlainEvent
event_of_small packed = ScalarEvent (scalar_of_packed packed)

-- the events of small scalars
abbrev pub events_of_small : List PackedScalar → List PlainEvent
events_of_small scalars = map event_of_small scalars

-- the event of a long scalar
abbrev pub event_of_long : LongScalar → PlainEvent
event_of_long stored = ScalarEvent (scalar_of_long stored)
