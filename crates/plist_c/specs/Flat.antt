-- The records of events, and the bytes of their strings and data.
use Rattle.std.specs.Prelude.{ℕ, ℤ, pos, ◌+◌, List, [], ◌∷◌, ◌++◌, Option, None, Some, length, ⊤}
use Rattle.std.specs.Int.{cast_unsigned, from_be_bytes, from_bool, w32, w64}
use Rattle.std.specs.Str.{IsUtf8}
use Rattle.plist_base.specs.declared.real.RealBits.{RealBits}
use Rattle.plist_base.specs.declared.real.RealBits.TheVariants.{Four, Eight}
use Rattle.plist_base.specs.Events.{PlainEvent, StartArray, StartDictionary, EndCollection, ScalarEvent, text_or_data}
use Rattle.plist_base.specs.Trees.{Scalar, Boolean, Data, Date, Integer, Real, String, Uid}
use Rattle.plist_c.specs.declared.flat.FlatEvent.{FlatEvent}

-- a record of this kind
abbrev pub flat : (kind number size : ℕ) → FlatEvent
flat kind number size = record { kind = kind; number = number; size = size }

-- the start of a collection; `size` is 1 if the number is its length
abbrev pub flat_start : (kind : ℕ) → Option ℕ → FlatEvent
flat_start kind None = flat kind 0 0
flat_start kind (Some length) = flat kind length 1

-- an integer; `size` is 1 if it is negative, and then the number is its two's complement
abbrev pub flat_integer : ℤ → FlatEvent
flat_integer (pos n) = flat 7 n 0
flat_integer z = flat 7 (cast_unsigned w64 z) 1

-- the bits of a real, and how many bytes it has
abbrev pub flat_real : RealBits → FlatEvent
flat_real (Four bytes) = flat 8 (from_be_bytes w32 bytes) 4
flat_real (Eight bytes) = flat 8 (from_be_bytes w64 bytes) 8

-- a scalar; a string or data begins at this index of the bytes
abbrev pub flat_scalar : (place : ℕ) → Scalar → FlatEvent
flat_scalar place (Boolean value) = flat 4 (from_bool value) 0
flat_scalar place (Data bytes) = flat 5 place (length bytes)
flat_scalar place (Date bytes) = flat 6 (from_be_bytes w64 bytes) 0
flat_scalar place (Integer value) = flat_integer value
flat_scalar place (Real bits) = flat_real bits
flat_scalar place (String text) = flat 9 place (length text)
flat_scalar place (Uid number) = flat 10 number 0

-- the record of an event; a string or data begins at this index of the bytes
abbrev pub flat_of : (place : ℕ) → PlainEvent → FlatEvent
flat_of place (StartArray length) = flat_start 1 length
flat_of place (StartDictionary length) = flat_start 2 length
flat_of place EndCollection = flat 3 0 0
flat_of place (ScalarEvent scalar) = flat_scalar place scalar

-- the records of events; the first string or data begins at this index of the bytes
abbrev pub flat_events : (place : ℕ) → List PlainEvent → List FlatEvent
flat_events place [] = []
flat_events place (event ∷ events) =
    flat_of place event ∷ flat_events (place + length (text_or_data event)) events

-- the bytes of all strings and data, in order
abbrev pub bytes_of : List PlainEvent → List ℕ
bytes_of [] = []
bytes_of (event ∷ events) = text_or_data event ++ bytes_of events

-- if the event is a string, it is UTF-8
abbrev pub IsUtf8Event : PlainEvent → Type 0
IsUtf8Event (ScalarEvent (String text)) = IsUtf8 text
IsUtf8Event event = ⊤

-- each string is UTF-8
abbrev pub AreUtf8Events : List PlainEvent → Type 0
AreUtf8Events [] = ⊤
AreUtf8Events (event ∷ events) = IsUtf8Event event × AreUtf8Events events
