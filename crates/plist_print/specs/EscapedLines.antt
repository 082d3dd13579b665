-- The lines that are printed for a property list.
use Rattle.std.specs.Prelude.{ℕ, ℤ, ◌+◌, ◌/◌, ◌%◌, Bool, true, false, not, ◌&&◌, List, [], ◌∷◌, ◌++◌, Option, None, Some, Ok, Err, map, ◌==◌, nat_le, nat_lt, if◌then◌else◌, codes}
use Rattle.std.specs.List.{flat_map}
use Rattle.std.specs.Fmt.{decimal, signed_decimal}
use Rattle.std.specs.Str.{encode_utf8_all}
use Rattle.plist_base.specs.declared.real.RealBits.{RealBits}
use Rattle.plist_base.specs.declared.real.RealBits.TheVariants.{Four, Eight}
use Rattle.plist_base.specs.Faults.{Fault}
use Rattle.plist_base.specs.Date.{real_bits, second_of_bytes, has_fraction}
use Rattle.plist_base.specs.Events.{PlainEvent, StartArray, StartDictionary, EndCollection, ScalarEvent, Item}
use Rattle.plist_base.specs.Trees.{Scalar, Boolean, Data, Date, Integer, Real, String, Uid}
use Rattle.plist_print.specs.declared.lines.Notation.{Notation}
use Rattle.plist_print.specs.declared.lines.Notation.TheVariants as notation

-- the digit of a value below 16: 0 to 9, or a to f
abbrev pub hexadecimal_digit : ℕ → ℕ
hexadecimal_digit value = if nat_lt value 10 then 48 + value else 87 + value

-- whether a byte of a string is printed as it is: printable ASCII is, except the backslash and the
-- quote
abbrev pub stands_for_itself : ℕ → Bool
stands_for_itself byte =
    nat_le 0x20 byte && nat_le byte 0x7e && not (byte == 0x5c) && not (byte == 0x22)

-- how a byte of a string is printed: as it is, or as a backslash, an x and two hexadecimal digits
abbrev pub escaped_byte : ℕ → List ℕ
escaped_byte byte =
    if stands_for_itself byte then byte ∷ []
    else codes "\\x" ++ hexadecimal_digit (byte / 16) ∷ hexadecimal_digit (byte % 16) ∷ []

-- how a string is printed, between its quotes
abbrev pub escaped_text : List ℕ → List ℕ
escaped_text bytes = flat_map escaped_byte bytes

-- how the characters of a string are printed, as the bytes of each in UTF-8 are
abbrev pub escaped_chars : List ℕ → List ℕ
escaped_chars chars = escaped_text (encode_utf8_all chars)

-- the printed form of a start: its word, and after a space its length, if that is known
abbrev pub text_of_start : (word : List ℕ) → (length : Option ℕ) → List ℕ
text_of_start word None = word
text_of_start word (Some length) = word ++ codes " " ++ decimal length

-- bytes as hexadecimal digits, two for each byte
abbrev pub hexadecimal : List ℕ → List ℕ
hexadecimal bytes =
    flat_map (λ byte. hexadecimal_digit (byte / 16) ∷ hexadecimal_digit (byte % 16) ∷ []) bytes

-- the printed form of bytes, as in a string or as in data
abbrev pub in_notation : Notation → List ℕ → List ℕ
in_notation notation.Text bytes = escaped_text bytes
in_notation notation.Hexadecimal bytes = hexadecimal bytes

-- the printed form of data after its word: a space and the bytes, or nothing if there are none
abbrev pub text_of_data : List ℕ → List ℕ
text_of_data [] = []
text_of_data (byte ∷ bytes) = codes " " ++ hexadecimal (byte ∷ bytes)

-- the printed form of a real after its word: its bytes
abbrev pub text_of_real : RealBits → List ℕ
text_of_real (Four bytes) = hexadecimal bytes
text_of_real (Eight bytes) = hexadecimal bytes

-- the printed form of a date after its word: its second and, if it has a fraction, a space and its
-- bytes
abbrev pub text_of_date : (bytes : List ℕ) → List ℕ
text_of_date bytes =
    text_of_second (second_of_bytes bytes)
    ++ (if has_fraction (real_bits bytes) then codes " " ++ hexadecimal bytes else [])
  where
    text_of_second : Option ℤ → List ℕ
    text_of_second None = []
    text_of_second (Some second) = signed_decimal second

-- the printed form of a scalar
abbrev pub words_of_scalar : Scalar → List ℕ
words_of_scalar (Boolean true) = codes "Boolean true"
words_of_scalar (Boolean false) = codes "Boolean false"
words_of_scalar (Data bytes) = codes "Data" ++ text_of_data bytes
words_of_scalar (Date bytes) = codes "Date " ++ text_of_date bytes
words_of_scalar (Integer number) = codes "Integer " ++ signed_decimal number
words_of_scalar (Real bits) = codes "Real " ++ text_of_real bits
words_of_scalar (String bytes) = codes "String \"" ++ escaped_text bytes ++ codes "\""
words_of_scalar (Uid number) = codes "Uid " ++ decimal number

-- the printed form of an event
abbrev pub event_text : PlainEvent → List ℕ
event_text (StartArray length) = text_of_start (codes "StartArray") length
event_text (StartDictionary length) = text_of_start (codes "StartDictionary") length
event_text EndCollection = codes "EndCollection"
event_text (ScalarEvent scalar) = words_of_scalar scalar

-- the line of an event, with its LF
abbrev pub line_of : PlainEvent → List ℕ
line_of event = event_text event ++ codes "\n"

-- the lines of the events before the first fault
abbrev pub lines_of : List Item → List ℕ
lines_of [] = []
lines_of (Ok event ∷ items) = line_of event ++ lines_of items
lines_of (Err fault ∷ items) = []

-- the lines of events
abbrev pub lines_of_events : List PlainEvent → List ℕ
lines_of_events events = lines_of (map Ok events)

-- the first fault, if there is one
abbrev pub first_fault : List Item → Option Fault
first_fault [] = None
first_fault (Ok event ∷ items) = first_fault items
first_fault (Err fault ∷ items) = Some fault
