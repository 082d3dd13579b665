-- Strings in UTF-16, in big-endian order.
use Rattle.std.specs.Prelude.{◌≡◌, ℕ, ◌+◌, ◌-◌, ◌*◌, ◌/◌, ◌%◌, ◌<◌, ◌≤◌, ◌&&◌, ◌||◌, nat_le, nat_lt, if◌then◌else◌, List, ◌∷◌, drop, length, slice_index, false, None, Some}
use Rattle.std.specs.Int.{bytes_high_first}
use Rattle.std.specs.List.{flat_map}
use Rattle.std.specs.Char.Escape.{encode_utf16}
use Rattle.std.specs.Char.{IsScalar, len_utf8}
use Rattle.std.specs.Char.Utf16.{has_unpaired_surrogate, utf16_chars, utf16_lossy_chars}
use Rattle.std.specs.Str.{chars, encode_utf8_all}
use Rattle.plist_base.specs.ByteTests.{EachByte}
use Rattle.plist_base.specs.Container.{number_at, numbers_spelled}

-- the units of a string
unfoldable pub units_of : List ℕ → List ℕ
units_of text = flat_map encode_utf16 (chars text)

-- the bytes of a string in UTF-16, two for each unit
abbrev pub utf16_form : List ℕ → List ℕ
utf16_form text = flat_map (bytes_high_first 2) (units_of text)

-- the characters that the units in these bytes encode
abbrev pub chars_of_utf16 : List ℕ → List ℕ
chars_of_utf16 bytes = utf16_lossy_chars (numbers_spelled 2 bytes)

-- the bytes in UTF-8 of the string that the units in these bytes encode
abbrev pub utf8_of_utf16 : List ℕ → List ℕ
utf8_of_utf16 bytes = encode_utf8_all (chars_of_utf16 bytes)

-- each surrogate among the units in these bytes is paired
abbrev pub ArePaired : List ℕ → Type 0
ArePaired bytes = has_unpaired_surrogate (numbers_spelled 2 bytes) ≡ false

-- these bytes are a string in UTF-16
pub record IsUtf16 (bytes : List ℕ) : Type 0 where
  pub whole : length bytes % 2 ≡ 0
  pub paired : ArePaired bytes
  pub form : bytes ≡ utf16_form (utf8_of_utf16 bytes)

-- the unit at an index
abbrev pub unit_at : List ℕ → (index : ℕ) → ℕ
unit_at bytes index = number_at bytes (index * 2) 2

-- how many bytes a unit adds to its string in UTF-8; the four bytes of the character of a surrogate
-- pair are those of two units
abbrev pub utf8_share : (unit : ℕ) → ℕ
utf8_share unit = if nat_lt unit 0x80 then 1 else
    (if nat_lt unit 0x800 || (nat_le 0xd800 unit && nat_lt unit 0xe000) then 2 else 3)

-- the unit at an index is an unpaired surrogate
abbrev pub IsUnpaired : List ℕ → (index : ℕ) → Type 0
IsUnpaired bytes index = utf16_chars (drop index (numbers_spelled 2 bytes))
    ≡ None ∷ utf16_chars (drop (index + 1) (numbers_spelled 2 bytes))

-- the units from an index on encode this character, which ends at the second number, and others
pub record IsNextChar (bytes : List ℕ) (index : ℕ) (found : ℕ × ℕ) : Type 0 where
  pub after : index < found.1
  pub within : found.1 ≤ length bytes / 2
  pub size : len_utf8 found.0 ≤ 3 * (found.1 - index)
  pub scalar : IsScalar found.0
  pub chars : utf16_chars (drop index (numbers_spelled 2 bytes))
      ≡ Some found.0 ∷ utf16_chars (drop found.1 (numbers_spelled 2 bytes))

-- the first eight units in these bytes are ASCII, and these are their second bytes
pub record IsAsciiBlock (bytes block : List ℕ) : Type 0 where
  pub long : length block ≡ 8
  pub first : (k : ℕ) → k < 8 → slice_index bytes (2 * k) ≡ 0
  pub second : (k : ℕ) → k < 8 → slice_index bytes (2 * k + 1) ≡ slice_index block k
  pub ascii : EachByte (λ byte. byte < 128) block
