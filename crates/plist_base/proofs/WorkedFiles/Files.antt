-- How the worked examples denote a file and its items.
use Rattle.std.specs.Prelude.{⊤, ℕ, ◌≡◌, map, Some, Ok, Err, ◌+◌, ◌-◌, ◌*◌, not, filter, List, [], ◌∷◌, ◌++◌, ◌==◌, nat_lt, if◌then◌else◌, codes}
use Prim.Native.String.{String}
use Rattle.std.specs.Int.{bytes_high_first}
use Rattle.std.specs.Str.{is_utf8, chars}
use Rattle.std.specs.Char.Utf16.{utf16_chars}
use lib.Utf8.{encode}
use Rattle.plist_base.specs.Events.{Item, StartArray, StartDictionary, EndCollection, ScalarEvent}
use Rattle.plist_base.specs.Faults.{FaultKind, fault_at}
use Rattle.plist_base.specs.Trees.{Scalar}
use Rattle.plist_base.specs.Date.{real_exponent, real_mantissa, real_scale, parts_in_second, parts_of, whole_seconds, parts_left, real_second, second_of_bits}
use Rattle.plist_base.specs.Container.{Trailer, magic, head_of}
use Rattle.plist_base.specs.Object.{object_in}
use Rattle.plist_base.specs.Unfolding.{unfolding_of, items_of_file}

-- the value of a hexadecimal digit: 0 to 9, or a to f
abbrev pub digit_value : (code : ℕ) → ℕ
digit_value code = if nat_lt code 58 then code - 48 else code - 87

-- the bytes that these hexadecimal digits spell, two for each byte
abbrev pub bytes_of_digits : List ℕ → List ℕ
bytes_of_digits (high ∷ low ∷ rest) =
    (16 * digit_value high + digit_value low) ∷ bytes_of_digits rest
bytes_of_digits rest = []

-- the bytes that a string spells in hexadecimal, in which spaces are ignored
abbrev pub hex : String → List ℕ
hex text = bytes_of_digits (filter (λ code. not (code == 32)) (codes text))

-- the trailer with these widths, count of objects, index of the root, and offset of the table
abbrev pub trailer : (offset_width reference_width count root table : ℕ) → Trailer
trailer offset_width reference_width count root table = record {
  offset_width = offset_width;
  reference_width = reference_width;
  count = count;
  root = root;
  table = table;
}

-- the bytes that encode a trailer
abbrev pub bytes_of_trailer : Trailer → List ℕ
bytes_of_trailer t =
    hex "000000000000" ++ t.offset_width ∷ t.reference_width
    ∷ bytes_high_first 8 t.count ++ bytes_high_first 8 t.root ++ bytes_high_first 8 t.table

-- a file of the magic, the objects and the table in hexadecimal, and the trailer
abbrev pub file : (objects : String) → Trailer → List ℕ
file objects t = magic ++ hex objects ++ bytes_of_trailer t

-- a file of the magic, the table, one object at offset 9 in hexadecimal, and the trailer
abbrev pub one_object : String → List ℕ
one_object object = magic ++ 9 ∷ hex object ++ bytes_of_trailer (trailer 1 1 1 0 8)

-- ---- the items of a file

-- the items that consist of this fault at this offset
abbrev pub refused : FaultKind → (place : ℕ) → List Item
refused kind place = Err (fault_at kind place) ∷ []

-- the item of a scalar
abbrev pub scalar : Scalar → Item
scalar value = Ok (ScalarEvent value)

-- the item that begins an array of this many items
abbrev pub array : (items : ℕ) → Item
array items = Ok (StartArray (Some items))

-- the item that begins a dictionary of this many pairs
abbrev pub dictionary : (pairs : ℕ) → Item
dictionary pairs = Ok (StartDictionary (Some pairs))

-- the item that ends a collection
abbrev pub close : Item
close = Ok EndCollection

-- each of these files unfolds to the items that are paired with it
abbrev pub AreWorked : List (List ℕ × List Item) → Type 0
AreWorked examples =
    map (λ example. items_of_file example.0) examples ≡ map (λ example. example.1) examples

-- names the definitions that have to be unfolded to compute the items of a file
unfoldable pub worked_files : ⊤
unfolding head_of object_in unfolding_of items_of_file is_utf8 chars encode utf16_chars
    real_exponent
    real_mantissa real_scale parts_in_second parts_of whole_seconds parts_left real_second
    second_of_bits
worked_files = tt
