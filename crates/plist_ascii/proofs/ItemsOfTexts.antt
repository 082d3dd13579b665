-- Worked examples: short texts and their items.
use Rattle.std.specs.Prelude.{◌≡◌, ℕ, Bool, List, [], ◌∷◌, map, pos, None, Ok, Err, refl, codes}
use Prim.Native.String.{String}
use Rattle.std.specs.Str.{is_utf8, chars}
use lib.Utf8.{encode}
use Rattle.plist_base.specs.Faults.{FaultKind, fault_at, UnclosedString, IncompleteComment, InvalidUtf8AsciiStream, InvalidOctalString, InvalidUtf16String}
use Rattle.plist_base.specs.Events.{Item, StartArray, StartDictionary, EndCollection, ScalarEvent}
use Rattle.plist_base.specs.Trees as trees
use Rattle.plist_base.specs.IntegerText.{integer_of_text}
use Rattle.plist_ascii.specs.Texts.{lax_stops, tight_stops, bare_event, quoted_event, quoted_in}
use Rattle.plist_ascii.specs.Escapes.{octal_char, octal_text, escape}
use Rattle.plist_ascii.specs.Ascii.{token, items_in, items_of_ascii}

-- the item of a string
abbrev text : String → Item
text s = Ok (ScalarEvent (trees.String (codes s)))

-- the item of an integer
abbrev number : ℕ → Item
number n = Ok (ScalarEvent (trees.Integer (pos n)))

-- the item of an array's start
abbrev array : Item
array = Ok (StartArray None)

-- the item of a dictionary's start
abbrev dictionary : Item
dictionary = Ok (StartDictionary None)

-- the item of an end
abbrev close : Item
close = Ok EndCollection

-- the item of a fault at this offset
abbrev refused : FaultKind → (place : ℕ) → Item
refused kind place = Err (fault_at kind place)

-- each text, in which a character is one byte, has the items in its row
abbrev AreRead : (stops : ℕ → Bool) → List (String × List Item) → Type 0
AreRead stops rows =
    map (λ row. items_of_ascii stops (codes row.0) 0) rows ≡ map (λ row. row.1) rows

-- comments and bare strings in the lax dialect
bare_texts : AreRead lax_stops (
    -- a slash begins a bare string
    ("/abc", text "/abc" ∷ [])
    -- a slash alone is a bare string
    ∷ ("/ a", text "/" ∷ text "a" ∷ [])
    -- the shortest comment
    ∷ ("/**/a", text "a" ∷ [])
    -- one star can't both open and close a comment
    ∷ ("/*/", refused IncompleteComment 3 ∷ [])
    -- the first star that a slash follows closes the comment
    ∷ ("/* * */z", text "z" ∷ [])
    -- the input ends after a slash
    ∷ ("/", refused IncompleteComment 1 ∷ [])
    -- a line comment ends at the end of the input
    ∷ ("//x", [])
    -- a bare string contains no comments
    ∷ ("a/*x*/ b", text "a/*x*/" ∷ text "b" ∷ [])
    -- = and } don't end a bare string
    ∷ ("{a=b}", dictionary ∷ text "a=b}" ∷ [])
    -- LF doesn't end a bare string
    ∷ ("(a\n)", array ∷ text "a\n" ∷ close ∷ [])
    -- numbers
    ∷ ("(42, 0x10)", array ∷ number 42 ∷ number 16 ∷ close ∷ [])
    -- what other readers read as data is a string
    ∷ ("(<00ff>)", array ∷ text "<00ff>" ∷ close ∷ [])
    -- invalid UTF-8
    ∷ ("ÿ", refused InvalidUtf8AsciiStream 1 ∷ [])
    -- empty input
    ∷ ("", []) ∷ [])
unfolding items_in token bare_event integer_of_text quoted_in quoted_event escape octal_char is_utf8
    chars encode
bare_texts = refl

-- quoted strings
quoted_texts : AreRead lax_stops (
    -- the input ends in a string
    ("\"ab", refused UnclosedString 3 ∷ [])
    -- the two bytes after the first digit are taken before they are checked
    ∷ ("\"\\12\"", refused InvalidOctalString 5 ∷ [])
    -- an undefined escape
    ∷ ("\"\\9\"", refused InvalidUtf8AsciiStream 3 ∷ refused UnclosedString 4 ∷ [])
    -- numbers from 128 to 255 are NeXTSTEP's, and those above are Unicode's
    ∷ ("\"\\200\\377\\400\"", text "Â\u{a0}ï¿½Ä\u{80}" ∷ [])
    -- a plus sign isn't a digit
    ∷ ("\"\\U+123\"", refused InvalidUtf16String 7 ∷ refused UnclosedString 8 ∷ [])
    -- a surrogate pair
    ∷ ("\"\\UD83D\\UDCA9\"", text "ð\u{9f}\u{92}©" ∷ [])
    -- the second unit begins with a small letter
    ∷ ("\"\\UD83D\\uDCA9\"", text "ð\u{9f}\u{92}©" ∷ [])
    -- the second unit is missing
    ∷ ("\"\\UD83Dx\"", refused InvalidUtf16String 8 ∷ refused UnclosedString 9 ∷ [])
    -- a pair in the wrong order is taken as a whole
    ∷ ("\"\\UDCA9\\UD83D\"", refused InvalidUtf16String 13 ∷ refused UnclosedString 14 ∷ [])
    -- the input ends among the digits
    ∷ ("\"\\U12", refused UnclosedString 5 ∷ [])
    -- the letter after the backslash is missing
    ∷ ("\"\\UD83D\\", refused InvalidUtf16String 8 ∷ [])
    -- a small `u` begins no escape
    ∷ ("\"\\u0080\"", refused InvalidUtf8AsciiStream 3 ∷ text "0080\"" ∷ [])
    -- escapes of letters
    ∷ ("'it\\'s\\n'", text "it's\n" ∷ []) ∷ [])
unfolding items_in token bare_event integer_of_text quoted_in quoted_event escape octal_char
    octal_text is_utf8 chars encode
quoted_texts = refl

-- the tight dialect
tight_texts : AreRead tight_stops (
    -- = and } end a bare string
    ("{a=b}", dictionary ∷ text "a" ∷ text "b" ∷ close ∷ [])
    -- LF ends a bare string
    ∷ ("(a\n)", array ∷ text "a" ∷ close ∷ [])
    -- numbers
    ∷ ("{k=0x10}", dictionary ∷ text "k" ∷ number 16 ∷ close ∷ [])
    -- a slash before a stop
    ∷ ("/=", text "/" ∷ [])
    -- =, } and LF don't end a quoted string
    ∷ ("'=}\n'", text "=}\n" ∷ [])
    -- = and } don't end a quoted string that isn't closed
    ∷ ("'=}", refused UnclosedString 3 ∷ [])
    -- = and } don't end a comment
    ∷ ("/*=}*/ //=}", []) ∷ [])
unfolding items_in token bare_event integer_of_text quoted_in quoted_event escape octal_char is_utf8
    chars encode
tight_texts = refl
