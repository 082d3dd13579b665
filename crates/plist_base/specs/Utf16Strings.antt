-- What contracts see of a string in UTF-16, and of the iterator over its characters.
use Rattle.std.specs.Prelude.{ℕ, List, drop}
use Rattle.std.specs.Char.Utf16.{utf16_lossy_chars}
use Rattle.plist_base.specs.Container.{numbers_spelled}
use Rattle.plist_base.specs.Utf16.{utf8_of_utf16}
use Rattle.plist_base.specs.declared.utf16.Utf16Chars.{Utf16Chars}
use Rattle.plist_base.specs.declared.utf16.Utf16Str.{Utf16Str}

-- the bytes of the string in UTF-8
abbrev pub string_of_utf16 : Utf16Str → List ℕ
string_of_utf16 text = utf8_of_utf16 text.bytes.now

-- the characters that an iterator still has to yield
abbrev pub chars_left : Utf16Chars → List ℕ
chars_left chars = utf16_lossy_chars (drop chars.at (numbers_spelled 2 chars.bytes.now))
