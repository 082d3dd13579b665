use Rattle.std.proofs.Common.{◌≡◌, ◌+◌, ◌≤◌, length, false, true}
use Rattle.std.specs.Str.{encode_utf8_all}
use Rattle.plist_base.specs.Utf16Strings.{chars_left, string_of_utf16}
use Rattle.plist_buffer.specs.inner.LongContents.{is_ascii_text}
use Rattle.plist_buffer.proofs.wide.is_long_wide.Given as goal

-- the string isn't ASCII if a character so far isn't, or the characters that are left aren't; it
-- has the bytes that were counted, and those of the characters that are left
abbrev pub invariant-loop-c : goal.invariant-loop-c
invariant-loop-c l = record {
  long : l.count + length (encode_utf8_all (chars_left l.c-iterator))
      ≤ length (string_of_utf16 l.text);
  wide : l.is_wide ≡ true → is_ascii_text (string_of_utf16 l.text) ≡ false;
  later : is_ascii_text (encode_utf8_all (chars_left l.c-iterator)) ≡ false
      → is_ascii_text (string_of_utf16 l.text) ≡ false;
}
