use Rattle.std.proofs.Common.{◌≡◌, length}
use Rattle.plist_base.specs.Utf16Strings.{chars_left}
use Rattle.plist_decode.specs.Utf16Writing.{WritesChars}
use Rattle.plist_decode.proofs.utf16.write_next.Given as goal

abbrev pub invariant-loop-c : goal.invariant-loop-c
invariant-loop-c l = record {
  written : WritesChars (l.size, l.initial.text, chars_left l.initial.chars)
      (l.end, l.text, chars_left l.chars);
  length : length l.text ≡ length l.initial.text;
}
