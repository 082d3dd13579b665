use Rattle.std.proofs.Common.{length}
use Rattle.plist_base.specs.Utf16Strings.{chars_left}
use Rattle.plist_decode.specs.Utf16Writing.{WritesChars}
use Rattle.plist_decode.proofs.utf16.write_chars.Given as goal

abbrev pub invariant-loop-end : goal.invariant-loop-end
invariant-loop-end l =
    WritesChars (0, l.fn.text, chars_left l.fn.chars) (l.size, l.text, chars_left l.left)

abbrev pub decreases-loop-end : goal.decreases-loop-end
decreases-loop-end l = length (chars_left l.left)
