use Rattle.std.proofs.Common.{◌≤◌, length}
use Rattle.plist_base.specs.FixedBuffers.{room}
use Rattle.plist_base.specs.Utf16Strings.{chars_left}
use Rattle.plist_print.specs.Utf16Lines.{PushesChars}
use Rattle.plist_print.proofs.utf16.push_chars.Given as goal

abbrev pub invariant-loop-line : goal.invariant-loop-line
invariant-loop-line l = record {
  pushed : PushesChars (l.fn.line, chars_left l.fn.chars) (l.line, chars_left l.left);
  room : 32 ≤ room l.line;
}

abbrev pub decreases-loop-line : goal.decreases-loop-line
decreases-loop-line l = length (chars_left l.left)
