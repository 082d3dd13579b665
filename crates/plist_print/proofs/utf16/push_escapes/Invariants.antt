use Rattle.std.proofs.Common.{◌≡◌, ◌≤◌, ◌+◌, ◌*◌, ◌++◌, take}
use Rattle.plist_base.specs.FixedBuffers.{room}
use Rattle.plist_print.specs.EscapedLines.{escaped_text}
use Rattle.plist_print.proofs.utf16.push_escapes.Given as goal

abbrev pub invariant-loop-byte : goal.invariant-loop-byte
invariant-loop-byte l = record {
  pushed : l.line ≡ l.initial.line ++ escaped_text (take l.byte-index l.bytes);
  room : room l.initial.line ≤ room l.line + 4 * l.byte-index;
}
