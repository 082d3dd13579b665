use Rattle.std.proofs.Common.{◌≡◌, ◌≤◌, ◌+◌, ◌*◌, ◌++◌, take}
use Rattle.plist_base.specs.FixedBuffers.{room}
use Rattle.plist_print.specs.EscapedLines.{hexadecimal}
use Rattle.plist_print.proofs.hexadecimal.push_digits.Given as goal

abbrev pub invariant-loop-byte : goal.invariant-loop-byte
invariant-loop-byte l = record {
  pushed : l.line ≡ l.initial.line ++ hexadecimal (take l.byte-index l.bytes);
  room : room l.initial.line ≤ room l.line + 2 * l.byte-index;
}
