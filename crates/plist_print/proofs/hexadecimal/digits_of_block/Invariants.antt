use Rattle.std.proofs.Common.{◌≡◌, ◌*◌, length, take}
use Rattle.plist_print.specs.EscapedLines.{hexadecimal}
use Rattle.plist_print.proofs.hexadecimal.digits_of_block.Given as goal

abbrev pub invariant-loop-index : goal.invariant-loop-index
invariant-loop-index g l = record {
  long : length l.digits ≡ 2 * g.row.N;
  so_far : take (2 * l.index) l.digits ≡ hexadecimal (take l.index l.bytes);
}
