use Rattle.std.proofs.Common.{◌≡◌, ◌≤◌, ◌+◌, ◌++◌, ◌*◌, take}
use Rattle.std.specs.List.{flat_map}
use Rattle.plist_base.specs.FixedBuffers.{room}
use Rattle.plist_print.specs.EscapedLines.{hexadecimal}
use Rattle.plist_print.proofs.hexadecimal.push_blocks.Given as goal

abbrev pub invariant-loop-block : goal.invariant-loop-block
invariant-loop-block g l = record {
  pushed : l.line ≡ l.initial.line ++ flat_map hexadecimal (take l.block-index l.blocks);
  room : room l.initial.line ≤ room l.line + 2 * (l.block-index * g.row.N);
}
