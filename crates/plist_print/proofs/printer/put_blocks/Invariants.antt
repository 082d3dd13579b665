use Rattle.std.proofs.Common.{◌≡◌, ◌++◌, ℕ, List, length}
use Rattle.plist_base.specs.Sinks.{Puts}
use Rattle.plist_print.specs.EscapedLines.{in_notation}
use Rattle.plist_print.proofs.printer.put_blocks.Given as goal

abbrev pub invariant-loop-block : goal.invariant-loop-block
invariant-loop-block g l = record {
  done : List ℕ;
  whole : done ++ in_notation l.notation l.rest ≡ in_notation l.notation l.bytes;
  put : Puts g.W.Write.contents l.initial.sink done l.sink;
}

abbrev pub decreases-loop-block : goal.decreases-loop-block
decreases-loop-block g l = length l.rest
