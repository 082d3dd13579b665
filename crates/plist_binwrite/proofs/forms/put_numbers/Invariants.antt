use Rattle.std.proofs.Common.{take}
use Rattle.plist_binwrite.specs.Forms.{table_form}
use Rattle.plist_base.specs.Sinks.{Puts}
use Rattle.plist_binwrite.proofs.forms.put_numbers.Given as goal

abbrev pub invariant-loop-index : goal.invariant-loop-index
invariant-loop-index g l =
    Puts g.W.Write.contents l.initial.sink (table_form l.width (take l.index l.list)) l.sink
