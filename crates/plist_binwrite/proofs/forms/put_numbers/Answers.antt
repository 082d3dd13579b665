use Rattle.std.proofs.Common.{arith}
use Rattle.std.specs.Int.{bytes_high_first}
use Rattle.plist_base.proofs.SinkSteps.{puts_as, puts_then}
use Rattle.plist_binwrite.proofs.NumberForms.{one_part}
use Rattle.plist_binwrite.proofs.forms.put_numbers.Goals as goal

pub loop-index-preserved : goal.loop-index-preserved
loop-index-preserved g c =
    puts_as (one_part (bytes_high_first c.args.width) c.args.list.now c.loop-index.index
    (omega (arith, c.loop-index-test.true)))
    (puts_then c.loop-index.invariant c.put_number.ensures)
