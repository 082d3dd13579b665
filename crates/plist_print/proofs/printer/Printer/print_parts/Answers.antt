use Rattle.plist_base.proofs.SinkSteps.{puts_then}
use Rattle.plist_print.proofs.printer.Printer.print_parts.Goals as goal

pub returns : goal.returns
returns g c = record {
  put = puts_then (puts_then c.put.ensures c.put_blocks.ensures) c.put-2.ensures;
  working = λ is before. c.flow.ensures.working is;
  stopped = c.flow.ensures.stopped;
}
