use Rattle.plist_base.proofs.SinkSteps.{puts_then}
use Rattle.plist_print.proofs.Printers.{puts_pushed}
use Rattle.plist_print.proofs.printer.put_block.Goals as goal

pub returns : goal.returns
returns g c = puts_then c.make_room.ensures.put (puts_pushed c.push_bytes.ensures)
