use Rattle.plist_print.proofs.Printers.{prints_pushed}
use Rattle.plist_print.proofs.printer.Printer.print_data.Goals as goal

pub returns : goal.returns
returns g c = prints_pushed _ c.make_room-flow.ensures.put c.push_data.ensures
