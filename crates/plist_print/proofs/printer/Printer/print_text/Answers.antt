use Rattle.plist_print.proofs.Printers.{prints_pushed}
use Rattle.plist_print.proofs.printer.Printer.print_text.Goals as goal

pub returns : goal.returns
returns g c =
    prints_pushed _ c.make_room-flow.ensures.put (rw c.as_bytes.ensures.value at c.push_text_line.ensures)
