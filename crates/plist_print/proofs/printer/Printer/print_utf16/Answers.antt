use Rattle.std.proofs.Common.{◌++◌, ap, append_assoc, codes, sym, ◌∙◌}
use Rattle.plist_base.specs.Utf16Strings.{string_of_utf16}
use Rattle.plist_print.specs.EscapedLines.{escaped_chars, escaped_text}
use Rattle.plist_print.proofs.Printers.{prints_as, prints_closed, prints_pushed, prints_then}
use Rattle.plist_print.proofs.printer.Printer.print_utf16.Goals as goal

pub returns : goal.returns
returns g c =
    let text = escaped_text (string_of_utf16 c.args.text) in
    prints_as (ap (λ l. codes "String \"" ++ l) (ap (λ l. escaped_chars l ++ codes "\"\n") c.chars.ensures
    ∙ sym (append_assoc text (codes "\"") (codes "\n"))))
    (prints_then (prints_pushed _ c.in_ok-make_room.ensures.put c.push.ensures.pushed)
    c.print_chars.ensures)

pub returns-in_err-make_room : goal.returns-in_err-make_room
returns-in_err-make_room g c =
    rw c.from_residual.ensures (prints_closed _ c.in_err-make_room.ensures.put)
