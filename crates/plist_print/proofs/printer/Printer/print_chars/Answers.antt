use Rattle.std.proofs.Common.{◌++◌, [], ap, append-nil, append_assoc, arith, codes, refl, sym, ◌∙◌}
use Rattle.std.specs.declared.ops.ControlFlow.TheVariants.{Break, Continue}
use Rattle.plist_base.specs.Utf16Strings.{chars_left}
use Rattle.plist_print.specs.EscapedLines.{escaped_chars}
use Rattle.plist_print.proofs.Printers.{prints_as, prints_closed, prints_none, prints_pushed, prints_written}
use Rattle.plist_print.proofs.Utf16Lines.{chars-append, prints_chars}
use Rattle.plist_print.proofs.printer.Printer.print_chars.Goals as goal

pub loop-self-init : goal.loop-self-init
loop-self-init g c = record {
  printed = record { done = []; left = refl; put = prints_none };
  room = c.requires;
}

pub loop-self-preserved : goal.loop-self-preserved
loop-self-preserved g c =
    let p = prints_chars c.loop-self.invariant.printed c.push_chars.ensures.pushed in
    let wrote = c.in_ok-write_pending.ensures in
    record {
      printed = record {
        done = p.done;
        left = p.left;
        put = prints_written {flow = Continue tt} p.put wrote.put;
      };
      room = omega (arith, wrote.room);
    }

pub returns-in_err-write_pending : goal.returns-in_err-write_pending
returns-in_err-write_pending g c =
    let p = prints_chars c.loop-self.invariant.printed c.push_chars.ensures.pushed in
    let rest = chars_left c.push_chars.new.chars in
    rw c.from_residual.ensures (prints_as (sym (append_assoc (escaped_chars p.done) _ _)
    ∙ ap (λ l. l ++ codes "\"\n") (chars-append p.done rest ∙ ap escaped_chars (sym p.left)))
    (prints_closed (escaped_chars rest ++ codes "\"\n")
    (prints_written {flow = Break tt} p.put c.in_err-write_pending.ensures.put)))

pub returns : goal.returns
returns g c =
    let p = prints_chars c.loop-self.invariant.printed c.push_chars.ensures.pushed in
    let none = c.push_chars.ensures.all c.loop-self-test.false in
    prints_as (ap (λ l. escaped_chars l ++ codes "\"\n")
    (sym (p.left ∙ ap (λ l. p.done ++ l) none ∙ append-nil p.done)))
    (prints_pushed _ p.put c.push.ensures.pushed)
