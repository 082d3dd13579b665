use Rattle.std.proofs.Common.{ap, sym, ◌∙◌}
use Rattle.plist_base.specs.Events.{ScalarEvent}
use Rattle.plist_base.specs.Packing.{scalar_of_kind}
use Rattle.plist_buffer.specs.StoredScalars.{scalar_of_ref}
use Rattle.plist_buffer.proofs.event_table.EventTable.is_string_at.Goals as goal

pub returns-in-String : goal.returns-in-String
returns-in-String c = λ _. (
  _,
  c.in-Some-Packed.ensures.some
      ∙ ap (λ scalar. ScalarEvent (scalar_of_ref scalar)) c.in-Some-Packed.field-0-is
      ∙ ap (λ kind. ScalarEvent (scalar_of_kind kind c.in-Some-Packed.scalar.content))
      (sym c.kind.ensures ∙ c.in-String.is),
)

pub returns-in-Some-AsciiString : goal.returns-in-Some-AsciiString
returns-in-Some-AsciiString c = λ _.
    (_, rw c.in-Some-AsciiString.field-0-is at c.in-Some-AsciiString.ensures.some)

pub returns-in-Some-WideString : goal.returns-in-Some-WideString
returns-in-Some-WideString c = λ _.
    (_, rw c.in-Some-WideString.field-0-is at c.in-Some-WideString.ensures.some)
