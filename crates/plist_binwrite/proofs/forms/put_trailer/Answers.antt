use Rattle.plist_base.proofs.SinkSteps.{puts_then}
use Rattle.plist_binwrite.proofs.forms.put_trailer.Goals as goal

pub returns : goal.returns
returns g c =
    rw (← c.offset_width-wide.ensures.value, ← c.reference_width-narrow.ensures.value)
    (puts_then c.put.ensures c.put_numbers.ensures)
