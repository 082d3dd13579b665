use Rattle.plist_base.proofs.SinkSteps.{puts_then}
use Rattle.plist_binwrite.proofs.NumberForms.{length_long, length_short}
use Rattle.plist_binwrite.proofs.forms.put_length.Goals as goal

pub returns-in-Some : goal.returns-in-Some
returns-in-Some g c =
    rw (length_short _ _ c.in-Some.ensures.short.1)
    (rw c.in-Some.ensures.short.0 at c.put_marked.ensures)

pub returns-in-None : goal.returns-in-None
returns-in-None g c =
    rw (length_long _ _ c.in-None.ensures.long)
    (puts_then (rw c.follows.ensures at c.put_marked-in-None.ensures) c.put_unsigned.ensures)
