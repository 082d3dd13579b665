use Rattle.std.proofs.Common.{◌∷◌, ap, arith, sym}
use Rattle.plist_base.proofs.SinkSteps.{puts_as, puts_then}
use Rattle.plist_binwrite.proofs.NumberForms.{wide_is}
use Rattle.plist_binwrite.proofs.forms.put_wide_integer.Goals as goal

pub returns : goal.returns
returns g c =
    puts_as (ap (λ l. 0x14 ∷ l) (sym (wide_is c.args.number (omega (arith, c.ranges.number.fits)))))
    (puts_then c.put_marked_number.ensures c.put_number.ensures)
