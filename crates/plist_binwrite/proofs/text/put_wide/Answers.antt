use Rattle.std.proofs.Common.{refl}
use Rattle.plist_base.proofs.SinkSteps.{puts_as, puts_then}
use Rattle.plist_base.specs.Utf16.{utf8_of_utf16}
use Rattle.plist_binwrite.proofs.TextForms.{wide_object}
use Rattle.plist_binwrite.proofs.text.put_wide.Goals as goal

pub returns : goal.returns
returns g c =
    let units = c.args.units.now in
    puts_as (wide_object units (utf8_of_utf16 units) c.requires.valid refl c.requires.wide)
    (puts_then c.put_length.ensures c.put.ensures)
