use Rattle.std.proofs.Common.{◌∙◌, ap}
use Rattle.plist_base.specs.Trees.{String}
use Rattle.plist_base.specs.Utf16.{utf8_of_utf16}
use Rattle.plist_base.proofs.Utf16Forms.{form_back}
use Rattle.plist_buffer.proofs.LongScalars.{wide_long}
use Rattle.plist_buffer.proofs.long_scalar.LongScalar.encode.Goals as goal

pub new-requires : goal.new-requires
new-requires c =
    rw c.in_ok-units.ensures
    (wide_long c.args.text.now c.utf8.text c.requires.long c.requires.wide)

pub returns : goal.returns
returns c =
    c.new.ensures ∙ ap (λ units. String (utf8_of_utf16 units)) c.in_ok-units.ensures
    ∙ ap String (form_back c.args.text.now c.utf8.text)
