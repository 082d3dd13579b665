use Rattle.std.proofs.Common.{arith, refl}
use Rattle.plist_base.specs.Utf16.{utf8_of_utf16}
use Rattle.plist_base.specs.declared.marker.CountedKind.TheVariants as kind
use Rattle.plist_base.proofs.Utf16Forms.{utf8_of_valid}
use Rattle.plist_binwrite.proofs.TextForms.{text_bound, wide_size}
use Rattle.plist_binwrite.proofs.forms.length_of_wide.Goals as goal

pub returns-clause-value : goal.returns-clause-value
returns-clause-value c =
    let units = c.args.units.now in
    omega (
      arith,
      wide_size units (utf8_of_utf16 units) c.requires.valid refl c.requires.wide,
      c.length_of_count.ensures.value kind.WideText,
      c.length_of_count.ensures.small,
      c.saturating_add.ensures,
    )

pub returns-clause-writable : goal.returns-clause-writable
returns-clause-writable c =
    let units = c.args.units.now in
    let valid = c.requires.valid in
    let utf8 = utf8_of_valid units valid in
    (utf8, omega (arith, text_bound units (utf8_of_utf16 units) valid refl utf8))
