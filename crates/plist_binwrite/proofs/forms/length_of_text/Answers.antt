use Rattle.std.proofs.Common.{◌∙◌, arith, sym}
use Rattle.plist_base.specs.declared.marker.CountedKind.TheVariants as kind
use Rattle.plist_binwrite.proofs.TreeObjects.{wide_length}
use Rattle.plist_binwrite.proofs.forms.length_of_text.Goals as goal

pub returns-clause-value : goal.returns-clause-value
returns-clause-value c =
    let count = c.count_units-count.ensures.value in
    omega (
      arith,
      wide_length c.args.text.now (sym c.is_ascii_text.ensures.value ∙ c.if-is_ascii_text.false),
      count,
      rw count at (c.length_of_count.ensures.value kind.WideText),
      c.length_of_count.ensures.small,
      c.saturating_mul.ensures,
      c.saturating_add.ensures,
    )
