use Rattle.std.proofs.Common.{arith}
use Rattle.std.proofs.lemmas.List.Sums.{sum_by-drop_more}
use Rattle.plist_binwrite.specs.Forms.{units_begun}
use Rattle.plist_binwrite.proofs.TextForms.{few_units_begun}
use Rattle.plist_binwrite.proofs.text.count_few_units.Goals as goal

pub overflow_add-count : goal.overflow_add-count
overflow_add-count c = omega (
  arith,
  c.requires,
  c.loop-byte.invariant,
  c.units_begun-count.ensures,
  few_units_begun c.args.bytes.now,
  sum_by-drop_more units_begun c.args.bytes.now c.loop-byte.byte-index 0 c.loop-byte-test.true,
)

pub loop-byte-preserved : goal.loop-byte-preserved
loop-byte-preserved c = omega (
  arith,
  c.loop-byte.invariant,
  c.units_begun-count.ensures,
  sum_by-drop_more units_begun c.args.bytes.now c.loop-byte.byte-index 0 c.loop-byte-test.true,
)
