use Rattle.std.proofs.Common.{◌∙◌, ap, arith, sum_by}
use Rattle.std.proofs.lemmas.List.{nil_from_length}
use Rattle.plist_binwrite.specs.Forms.{units_begun}
use Rattle.plist_binwrite.proofs.TextForms.{few_units_begun, units_counted}
use Rattle.std.proofs.lemmas.List.Sums.{sum_by-append}
use Rattle.plist_binwrite.proofs.text.count_units.Goals as goal

pub overflow_add-count : goal.overflow_add-count
overflow_add-count c = omega (
  arith,
  c.loop-bytes.invariant.counted,
  c.count_few_units.ensures,
  ap (sum_by units_begun) c.in-Some.ensures.steps.1.0,
  sum_by-append units_begun,
  few_units_begun c.args.text.now,
)

pub loop-bytes-preserved : goal.loop-bytes-preserved
loop-bytes-preserved c = record {
  size = c.in-Some.ensures.steps.0 ∙ c.loop-bytes.invariant.size;
  counted = omega (
    arith,
    c.loop-bytes.invariant.counted,
    c.count_few_units.ensures,
    ap (sum_by units_begun) c.in-Some.ensures.steps.1.0,
    sum_by-append units_begun,
  );
}

pub returns : goal.returns
returns c = record {
  value = omega (
    arith,
    c.loop-bytes.invariant.counted,
    ap (sum_by units_begun) (nil_from_length _ c.in-None.ensures.steps.1.0),
    units_counted c.args.text.now c.utf8.text,
  );
}
