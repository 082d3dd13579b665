use Rattle.std.proofs.Common.{inr, refl, ap, ◌∙◌, arith}
use Rattle.plist_buffer.proofs.Lengthless.{whole_bracketed}
use Rattle.plist_binwrite.specs.Forms.{reference_width}
use Rattle.plist_binwrite.proofs.PlannedFiles.{oversized, plan_made}
use Rattle.plist_binwrite.proofs.plan.plan_file.Goals as goal

pub number_objects-requires-clause-whole : goal.number_objects-requires-clause-whole
number_objects-requires-clause-whole c =
    whole_bracketed c.args.given.events.now c.requires.whole

pub returns-in-Some-clause-plan : goal.returns-in-Some-clause-plan
returns-in-Some-clause-plan c =
    let wide = c.reference_width-width.ensures in (
      plan_made c.in_ok-numbering.ensures c.reference_width-width.result
          (wide.value ∙ ap reference_width c.bound.ensures) wide.range.1
          (λ size capped. omega (arith, c.in-Some.ensures.size size capped, c.in-Some.ensures.fits)),
      refl,
    )

pub returns-in-None-clause-refused : goal.returns-in-None-clause-refused
returns-in-None-clause-refused c = inr (
  c.without_position.ensures.fault,
  oversized c.in_ok-numbering.ensures c.requires.whole c.in-None.ensures.size,
)
