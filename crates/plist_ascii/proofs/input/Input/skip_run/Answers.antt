use Rattle.std.proofs.Common.{◌∙◌, arith}
use Rattle.plist_ascii.proofs.Runs.{looked_part, none_ends, part_ends, runs_on}
use Rattle.plist_ascii.proofs.input.Input.skip_run.Goals as goal

pub run-preserved : goal.run-preserved
run-preserved g c =
    let part = looked_part c.skip_part.ensures.part (rw c.in-Some.is at c.in_ok-_byte.ensures) in
    record {
      value = λ new rest. c.run.invariant.value new (runs_on part (λ a b p q. tt) rest);
      place = omega arith;
      failures = c.skip_part.ensures.failures ∙ c.in_ok-_byte.ensures.failures
          ∙ c.run.invariant.failures;
    }

pub returns-then-not-skip_part-clause-value : goal.returns-then-not-skip_part-clause-value
returns-then-not-skip_part-clause-value g c =
    let part = looked_part c.skip_part.ensures.part (rw c.in-Some.is at c.in_ok-_byte.ensures) in
    c.run.invariant.value _ (part_ends part c.if-not-skip_part.true (λ a p. tt))

pub returns-in-None-clause-value : goal.returns-in-None-clause-value
returns-in-None-clause-value g c =
    c.run.invariant.value _ (none_ends (rw c.in-None.is at c.in_ok-_byte.ensures) tt)
