use Rattle.std.proofs.Common.{◌∙◌, arith, sym, append-nil, append_assoc}
use Rattle.plist_ascii.proofs.Runs.{looked_part, none_ends, part_ends, runs_on}
use Rattle.plist_ascii.proofs.input.Input.take_run.Goals as goal

pub run-preserved : goal.run-preserved
run-preserved g c =
    let part = looked_part c.in_ok-take_part-in-Some.ensures.part
    (rw c.in-Some.is at c.in_ok-_byte.ensures) in
    let front = c.run.text.items in
    record {
      value = λ new text rest. c.run.invariant.value new text
          (runs_on part (λ a b p q. cc (append-nil front, append_assoc front a b)) rest);
      place = omega arith;
      failures = c.in_ok-take_part-in-Some.ensures.failures ∙ c.in_ok-_byte.ensures.failures
          ∙ c.run.invariant.failures;
    }

pub returns-then-not-branch-clause-value : goal.returns-then-not-branch-clause-value
returns-then-not-branch-clause-value g c =
    let part = looked_part c.in_ok-take_part-in-Some.ensures.part
    (rw c.in-Some.is at c.in_ok-_byte.ensures) in
    c.run.invariant.value _ _ (part_ends part c.if-not-branch.true (λ a p. rw append-nil at p))

pub returns-in-None-clause-value : goal.returns-in-None-clause-value
returns-in-None-clause-value g c =
    c.run.invariant.value _ _
    (none_ends (rw c.in-None.is at c.in_ok-_byte.ensures) (sym (append-nil c.run.text.items)))
