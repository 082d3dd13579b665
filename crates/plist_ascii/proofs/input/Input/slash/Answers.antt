use Rattle.std.proofs.Common.{Some, ap, arith, refl, ◌∷◌, ◌∙◌}
use Rattle.plist_ascii.specs.Texts.{slash}
use Rattle.plist_ascii.specs.Unread.{stops}
use Rattle.plist_ascii.specs.inner.Inputs.{AllocatesForText}
use Rattle.plist_ascii.proofs.TokenOutcomes.{gives_looked, gives_passed, passed_on}
use Rattle.plist_ascii.proofs.Texts.{slash_bare, bare_wants}
use Rattle.plist_ascii.proofs.input.Input.slash.Goals as goal

pub returns-in_ok-event-in-Some-clause-answers : goal.returns-in_ok-event-in-Some-clause-answers
returns-in_ok-event-in-Some-clause-answers g c =
    let a = gives_looked c.in_ok-event-in-Some.ensures.answers
    (rw c.in-Some.is at c.in_ok-peek.ensures)
    (slash_bare (stops c.args.stop) _ c.in-Some._byte-test.0.1 c.in-Some._byte-test.1) in
    record { rises = a.rises; gives = a.gives }

pub returns-in_err-event-in-Some-clause-answers : goal.returns-in_err-event-in-Some-clause-answers
returns-in_err-event-in-Some-clause-answers g c =
    gives_passed (gives_looked c.in_err-event-in-Some.ensures.answers
    (rw c.in-Some.is at c.in_ok-peek.ensures)
    (slash_bare (stops c.args.stop) _ c.in-Some._byte-test.0.1 c.in-Some._byte-test.1))
    c.from_residual-in_err-event-in-Some.ensures.1

pub returns-in_err-event-in-Some-clause-memory : goal.returns-in_err-event-in-Some-clause-memory
returns-in_err-event-in-Some-clause-memory g c =
    let looked = rw c.in-Some.is at c.in_ok-peek.ensures.next in
    let same = slash_bare (stops c.args.stop) _ c.in-Some._byte-test.0.1 c.in-Some._byte-test.1 in
    passed_on (AllocatesForText g.R.ByteReader.remaining (slash (stops c.args.stop))
    c.args.self.now) _ _ c.from_residual-in_err-event-in-Some.ensures.1
    (λ m xs e. let k = looked xs e in
    rw (k.1, same k.0) (bare_wants (stops c.args.stop) _ (c.in-Some._byte ∷ k.0)))

pub returns-in_ok-skip_run-in-Some-eq47-clause-answers
    : goal.returns-in_ok-skip_run-in-Some-eq47-clause-answers
returns-in_ok-skip_run-in-Some-eq47-clause-answers g c =
    let looked = rw c.in-Some-eq47.is at c.in_ok-peek.ensures in
    let first = c.take_first.ensures in
    let skipped = c.in_ok-skip_run-in-Some-eq47.ensures in
    record {
      rises = omega (arith, looked.place, first.place, skipped.place);
      gives = λ xs e.
          let k = looked.next xs e in
          let r = skipped.value.bytes k.0 (first.bytes xs k.3 ∙ ap Some k.2) in
          rw (k.1, c.in-Some-eq47.field-0-test)
          (refl, r.1, omega (arith, looked.place, first.place, r.2));
    }
