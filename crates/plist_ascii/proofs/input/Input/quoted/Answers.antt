use Rattle.std.proofs.Common.{arith, ◌∙◌}
use Rattle.plist_ascii.proofs.TokenOutcomes.{gives_passed}
use Rattle.plist_ascii.proofs.Quotes.{escape_fails, escape_quoted, quote_closes, quote_misses, run_quoted}
use Rattle.plist_ascii.proofs.input.Input.quoted.Goals as goal

pub parts-preserved : goal.parts-preserved
parts-preserved g c =
    let byte = c.in_ok-expect_byte.ensures in
    record {
      answers = λ answer new rest. c.parts.invariant.answers answer new
          (run_quoted _ _ c.in_ok-take_run.ensures.value c.in_ok-take_run.ensures.place
          (escape_quoted _ _ byte.value byte.place c.if-branch-quote.false
          c.in_ok-piece.ensures.answers c.in_ok-push_escaped.ensures.value rest));
      place = omega (
        arith,
        c.in_ok-take_run.ensures.place,
        byte.place.0,
        c.in_ok-piece.ensures.answers.rises,
      );
      failures = c.in_ok-piece.ensures.failures ∙ byte.failures ∙ c.in_ok-take_run.ensures.failures
          ∙ c.parts.invariant.failures;
    }

pub returns-then-branch-quote-clause-answers : goal.returns-then-branch-quote-clause-answers
returns-then-branch-quote-clause-answers g c =
    let byte = c.in_ok-expect_byte.ensures in
    c.parts.invariant.answers _ _
    (run_quoted _ _ c.in_ok-take_run.ensures.value c.in_ok-take_run.ensures.place
    (quote_closes _ _ _ byte.value byte.place c.if-branch-quote.true))

pub returns-in_err-expect_byte-clause-answers : goal.returns-in_err-expect_byte-clause-answers
returns-in_err-expect_byte-clause-answers g c =
    let end = c.in_err-expect_byte.ensures in
    gives_passed (c.parts.invariant.answers _ _
    (run_quoted _ _ c.in_ok-take_run.ensures.value c.in_ok-take_run.ensures.place
    (quote_misses _ _ _ end.fault end.unchanged)))
    c.from_residual-in_err-expect_byte.ensures.1

pub returns-in_err-piece-clause-answers : goal.returns-in_err-piece-clause-answers
returns-in_err-piece-clause-answers g c =
    let byte = c.in_ok-expect_byte.ensures in
    gives_passed (c.parts.invariant.answers _ _
    (run_quoted _ _ c.in_ok-take_run.ensures.value c.in_ok-take_run.ensures.place
    (escape_fails _ _ byte.value byte.place c.if-branch-quote.false
    c.in_err-piece.ensures.answers)))
    c.from_residual-in_err-piece.ensures.1
