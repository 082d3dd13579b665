use Rattle.std.proofs.Common.{◌≡◌, ◌<◌, Some, ap, arith, refl, sym, ◌∙◌}
use Rattle.plist_base.specs.Faults.{FaultKind}
use Rattle.plist_ascii.specs.declared.fault.TokenFault.{TokenFault}
use Rattle.plist_ascii.specs.declared.fault.TokenFault.TheVariants as fault
use Rattle.plist_ascii.specs.inner.Inputs.{kind_in_bytes}
use Rattle.plist_ascii.proofs.UnreadBytes.{ended_unread}
use Rattle.plist_ascii.proofs.Items.{led_fails, led_gives, led_quoted, led_skips, led_text, no_items, since_ends, since_leads}
use Rattle.plist_ascii.proofs.Yields.{gives_error, gives_event, gives_none, not_ended}
use Rattle.plist_ascii.proofs.reader.AsciiReaderIterator.next.Goals as goal

not_memory : {f : TokenFault} {A : Type 0} → f ≡ fault.Io → f ≡ fault.OutOfMemory → A
not_memory io memory = absurd (cc)

not_bytes : {f : TokenFault} {A : Type 0} {kind : FaultKind} → f ≡ fault.Io
    → kind_in_bytes f ≡ Some kind → A
not_bytes io is = absurd (let none = rw io at is in cc)

pub returns-then-has_ended-clause-steps : goal.returns-then-has_ended-clause-steps
returns-then-has_ended-clause-steps g c =
    gives_none refl (λ xs e.
    let none = ended_unread _ _ _ _ xs (cc) e in (rw none at e, rw none (no_items _ _)))
    (omega arith) refl (cc) (λ _. refl)

pub tokens-preserved : goal.tokens-preserved
tokens-preserved g c =
    let past = rw c.in-Ok-Some.field-0-is at c.in-Ok-Some.ensures in
    let led = since_leads c.tokens.invariant.since past.value past.rises in
    let token = rw c.in-Ok-None-token_by.field-0-is at c.in-Ok-None-token_by.ensures in
    record {
      since = led_skips led token.answers;
      failures = token.failures ∙ past.failures ∙ c.tokens.invariant.failures;
      dialect = c.tokens.invariant.dialect;
    }

pub returns-in-Ok-Some-token_by-clause-steps : goal.returns-in-Ok-Some-token_by-clause-steps
returns-in-Ok-Some-token_by-clause-steps g c =
    let past = rw c.in-Ok-Some.field-0-is at c.in-Ok-Some.ensures in
    let led = since_leads c.tokens.invariant.since past.value past.rises in
    let token = rw c.in-Ok-Some-token_by.field-0-is at c.in-Ok-Some-token_by.ensures in
    gives_event c.tokens.invariant.dialect (sym c.if-has_ended.ensures)
    (omega (arith, led.rises, token.answers.rises))
    (led_gives led token.answers)
    (token.failures ∙ past.failures ∙ c.tokens.invariant.failures) token.kinds
    (token.brackets past.peeked)
    (λ xs e first. token.quotes (led_quoted led token.answers xs e first))

pub returns-in-Ok-None-clause-steps : goal.returns-in-Ok-None-clause-steps
returns-in-Ok-None-clause-steps g c =
    let past = rw c.in-Ok-None.field-0-is at c.in-Ok-None.ensures in
    gives_none c.tokens.invariant.dialect
    (λ xs e.
    let none = since_ends c.tokens.invariant.since c.take_past.new.self past.value xs e in
    (c.end.ensures.unread, none))
    (omega (arith, c.tokens.invariant.since.rises, past.place, c.end.ensures.place))
    (ap g.R.ByteReader.failures c.end.ensures.inner ∙ past.failures ∙ c.tokens.invariant.failures)
    c.end.ensures.ended
    (not_ended (sym c.if-has_ended.ensures))

pub returns-in-Err-token_by-clause-steps : goal.returns-in-Err-token_by-clause-steps
returns-in-Err-token_by-clause-steps g c =
    let past = rw c.in-Ok-Some.field-0-is at c.in-Ok-Some.ensures in
    let led = since_leads c.tokens.invariant.since past.value past.rises in
    let token = c.in-Err-token_by.ensures in
    let rises : c.args.self.now.input.taken < c.error.new.self.taken =
    omega (arith, led.rises, token.answers.rises, c.error.ensures.place) in
    gives_error c.tokens.invariant.dialect (sym c.if-has_ended.ensures) c.error.result
    c.in-Err-token_by.fault c.take_past.new.self c.token_by.new.self (omega arith)
    c.error.ensures.error c.error.ensures.ends c.error.ensures.place token.failures
    (past.failures ∙ c.tokens.invariant.failures) c.error.ensures.inner
    (λ memory. led_text led (token.memory memory))
    (λ kind is. (rises, led_fails led token.answers is))

pub returns-in-Err-clause-steps : goal.returns-in-Err-clause-steps
returns-in-Err-clause-steps g c =
    let error = c.error-in-Err.ensures in
    let io = c.in-Err.ensures.fault in
    gives_error c.tokens.invariant.dialect (sym c.if-has_ended.ensures) c.error-in-Err.result
    c.in-Err.fault c.tokens.self.input c.take_past.new.self
    (omega (arith, c.tokens.invariant.since.rises, c.in-Err.ensures.place, error.place))
    error.error error.ends error.place c.in-Err.ensures.failures c.tokens.invariant.failures
    error.inner (λ memory. not_memory io memory) (λ kind is. not_bytes io is)
