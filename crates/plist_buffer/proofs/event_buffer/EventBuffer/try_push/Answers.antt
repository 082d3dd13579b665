use Rattle.std.proofs.Common.{ap, refl, sym, ◌∙◌}
use Rattle.plist_base.specs.Faults.{UnexpectedEventType, fault_without_offset}
use Rattle.plist_buffer.specs.EventBuffers.{buffered_events, expected_instead}
use Rattle.plist_buffer.proofs.BufferedEvents.{failed}
use Rattle.plist_buffer.proofs.Expectations.{cannot_take}
use Rattle.plist_buffer.proofs.event_buffer.EventBuffer.try_push.Goals as goal

pub returns-in-Refused : goal.returns-in-Refused
returns-in-Refused c = rw c.error_of_kind.ensures (record {
  taken = tt;
  refused = (
    (
      cannot_take c.args.self.now _ (sym c.change_on-change.ensures ∙ c.in-Refused.is),
      ap (λ found. fault_without_offset (UnexpectedEventType (expected_instead
          (buffered_events c.args.self.now)) found)) c.of_event.ensures,
    ),
    refl,
  );
})

pub returns-in_err-hold_scalar-in-Some : goal.returns-in_err-hold_scalar-in-Some
returns-in_err-hold_scalar-in-Some c =
    failed c.args.self.now _ c.in_err-hold_scalar-in-Some.ensures.same _ c.change_on-change.ensures
    c.in_default.not-Refused _ c.from_residual.ensures.1

pub returns-in_err-hold_large-in-None : goal.returns-in_err-hold_large-in-None
returns-in_err-hold_large-in-None c =
    failed c.args.self.now _ c.in_err-hold_large-in-None.ensures.same _ c.change_on-change.ensures
    c.in_default.not-Refused _ c.from_residual-in_err-hold_large-in-None.ensures.1

pub returns-in_ok-hold_scalar-in-Some : goal.returns-in_ok-hold_scalar-in-Some
returns-in_ok-hold_scalar-in-Some c = record {
  taken = rw c.in-Some.ensures.some c.in_ok-hold_scalar-in-Some.ensures.taken;
  refused = tt;
}

pub returns-in_ok-hold_large-in-None : goal.returns-in_ok-hold_large-in-None
returns-in_ok-hold_large-in-None c = record {
  taken = c.in_ok-hold_large-in-None.ensures.taken;
  refused = tt;
}
