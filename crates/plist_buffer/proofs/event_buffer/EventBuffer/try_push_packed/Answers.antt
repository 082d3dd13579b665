use Rattle.std.proofs.Common.{◌∙◌, sym}
use Rattle.plist_buffer.proofs.BufferedEvents.{failed}
use Rattle.plist_buffer.proofs.Expectations.{cannot_take}
use Rattle.plist_buffer.proofs.event_buffer.EventBuffer.try_push_packed.Goals as goal

pub returns-in-Refused-clause-misplaced : goal.returns-in-Refused-clause-misplaced
returns-in-Refused-clause-misplaced c = λ none.
    cannot_take c.args.self.now _ (sym c.change_by_scalar-change.ensures ∙ c.in-Refused.is)

pub returns-in-Err-clause-buffers : goal.returns-in-Err-clause-buffers
returns-in-Err-clause-buffers c =
    failed c.args.self.now _ c.in-Err.ensures.same _ c.change_by_scalar-change.ensures
    c.in_default.not-Refused _ c.from.ensures
