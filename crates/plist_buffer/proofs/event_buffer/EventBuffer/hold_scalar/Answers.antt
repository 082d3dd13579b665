use Rattle.plist_buffer.proofs.BufferedEvents.{after_appending, after_waiting}
use Rattle.plist_buffer.proofs.event_buffer.EventBuffer.hold_scalar.Goals as goal

pub invariant_of-self : goal.invariant_of-self
invariant_of-self c =
    (after_waiting _ _ c.append_if_full.ensures.same c.args.scalar c.requires.change c.in-Kept.is
    c.push.ensures).kept

pub returns-in-Kept-clause-taken : goal.returns-in-Kept-clause-taken
returns-in-Kept-clause-taken c =
    (after_waiting _ _ c.append_if_full.ensures.same c.args.scalar c.requires.change c.in-Kept.is
    c.push.ensures).taken

pub invariant_of-self-2 : goal.invariant_of-self-2
invariant_of-self-2 c =
    (after_appending _ _ c.append_if_any.ensures.same _ c.requires.change c.requires.accepted
    c.in_ok-append_if_any.ensures.settled c.in_ok-push_small.ensures.events
    c.next_expected-self.ensures).kept

pub returns-clause-taken : goal.returns-clause-taken
returns-clause-taken c =
    (after_appending _ _ c.append_if_any.ensures.same _ c.requires.change c.requires.accepted
    c.in_ok-append_if_any.ensures.settled c.in_ok-push_small.ensures.events
    c.next_expected-self.ensures).taken
