use Rattle.plist_buffer.proofs.BufferedEvents.{after_appending}
use Rattle.plist_buffer.proofs.event_buffer.EventBuffer.hold_large.Goals as goal

pub invariant_of-self-2 : goal.invariant_of-self-2
invariant_of-self-2 c =
    (after_appending _ _ c.append_if_any.ensures.same _ c.requires.change c.requires.accepted
    c.in_ok-append_if_any.ensures.settled c.in_ok-push_copy.ensures.events
    c.next_expected-self.ensures).kept

pub returns-clause-taken : goal.returns-clause-taken
returns-clause-taken c =
    (after_appending _ _ c.append_if_any.ensures.same _ c.requires.change c.requires.accepted
    c.in_ok-append_if_any.ensures.settled c.in_ok-push_copy.ensures.events
    c.next_expected-self.ensures).taken
