use Rattle.std.proofs.Common.{List, length}
use Rattle.plist_base.specs.Events.{PlainEvent}
use Rattle.plist_base.specs.Visits.{YieldsPlain, HandsOverAll}
use Rattle.plist.specs.Events.{GivesEvent, remaining_events}
use Rattle.plist.proofs.stream.events.EventsEventSource.visit.Given as goal

-- these events were handed over
abbrev pub invariant-loop-item : goal.invariant-loop-item
invariant-loop-item g l =
    (events : List PlainEvent)
    × HandsOverAll (YieldsPlain GivesEvent) g.V.EventVisitor.step (l.fn.self, l.fn.visitor) events
    (l.self, l.visitor)

abbrev pub decreases-loop-item : goal.decreases-loop-item
decreases-loop-item g l = length (remaining_events l.self)
