use Rattle.plist_base.specs.Events.{PlainEvent}
use Rattle.plist_base.specs.Visits.{YieldsPlain, HandsOverAll}
use Rattle.plist_reader.specs.Reader.{Gives, steps_in_state}
use Rattle.plist_reader.proofs.reader.Reader.visit_all.Given as goal
use Rattle.std.proofs.Common.{List}

-- these events were handed over
abbrev pub invariant-loop-self : goal.invariant-loop-self
invariant-loop-self g l =
    (events : List PlainEvent)
    × HandsOverAll (YieldsPlain (Gives g.R.Source.known g.R.Source.failures)) g.V.EventVisitor.step
    (l.initial.self, l.initial.visitor) events (l.self, l.visitor)

abbrev pub decreases-loop-self : goal.decreases-loop-self
decreases-loop-self g l = steps_in_state l.self.state
