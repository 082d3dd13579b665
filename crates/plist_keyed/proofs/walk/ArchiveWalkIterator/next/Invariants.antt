use Rattle.std.proofs.Common.{◌≡◌, ◌+◌, length}
use Rattle.plist_keyed.specs.inner.Walks.{IsWalk, events_left, events_in_levels}
use Rattle.plist_keyed.proofs.WalkSteps.{steps_to_enter}
use Rattle.plist_keyed.proofs.walk.ArchiveWalkIterator.next.Given as goal

abbrev pub invariant-loop-left : goal.invariant-loop-left
invariant-loop-left l = record {
  walk : IsWalk l.self;
  left : events_left l.self ≡ events_left l.initial.self;
}

abbrev pub decreases-loop-left : goal.decreases-loop-left
decreases-loop-left l = length l.self.levels.items + steps_to_enter (events_in_levels l.self)
