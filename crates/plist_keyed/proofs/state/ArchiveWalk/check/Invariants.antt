use Rattle.std.proofs.Common.{◌≡◌, reverse}
use Rattle.plist_keyed.proofs.StoredChecks.{Checks, distance_in, levels_of}
use Rattle.plist_keyed.proofs.state.ArchiveWalk.check.Given as goal

abbrev pub invariant-loop-left : goal.invariant-loop-left
invariant-loop-left l = record {
  checks : Checks l.fn.uid l.self (levels_of l.self.levels.items) (reverse l.path.keys);
  objects : l.self.objects ≡ l.initial.self.objects;
}

abbrev pub decreases-loop-left : goal.decreases-loop-left
decreases-loop-left l =
    distance_in l.self (levels_of l.self.levels.items) (reverse l.path.keys)
