use Rattle.plist_callers.proofs.idioms.Objects.+leaves.Given as goal

abbrev pub decreases-leaves : goal.decreases-leaves
decreases-leaves l = l.levels
