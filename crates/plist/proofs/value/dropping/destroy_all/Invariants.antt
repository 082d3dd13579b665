use Rattle.plist.proofs.DropWeights.{to_drop}
use Rattle.plist.proofs.value.dropping.destroy_all.Given as goal

abbrev pub decreases-loop-value : goal.decreases-loop-value
decreases-loop-value l = to_drop l.left.items
