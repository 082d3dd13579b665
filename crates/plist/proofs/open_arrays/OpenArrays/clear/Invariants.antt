use Rattle.std.proofs.Common.{vec_len}
use Rattle.plist.proofs.open_arrays.OpenArrays.clear.Given as goal

abbrev pub decreases-loop-item : goal.decreases-loop-item
decreases-loop-item l = vec_len l.self-inside.items
