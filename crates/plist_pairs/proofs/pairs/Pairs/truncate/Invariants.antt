use Rattle.std.proofs.Common.{◌≡◌, take}
use Rattle.plist_pairs.proofs.pairs.Pairs.truncate.Given as goal

abbrev pub invariant-loop-self : goal.invariant-loop-self
invariant-loop-self g l =
    (l.self-inside.keys.keys ≡ l.initial.self-inside.keys.keys)
    × (take l.count l.self-inside.items.items ≡ take l.count l.initial.self-inside.items.items)

abbrev pub decreases-loop-self : goal.decreases-loop-self
decreases-loop-self g l = l.self-inside.items.len
