use Rattle.std.proofs.Common.{◌≡◌, ◌≤◌, ◌+◌, ◌++◌, length, map, vec_capacity}
use Rattle.plist_pairs.specs.Keys.{shown_owned_pair}
use Rattle.plist_pairs.proofs.pairs.Pairs.sort_keys.Given as goal

abbrev pub invariant-loop-row : goal.invariant-loop-row
invariant-loop-row g l =
    (map shown_owned_pair l.rows.items ++ l.row-iterator ≡ l.fn.self)
    × (length l.rows.items + length l.row-iterator ≤ vec_capacity l.rows)
