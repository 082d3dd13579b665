use Rattle.std.proofs.Common.{◌≡◌, ◌+◌, drop, sum_by}
use Rattle.plist_binwrite.specs.Forms.{units_begun}
use Rattle.plist_binwrite.proofs.text.count_few_units.Given as goal

-- the units that begin in the bytes so far are counted
abbrev pub invariant-loop-byte : goal.invariant-loop-byte
invariant-loop-byte l =
    l.count + sum_by units_begun (drop l.byte-index l.bytes) ≡ sum_by units_begun l.bytes
