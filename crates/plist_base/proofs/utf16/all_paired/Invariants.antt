use Rattle.std.proofs.Common.{◌-◌, ◌≡◌, ◌≤◌, drop}
use Rattle.std.specs.Char.Utf16.{has_unpaired_surrogate}
use Rattle.plist_base.specs.Container.{numbers_spelled}
use Rattle.plist_base.proofs.utf16.all_paired.Given as goal

abbrev pub invariant-loop-at : goal.invariant-loop-at
invariant-loop-at l = record {
  within : l.at ≤ l.count;
  unpaired : has_unpaired_surrogate (drop l.at (numbers_spelled 2 l.bytes))
      ≡ has_unpaired_surrogate (numbers_spelled 2 l.bytes);
}

abbrev pub decreases-loop-at : goal.decreases-loop-at
decreases-loop-at l = l.count - l.at
