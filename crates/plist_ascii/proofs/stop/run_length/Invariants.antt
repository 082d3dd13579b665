use Rattle.std.proofs.Common.{length, ◌-◌, ◌+◌, ◌≡◌, ◌≤◌, drop}
use Rattle.plist_ascii.specs.TokenPrefixes.{run}
use Rattle.plist_ascii.specs.Unread.{stops}
use Rattle.plist_ascii.proofs.stop.run_length.Given as goal

abbrev pub invariant-bytes : goal.invariant-bytes
invariant-bytes l = record {
  within : l.count ≤ length l.bytes;
  run : l.count + run (stops l.stop) (drop l.count l.bytes) ≡ run (stops l.stop) l.bytes;
}

abbrev pub decreases-bytes : goal.decreases-bytes
decreases-bytes l = length l.bytes - l.count
