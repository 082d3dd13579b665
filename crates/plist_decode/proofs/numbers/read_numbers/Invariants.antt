use Rattle.std.proofs.Common.{◌≡◌, ◌-◌, ◌≤◌, vec_len, vec_capacity}
use Rattle.plist_decode.specs.Reading.{AreFirstNumbers}
use Rattle.plist_decode.proofs.numbers.read_numbers.Given as goal

abbrev pub decreases-loop-source : goal.decreases-loop-source
decreases-loop-source g l = l.count - vec_len l.numbers

abbrev pub invariant-loop-source : goal.invariant-loop-source
invariant-loop-source g l = record {
  same : g.S.Source.known l.source ≡ g.S.Source.known l.initial.source;
  counts : g.S.Source.failures l.source ≡ g.S.Source.failures l.initial.source;
  few : vec_len l.numbers ≤ l.count;
  capacity : l.count ≤ vec_capacity l.numbers;
  items : AreFirstNumbers (g.S.Source.known l.source) l.place l.width l.numbers.items;
}
