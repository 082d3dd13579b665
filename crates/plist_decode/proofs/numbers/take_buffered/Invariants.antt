use Rattle.std.proofs.Common.{◌≡◌, ◌+◌, vec_len, vec_capacity}
use Rattle.plist_decode.specs.Reading.{AreFirstNumbers}
use Rattle.plist_decode.proofs.numbers.take_buffered.Given as goal

abbrev pub invariant-loop-i : goal.invariant-loop-i
invariant-loop-i g l = record {
  len : vec_len l.numbers ≡ l.read + l.i;
  capacity : vec_capacity l.numbers ≡ vec_capacity l.initial.numbers;
  items : AreFirstNumbers (g.S.Source.known l.source) l.place l.width l.numbers.items;
}
