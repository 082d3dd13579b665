use Rattle.std.proofs.Common.{◌≡◌, ◌*◌, ◌≤◌, take}
use Rattle.std.specs.List.{sum_by}
use Rattle.plist_base.specs.Container.{numbers_spelled}
use Rattle.plist_base.specs.Utf16.{utf8_share}
use Rattle.plist_base.proofs.utf16.Utf16Str.len_utf8.Given as goal

abbrev pub invariant-loop-block : goal.invariant-loop-block
invariant-loop-block l = record {
  size : l.size ≡ sum_by utf8_share (take (8 * l.block) (numbers_spelled 2 l.self.bytes.now));
  small : l.size ≤ 24 * l.block;
}

abbrev pub invariant-loop-at : goal.invariant-loop-at
invariant-loop-at l = record {
  size : l.size ≡ sum_by utf8_share (take l.at (numbers_spelled 2 l.self.bytes.now));
  small : l.size ≤ 3 * l.at;
}
