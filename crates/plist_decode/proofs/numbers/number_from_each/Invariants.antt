use Rattle.std.proofs.Common.{◌≡◌, ◌<◌, ◌^◌, take}
use Rattle.plist_base.specs.Container.{number_of}
use Rattle.plist_decode.proofs.numbers.number_from_each.Given as goal

abbrev pub invariant-loop-byte : goal.invariant-loop-byte
invariant-loop-byte l = record {
  value : l.number ≡ number_of (take l.byte-index l.bytes);
  small : l.number < 256 ^ l.byte-index;
}
