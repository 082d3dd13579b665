use Rattle.std.proofs.Common.{◌≡◌, ◌-◌, ◌^◌}
use Rattle.plist_ascii.proofs.Items.{Since}
use Rattle.plist_ascii.proofs.reader.AsciiReaderIterator.next.Given as goal

abbrev pub invariant-tokens : goal.invariant-tokens
invariant-tokens g l = record {
  since : Since g.R.ByteReader.remaining l.fn.self l.self.input;
  failures : g.R.ByteReader.failures l.self.input.inner
      ≡ g.R.ByteReader.failures l.fn.self.input.inner;
  dialect : l.self.dialect ≡ l.fn.self.dialect;
}

abbrev pub decreases-tokens : goal.decreases-tokens
decreases-tokens g l = 2 ^ 64 - l.self.input.taken
