use Rattle.std.proofs.Common.{arith}
use Rattle.plist_base.specs.Sequential.{left_to_read}
use Rattle.plist_reader.proofs.Streams.{first_buffered, one_there}
use Rattle.plist_reader.proofs.bytes.BufferedSourceByteReader.next_byte.Goals as goal

pub returns-clause-byte : goal.returns-clause-byte
returns-clause-byte g c =
    one_there (left_to_read g.R.Source.known c.fill.new.self.inner) _ _ _ _
    c.in_ok-fill.ensures.bytes
    (first_buffered c.fill.new.self.from c.fill.new.self.end c.fill.new.self.window
    (omega (arith, c.if-self.false)) (omega arith))
