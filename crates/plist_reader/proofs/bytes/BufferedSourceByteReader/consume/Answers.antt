use Rattle.std.proofs.Common.{take}
use Rattle.plist_base.specs.Sequential.{left_to_read}
use Rattle.plist_reader.proofs.Streams.{several_there}
use Rattle.plist_reader.proofs.bytes.BufferedSourceByteReader.consume.Goals as goal

pub returns-clause-bytes : goal.returns-clause-bytes
returns-clause-bytes g c =
    several_there (left_to_read g.R.Source.known c.args.self.now.inner) c.args.self.now.from
    c.args.count (take c.args.self.now.end c.args.self.now.window)
