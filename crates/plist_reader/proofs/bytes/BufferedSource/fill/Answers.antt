use Rattle.std.proofs.Common.{arith}
use Rattle.plist_base.specs.Sequential.{from_place, left_to_read}
use Rattle.plist_reader.proofs.Streams.{some_buffered, read_on, read_none}
use Rattle.plist_reader.proofs.bytes.BufferedSource.fill.Goals as goal

pub returns-then-self-clause-end : goal.returns-then-self-clause-end
returns-then-self-clause-end g c =
    λ e. absurd (some_buffered c.args.self.now.from c.args.self.now.end c.args.self.now.window
    c.if-self.true (omega arith) e)

pub returns-clause-bytes : goal.returns-clause-bytes
returns-clause-bytes g c =
    read_on _ _ (from_place c.args.self.now.inner.place) (from_place c.read.new.self.place)
    c.in_ok-count.count c.args.self.now.from c.args.self.now.end c.args.self.now.window c.read.new.buf
    c.read.ensures.unchanged c.if-self.false c.in_ok-count.ensures.bytes.0

pub returns-clause-end : goal.returns-clause-end
returns-clause-end g c = λ e.
    read_none (left_to_read g.R.Source.known c.read.new.self) c.in_ok-count.count c.read.new.buf
    (omega arith) c.in_ok-count.ensures.bound.0 c.in_ok-count.ensures.bytes.1 e
