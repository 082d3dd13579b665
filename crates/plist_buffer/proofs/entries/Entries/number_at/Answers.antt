use Rattle.std.proofs.Common.{arith}
use Rattle.plist_buffer.proofs.Columns.{long_columns, number_read}
use Rattle.plist_buffer.proofs.entries.Entries.number_at.Goals as goal

pub get-requires : goal.get-requires
get-requires c = omega (arith, (long_columns c.self.invariant c.self.view_is).1)

pub returns : goal.returns
returns c = rw c.get.ensures (number_read c.self.invariant c.self.view_is c.args.index)
