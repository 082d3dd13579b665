use Rattle.std.proofs.Common.{arith}
use Rattle.plist_buffer.proofs.Columns.{long_columns}
use Rattle.plist_buffer.proofs.entries.Entries.len.Goals as goal

pub returns : goal.returns
returns c = omega (arith, (long_columns c.self.invariant c.self.view_is).0)
