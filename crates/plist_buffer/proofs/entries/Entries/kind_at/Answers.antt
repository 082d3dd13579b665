use Rattle.std.proofs.Common.{length, ap, arith}
use Rattle.plist_buffer.proofs.Columns.{kind_read, long_columns}
use Rattle.plist_buffer.proofs.entries.Entries.kind_at.Goals as goal

pub bounds-as_slice-index : goal.bounds-as_slice-index
bounds-as_slice-index c = omega (arith, ap length c.as_slice.ensures.value, (long_columns c.self.invariant c.self.view_is).0)

pub returns : goal.returns
returns c =
    kind_read c.self.invariant c.self.view_is c.as_slice.ensures.value c.args.index _ c.requires
