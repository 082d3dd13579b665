use Rattle.plist_buffer.proofs.Columns.{ends_counted}
use Rattle.plist_buffer.proofs.entries.Entries.count_ends.Goals as goal

pub returns : goal.returns
returns c = ends_counted c.self.invariant c.self.view_is
