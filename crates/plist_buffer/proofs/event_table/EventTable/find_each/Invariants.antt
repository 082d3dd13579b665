use Rattle.plist_buffer.specs.EventTable.{lists_in}
use Rattle.plist_buffer.specs.inner.Entries.{AreFound}
use Rattle.plist_buffer.proofs.event_table.EventTable.find_each.Given as goal

abbrev pub invariant-loop-index : goal.invariant-loop-index
invariant-loop-index l = AreFound (lists_in l.self) l.scalars l.found
