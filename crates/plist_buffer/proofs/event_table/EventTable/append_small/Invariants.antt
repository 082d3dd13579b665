use Rattle.std.proofs.Common.{◌≡◌, ◌++◌, take}
use Rattle.plist_buffer.specs.EventTable.{lists_in, plain_events}
use Rattle.plist_buffer.specs.StoredScalars.{events_of_small}
use Rattle.plist_buffer.specs.inner.Entries.{AreFound}
use Rattle.plist_buffer.proofs.event_table.EventTable.append_small.Given as goal

abbrev pub invariant-loop-index : goal.invariant-loop-index
invariant-loop-index l = record {
  events : plain_events l.self ≡ plain_events l.fn.self ++ events_of_small (take l.index l.scalars);
  found : AreFound (lists_in l.self) l.scalars l.found;
}
