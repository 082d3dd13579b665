use Rattle.std.proofs.Common.{map, ◌++◌}
use Rattle.plist_base.specs.Bracketing.{without_length}
use Rattle.plist_buffer.specs.EventTable.{plain_events}
use Rattle.plist.specs.Events.{remaining_events}
use Rattle.plist.proofs.EventTables.{GatheredSoFar}
use Rattle.plist.proofs.writing.push_all.Given as goal

abbrev pub invariant-loop-item : goal.invariant-loop-item
invariant-loop-item l = GatheredSoFar
    (plain_events l.initial.table ++ map without_length (remaining_events l.initial.events))
    (plain_events l.table) l.events
