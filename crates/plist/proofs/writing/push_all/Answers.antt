use Rattle.std.proofs.Common.{rules, map, ◌++◌}
use Rattle.plist_base.specs.Bracketing.{without_length}
use Rattle.plist_buffer.specs.EventTable.{plain_events}
use Rattle.plist.specs.Events.{remaining_events}
use Rattle.plist.proofs.EventTables.{gathered_more}
use Rattle.plist.proofs.writing.push_all.Goals as goal

pub loop-item-preserved : goal.loop-item-preserved
loop-item-preserved c =
    gathered_more
    (plain_events c.args.table.now ++ map without_length (remaining_events c.args.events.now))
    (plain_events c.loop-item.table) (plain_events c.push.new.self) c.loop-item.events
    c.next.new.self c.in-Some.item c.in_ok-item.field-0
    c.loop-item.invariant c.in-Some.ensures.steps (search rules) c.in_ok-push.ensures.events
