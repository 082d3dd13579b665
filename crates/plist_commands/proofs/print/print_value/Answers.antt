use Rattle.std.proofs.lemmas.Result.{on_ok_weaker}
use Rattle.plist_base.specs.Visits.{YieldsPlain}
use Rattle.plist.specs.Events.{GivesEvent}
use Rattle.plist_commands.proofs.ReaderItems.{events_come, items_of_events}
use Rattle.plist_print.proofs.SourceItems.{run_prints}
use Rattle.plist_commands.proofs.print.print_value.Goals as goal

pub returns-clause-printed : goal.returns-clause-printed
returns-clause-printed g c =
    on_ok_weaker c.print_source.result (λ printed. rw c.events-events.ensures.items at printed.1)
    (run_prints (YieldsPlain GivesEvent) items_of_events events_come _ _ _ _ _
    c.print_source.ensures).printed

pub returns-clause-prefix : goal.returns-clause-prefix
returns-clause-prefix g c =
    rw c.events-events.ensures.items at (run_prints (YieldsPlain GivesEvent) items_of_events
    events_come _ _ _ _ _ c.print_source.ensures).prefix
