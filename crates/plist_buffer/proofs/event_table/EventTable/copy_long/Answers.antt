use Rattle.std.proofs.Common.{OnOk, ap, subst, ◌∙◌}
use Rattle.plist_base.specs.Events.{ScalarEvent}
use Rattle.plist_buffer.specs.EventTable.{GrowsBy}
use Rattle.plist_buffer.specs.inner.Entries.{is_leaf}
use Rattle.plist_buffer.proofs.GrownScalars.{found_long}
use Rattle.plist_buffer.proofs.event_table.EventTable.copy_long.Goals as goal

pub repeat-requires : goal.repeat-requires
repeat-requires c =
    ap is_leaf (found_long c.args.self.now c.borrowed.result c.in-Some.index c.in-Some.ensures.index)

pub returns-in-Some-clause-events : goal.returns-in-Some-clause-events
returns-in-Some-clause-events c =
    subst (λ e. OnOk c.repeat.result (GrowsBy c.args.self.now e c.repeat.new.self))
    (found_long c.args.self.now c.borrowed.result c.in-Some.index c.in-Some.ensures.index
    ∙ ap ScalarEvent c.borrowed.ensures) c.repeat.ensures.events
