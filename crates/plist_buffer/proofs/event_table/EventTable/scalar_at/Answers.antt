use Rattle.std.proofs.Common.{Some, ap, sym, ◌∙◌}
use Rattle.plist_base.specs.Events.{ScalarEvent}
use Rattle.plist_buffer.specs.StoredScalars.{event_of_long, event_of_small}
use Rattle.plist_buffer.proofs.Columns.{named}
use Rattle.plist_buffer.proofs.EntryEvents.{scalar_there}
use Rattle.plist_buffer.proofs.SetKeys.{key_read}
use Rattle.plist_buffer.proofs.event_table.EventTable.scalar_at.Goals as goal

pub returns-in_ok-get_index-in-Small-clause-some : goal.returns-in_ok-get_index-in-Small-clause-some
returns-in_ok-get_index-in-Small-clause-some c =
    let held = c.args.self.now in
    let is = named _ _ (sym c.in_ok-small.ensures ∙ ap Some c.in-Small.is) in
    key_read event_of_small held.small.keys _ (scalar_there held.kept c.requires is)
    c.in_ok-get_index-in-Small.ensures.key

pub returns-in_ok-get_index-in-Long-clause-some : goal.returns-in_ok-get_index-in-Long-clause-some
returns-in_ok-get_index-in-Long-clause-some c =
    let held = c.args.self.now in
    let is = named _ _ (sym c.in_ok-small.ensures ∙ ap Some c.in-Long.is) in
    key_read event_of_long held.long.keys _ (scalar_there held.kept c.requires is)
    c.in_ok-get_index-in-Long.ensures.key ∙ ap ScalarEvent (sym c.get.ensures.scalar)
