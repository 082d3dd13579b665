use Rattle.std.proofs.Common.{◌<◌, ◌-◌, length, arith, ap, ◌∙◌}
use Rattle.plist_buffer.specs.inner.Columns.{ends_before}
use Rattle.plist_buffer.specs.EventTable.{lists_in, plain_events}
use Rattle.plist_buffer.specs.inner.UnclosedStarts.{skip_after}
use Rattle.plist_buffer.proofs.EntryEvents.{end_there, long_shown, lt, start_there}
use Rattle.plist_buffer.proofs.OpenStarts.{skip_forward}
use Rattle.plist_buffer.proofs.event_table.EventTable.collection_number.Goals as goal

pub collection_number-requires-clause-within : goal.collection_number-requires-clause-within
collection_number-requires-clause-within c = lt c.args.self.now.kept c.requires.start.0

pub collection_number-requires-clause-start : goal.collection_number-requires-clause-start
collection_number-requires-clause-start c =
    start_there c.args.self.now.kept c.requires.start.0 c.requires.start.1 c.requires.closed

pub collection_number-requires-clause-after : goal.collection_number-requires-clause-after
collection_number-requires-clause-after c =
    let held = c.args.self.now in
    let forward = skip_forward (plain_events held) c.args.index c.requires.start.0 in
    let is = held.kept.entries_are.skips c.args.index (lt held.kept c.requires.start.0) in
    let long = long_shown (lists_in held) held.entries in
    (omega (arith, is, forward.0), omega (arith, is, forward.1, long))

pub collection_number-requires-clause-end : goal.collection_number-requires-clause-end
collection_number-requires-clause-end c =
    let held = c.args.self.now in
    let forward = skip_forward (plain_events held) c.args.index c.requires.start.0 in
    let last : skip_after (plain_events held) c.args.index - 1 < length (plain_events held) =
    omega (arith, forward.0, forward.1) in
    rw (held.kept.entries_are.skips c.args.index (lt held.kept c.requires.start.0))
    (end_there held.kept last c.requires.closed)

pub returns : goal.returns
returns c =
    let held = c.args.self.now in
    c.collection_number.ensures
    ∙ ap (λ after. ends_before held.entries (after - 1))
    (held.kept.entries_are.skips c.args.index (lt held.kept c.requires.start.0))
