use Rattle.std.proofs.Common.{sym, ◌∙◌}
use Rattle.plist_buffer.specs.StoredScalars.{event_of_small}
use Rattle.plist_commands.proofs.collector.CollectorEventVisitor.packed.Goals as goal

pub returns-then-is_whole : goal.returns-then-is_whole
returns-then-is_whole c = rw (c.end.ensures.stops, c.end.ensures.keeps)
    (λ tested. (rw (sym c.is_whole.ensures ∙ c.if-is_whole.true) at tested).1 (event_of_small c.args.scalar))
