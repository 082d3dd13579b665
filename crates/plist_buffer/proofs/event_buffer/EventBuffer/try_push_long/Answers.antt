use Rattle.std.proofs.Common.{rules}
use Rattle.plist_buffer.proofs.BufferedEvents.{failed}
use Rattle.plist_buffer.proofs.event_buffer.EventBuffer.try_push_long.Goals as goal

pub returns-in-Err : goal.returns-in-Err
returns-in-Err c =
    failed c.args.self.now _ c.in-Err.ensures.same _ (search rules) c.in_default.not-Refused _ c.from.ensures
