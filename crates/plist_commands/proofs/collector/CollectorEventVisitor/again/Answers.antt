use Rattle.std.proofs.Common.{OnOk, subst}
use Rattle.plist_buffer.specs.EventBuffers.{Accepts, buffered_events}
use Rattle.plist_commands.proofs.CollectorTokens.{named_scalar, still_buffered}
use Rattle.plist_commands.proofs.collector.CollectorEventVisitor.again.Goals as goal

pub returns-clause-taken : goal.returns-clause-taken
returns-clause-taken c = λ event has.
    let old = c.args.self.now.pending in
    let (scalar, same) = named_scalar (buffered_events old) c.args.token event
    (still_buffered c.args.token event c.args.self.now has) c.in_ok-taken.ensures.scalar in (
      scalar,
      c.after.ensures old event (subst (λ e. OnOk c.in_ok-taken.taken (Accepts old e c.try_repeat.new.self))
          same c.in_ok-taken.ensures.buffers.taken),
    )
