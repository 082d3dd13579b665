use Rattle.std.proofs.Common.{refl}
use Rattle.plist_callers.proofs.LimitedReaders.{no_event}
use Rattle.plist_callers.proofs.limits.yields_an_event.Goals as goal

pub returns : goal.returns
returns g c =
    no_event (record { depth = c.args.depth; items = 0 }) _ _ c.next.result _ refl c.with_limits-reader.ensures.limits
    c.next.ensures.steps.inner.admitted c.is_event.ensures
