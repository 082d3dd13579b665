use Rattle.std.proofs.Common.{refl}
use Rattle.plist_callers.proofs.LimitedReaders.{no_limit}
use Rattle.plist_callers.proofs.limits.reaches_a_limit_early.Goals as goal

pub returns : goal.returns
returns g c =
    no_limit (record { depth = 1; items = 1 }) _ _ c.next.result _ refl refl c.with_limits-reader.ensures.limits
    c.next.ensures.steps.inner.admitted c.is_limit.ensures
