use Rattle.std.proofs.Common.{refl}
use Rattle.plist_callers.proofs.LimitedReaders.{no_second}
use Rattle.plist_callers.proofs.limits.opens_a_second_collection.Goals as goal

pub returns : goal.returns
returns g c =
    no_second (record { depth = 1; items = c.args.items }) _ _ _ c.next.result c.next-2.result _ _ refl c.with_limits-reader.ensures.limits
    c.next.ensures.steps.inner.admitted c.next-2.ensures.steps.inner.admitted c.is_start-first.ensures
    c.is_start-second.ensures
