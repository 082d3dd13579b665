use Rattle.std.proofs.Common.{ap, refl}
use Rattle.plist_reader.specs.Reader.{admitted_in}
use Rattle.plist_callers.proofs.LimitedReaders.{no_event}
use Rattle.plist_callers.proofs.limits.either_yields_an_event.Goals as goal

pub returns : goal.returns
returns g c =
    no_event (record { depth = c.args.depth; items = 0 }) _ _ c.next.result _ refl (ap admitted_in c.with_limits-reader.ensures.new)
    c.next.ensures.steps.inner.admitted c.is_event.ensures
