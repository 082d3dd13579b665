use Rattle.std.proofs.Common.{◌<◌}
use Rattle.plist_binwrite.specs.Classes.{events_in}
use Rattle.plist_buffer.specs.EventTable.{HasItem}
use Rattle.plist_binwrite.specs.inner.Layout.{PutsObjects}
use Rattle.plist_binwrite.proofs.send.put_objects.Given as goal

abbrev pub invariant-loop-index : goal.invariant-loop-index
invariant-loop-index g l =
    PutsObjects l.plan g.W.Write.contents (λ p. (p < l.index) × HasItem (events_in l.plan.given) p)
    (l.fn.offsets, l.fn.sink) (l.offsets, l.sink)
