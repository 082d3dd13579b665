-- What the loop of `collect` maintains, and why it ends.
use Rattle.std.specs.Prelude.{map}
use Rattle.std.specs.Iterator.{EndsFrom, items_left}
use Rattle.std.proofs.iter.Next as it
use Rattle.plist.specs.Builder.{built_of}
use Rattle.plist.specs.Collecting.{item_by}
use Rattle.plist.proofs.BuilderItems.{TookAll}
use Rattle.plist.proofs.collect.collect.Given as goal

abbrev pub invariant-loop-item : goal.invariant-loop-item
invariant-loop-item g l =
    it.Ran g.I.Iterator.can_next (EndsFrom g.I.Iterator.remaining)
    (items_left g.I.Iterator.remaining) g.I.Iterator.next_gives
    (λ xs. TookAll (map (item_by g.E.AnyEvent.plain) xs) (built_of l.builder)) l.initial.rest l.rest

abbrev pub decreases-loop-item : goal.decreases-loop-item
decreases-loop-item g l = items_left g.I.Iterator.remaining l.rest
