use Rattle.std.proofs.Common.{◌≡◌, map, bytes_eq}
use Rattle.std.specs.Iterator.{EndsFrom, items_left}
use Rattle.std.proofs.iter.Next as it
use Rattle.indexmap.specs.IndexMap.{insert_all}
use Rattle.plist_pairs.specs.Keys.{shown_owned_pair}
use Rattle.plist.specs.ValueTrees.{pairs_of}
use Rattle.plist.proofs.dictionary.Dictionary.extend.Given as goal

abbrev pub invariant-loop-key : goal.invariant-loop-key
invariant-loop-key g l =
    it.Ran g.I.IntoIter.Iterator.can_next (EndsFrom g.I.IntoIter.Iterator.remaining)
    (items_left g.I.IntoIter.Iterator.remaining) g.I.IntoIter.Iterator.next_gives
    (λ rows. pairs_of l.self ≡ insert_all bytes_eq (pairs_of l.initial.self)
    (map shown_owned_pair rows))
    l.initial.rest l.rest

abbrev pub decreases-loop-key : goal.decreases-loop-key
decreases-loop-key g l = items_left g.I.IntoIter.Iterator.remaining l.rest
