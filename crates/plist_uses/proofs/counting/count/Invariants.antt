use Rattle.plist_reader.specs.Reader.{reader_items}
use Rattle.plist_uses.proofs.Tallies.{CountedSoFar}
use Rattle.plist_uses.proofs.counting.count.Given as goal

abbrev pub invariant-loop-item : goal.invariant-loop-item
invariant-loop-item g l =
    CountedSoFar (reader_items g.R.Source.known l.initial.reader)
    (reader_items g.R.Source.known l.reader)
    l.counts
