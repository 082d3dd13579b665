use Rattle.plist_base.specs.Events.{event_of}
use Rattle.plist_reader.specs.Reader.{Gives, items_of_dialect, reader_items}
use Rattle.plist.specs.Collecting.{built_tree}
use Rattle.plist.proofs.BuiltVisits.{collects_items}
use Rattle.plist.proofs.PredictedItems.{as-seen}
use Rattle.plist.proofs.ReadFaults.{reader-never, reader-tells}
use Rattle.plist.proofs.RemainingItems.{of-items, reads-back, reader-shows}
use Rattle.plist.proofs.value.Value.from_reader_with_dialect.Goals as goal

pub returns-clause-value : goal.returns-clause-value
returns-clause-value g c =
    let collects = collects_items (Gives g.R.Source.known g.R.Source.failures)
    c.with_dialect-reader.result (built_tree c.collect_visited.result)
    (c.collect_visited.new.source, c.collect_visited.ensures) in
    of-items (items_of_dialect c.args.dialect) _ _ (built_tree c.collect_visited.result)
    c.with_dialect-reader.ensures.items (as-seen event_of
    (Gives g.R.Source.known g.R.Source.failures) (reader_items g.R.Source.known)
    (λ old item new gives.
    reader-shows g.R.Source.known g.R.Source.failures old new item gives) _ _ collects)

pub returns-clause-reads_back : goal.returns-clause-reads_back
returns-clause-reads_back g c = reads-back c.args.dialect _ (built_tree c.collect_visited.result)
    (returns-clause-value g c)

pub returns-clause-read : goal.returns-clause-read
returns-clause-read g c = (
  c.with_dialect-reader.result,
  c.with_dialect-reader.ensures.new,
  collects_items (Gives g.R.Source.known g.R.Source.failures) c.with_dialect-reader.result
      (built_tree c.collect_visited.result)
      (c.collect_visited.new.source, c.collect_visited.ensures),
)

pub returns-clause-fault : goal.returns-clause-fault
returns-clause-fault g c =
    reader-tells g.R.Source.known g.R.Source.failures c.with_dialect-reader.result
    c.collect_visited.result c.with_dialect-reader.ensures.limited
    (collects_items (Gives g.R.Source.known g.R.Source.failures) c.with_dialect-reader.result
    (built_tree c.collect_visited.result)
    (c.collect_visited.new.source, c.collect_visited.ensures))

pub returns-clause-never_io : goal.returns-clause-never_io
returns-clause-never_io g c never =
    reader-never g.R.Source.known g.R.Source.failures never c.with_dialect-reader.result
    c.collect_visited.result
    (collects_items (Gives g.R.Source.known g.R.Source.failures) c.with_dialect-reader.result
    (built_tree c.collect_visited.result)
    (c.collect_visited.new.source, c.collect_visited.ensures))
