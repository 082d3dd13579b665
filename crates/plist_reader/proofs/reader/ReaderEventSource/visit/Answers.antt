use Rattle.plist_base.specs.Visits.{YieldsPlain}
use Rattle.plist_base.proofs.VisitedItems.{visits_known}
use Rattle.plist_reader.specs.Reader.{Gives, reader_items}
use Rattle.plist_reader.proofs.ReaderItems.{reader_comes}
use Rattle.plist_reader.proofs.reader.ReaderEventSource.visit.Goals as goal

pub returns-clause-items : goal.returns-clause-items
returns-clause-items g c = visits_known (YieldsPlain (Gives g.R.Source.known g.R.Source.failures))
    (reader_items g.R.Source.known) (reader_comes g.R.Source.known g.R.Source.failures)
    g.V.EventVisitor.step c.visit_all.result (c.args.self.now, c.args.visitor.now)
    (c.visit_all.new.self, c.visit_all.new.visitor) c.visit_all.ensures
