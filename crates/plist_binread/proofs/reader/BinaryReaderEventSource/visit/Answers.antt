use Rattle.plist_base.proofs.VisitedItems.{visits_known}
use Rattle.plist_binread.specs.BinaryReader.{Steps, file_items}
use Rattle.plist_binread.proofs.ReaderCalls.{file_comes}
use Rattle.plist_binread.proofs.reader.BinaryReaderEventSource.visit.Goals as goal

pub returns-then-is_some-clause-items : goal.returns-then-is_some-clause-items
returns-then-is_some-clause-items g c = visits_known Steps (file_items g.R.Source.known) file_comes
    g.V.EventVisitor.step c.visit_all.result (c.args.self.now, c.args.visitor.now)
    (c.visit_all.new.self, c.visit_all.new.visitor) c.visit_all.ensures

pub returns-else-is_some-clause-items : goal.returns-else-is_some-clause-items
returns-else-is_some-clause-items g c = visits_known Steps (file_items g.R.Source.known) file_comes
    g.V.EventVisitor.step c.visit_all-else-is_some.result (c.args.self.now, c.args.visitor.now)
    (c.visit_all-else-is_some.new.self, c.visit_all-else-is_some.new.visitor)
    c.visit_all-else-is_some.ensures
