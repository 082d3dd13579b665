use Rattle.plist_keyed.proofs.StoredChecks.{inserts}
use Rattle.plist_keyed.proofs.state.ArchiveWalk.settle.Goals as goal

pub returns-clause-settled : goal.returns-clause-settled
returns-clause-settled c =
    inserts c.args.self.now.ends c.insert.new.self c.args.uid c.match-next_of.end c.requires
    c.in_ok-insert.ensures.entries
