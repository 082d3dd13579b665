use Rattle.std_collections.proofs.IterRuns.{shows_in_order}
use Rattle.plist.proofs.dictionary.Dictionary.values.Goals as goal

pub returns-clause-runs : goal.returns-clause-runs
returns-clause-runs c = shows_in_order _
