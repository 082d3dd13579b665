use Rattle.std_collections.proofs.IterRuns.{shows_in_order, shows_values_in_order}
use Rattle.plist.proofs.dictionary.Dictionary.iter.Goals as goal

pub returns-clause-runs : goal.returns-clause-runs
returns-clause-runs c = shows_in_order _

pub returns-clause-values_run : goal.returns-clause-values_run
returns-clause-values_run c = shows_values_in_order _
