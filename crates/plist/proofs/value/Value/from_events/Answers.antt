use Rattle.plist_base.proofs.OneTree.{one_tree}
use Rattle.plist.proofs.ValueLastWins.{itself}
use Rattle.plist.proofs.LastValues.{are-last-values}
use Rattle.plist.proofs.value.Value.from_events.Goals as goal

pub returns-clause-one_tree : goal.returns-clause-one_tree
returns-clause-one_tree g c = one_tree

pub returns-clause-last_values : goal.returns-clause-last_values
returns-clause-last_values g c = are-last-values

pub returns-clause-itself : goal.returns-clause-itself
returns-clause-itself g c = itself
