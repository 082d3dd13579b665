use Rattle.plist_reader.proofs.AsciiItems.{counted-failures}
use Rattle.plist_callers.proofs.ascii.item_and_failures.Goals as goal

pub returns : goal.returns
returns g c = counted-failures _ _ c.next.result c.next.ensures.steps.failures
