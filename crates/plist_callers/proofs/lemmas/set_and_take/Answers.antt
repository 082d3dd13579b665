use Rattle.plist_pairs.proofs.EntrySteps.{read_set}
use Rattle.plist_callers.proofs.lemmas.set_and_take.Goals as goal

pub returns-in-Occupied-clause-next : goal.returns-in-Occupied-clause-next
returns-in-Occupied-clause-next c =
    let set = c.insert-was.ensures in
    read_set _ _ _ _ _ _ set.pairs set.unchanged.1
    c.remove-next.ensures.value
