use Rattle.std.proofs.Common.{refl}
use Rattle.plist_pairs.proofs.EntrySteps.{read_set}
use Rattle.plist.specs.ValueTrees.{pairs_of}
use Rattle.plist_callers.proofs.lemmas.write_and_take.Goals as goal

pub returns-in-Occupied-clause-next : goal.returns-in-Occupied-clause-next
returns-in-Occupied-clause-next c =
    let found = c.in-Occupied.found in
    cc (read_set (pairs_of found.pairs.now) _ found.at _ c.replace-was.new.dest c.remove-next.result refl refl
    c.remove-next.ensures.value)
