use Rattle.std.proofs.Common.{refl, rules}
use Rattle.plist_c.proofs.Filled.{filled, in_memory}
use Rattle.plist_c.proofs.read.fill.Goals as goal

pub returns : goal.returns
returns g c =
    let (fills, same) = filled g.S.EventSource.yields c.args.start c.visit-visited.result _ _
    c.outcome_of_visit.result (record { count = refl; used = refl; level = refl; order = refl; limits = refl })
    c.requires c.visit-visited.ensures c.outcome_of_visit.ensures in
    let events = same.events in
    let bytes = same.bytes in
    in_memory g.S.EventSource.yields c.args.start _ _ _ _ fills (search rules) (search rules)
