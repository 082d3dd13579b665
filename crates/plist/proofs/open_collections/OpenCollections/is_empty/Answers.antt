use Rattle.std.proofs.Common.{◌<◌, List, arith, length, reverse, subst}
use Rattle.std.proofs.lemmas.List.{length-reverse}
use Rattle.std.proofs.lemmas.Bool.Decides.{nat_tests}
use Rattle.plist.specs.OpenCollections.{Contents}
use Rattle.plist.proofs.OpenLevels.{some_open}
use Rattle.plist.proofs.open_collections.OpenCollections.is_empty.Goals as goal

pub returns-clause-no : goal.returns-clause-no
returns-clause-no c =
    λ no. subst (λ (l : List Contents). 0 < length l) c.self.view_is
    (some_open (reverse c.self.inside.levels.items) _ _ c.self.invariant
    (let e = c.is_empty.ensures in
    let ok = c.self.inside.levels.ok in rw length-reverse (grind (arith, nat_tests, e, no, ok))))
