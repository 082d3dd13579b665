use Rattle.plist_pairs.proofs.Inserts.{list-added}
use Rattle.plist.specs.ValueTrees.{pairs_of}
use Rattle.plist_callers.proofs.lemmas.insert_each.Goals as goal

pub returns : goal.returns
returns c =
    let (iter, becomes, ran) = c.extend.ensures.pairs in
    list-added _ _ becomes.3 iter c.args.all.items becomes.0 (pairs_of c.args.to.now) c.extend.result
    (pairs_of c.extend.new.self) ran
