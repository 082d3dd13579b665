use Rattle.std.proofs.lemmas.Result.{IfOk-weaker}
use Rattle.plist_pairs.proofs.Inserts.{list-made}
use Rattle.plist.specs.ValueTrees.{pairs_of}
use Rattle.plist_callers.proofs.lemmas.of_list.Goals as goal

pub returns : goal.returns
returns c =
    IfOk-weaker c.from_pairs.result _ _ (λ made from.
    let (iter, becomes, ran) = from in
    list-made _ _ becomes.3 iter c.args.all.items becomes.0 (pairs_of made) ran) c.from_pairs.ensures.pairs
