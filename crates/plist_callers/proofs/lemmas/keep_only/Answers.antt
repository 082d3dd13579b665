use Rattle.std.proofs.Common.{◌∙◌, ap, bytes_eq}
use Rattle.plist_pairs.proofs.RetainLoop.{where_true}
use Rattle.plist_callers.proofs.lemmas.keep_only.Goals as goal

pub returns : goal.returns
returns c =
    let (answers, all, is) = c.retain.ensures.kept in
    is ∙ where_true _ _ (λ pair answer said.
    said.says ∙ ap (λ key. bytes_eq key c.args.name.now) said.shows.0) _ answers all
