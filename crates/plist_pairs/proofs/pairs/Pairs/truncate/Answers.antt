use Rattle.std.proofs.Common.{rules, sym, ◌∙◌}
use Rattle.std.proofs.lemmas.List.{take_all}
use Rattle.plist_pairs.proofs.PairColumns.{columns}
use Rattle.plist_pairs.proofs.pairs.Pairs.truncate.Goals as goal

pub invariant_of-self : goal.invariant_of-self
invariant_of-self g c =
    let items = sym (take_all c.args.count c.loop-self.self-inside.items.items (search rules))
    ∙ c.loop-self.invariant.1 in
    search (rules, columns, items, c.loop-self.invariant.0)

pub returns : goal.returns
returns g c =
    let items = sym (take_all c.args.count c.loop-self.self-inside.items.items (search rules))
    ∙ c.loop-self.invariant.1 in
    search (rules, columns, items, c.loop-self.invariant.0)
