use Rattle.std.proofs.Common.{◌≡◌, arith, swap_remove}
use Rattle.plist_pairs.proofs.PairColumns.{item-there, rows-taken, item_given, distinct-bytes}
use Rattle.plist_pairs.proofs.pairs.Pairs.swap_remove_at.Goals as goal

pub invariant_of-self : goal.invariant_of-self
invariant_of-self g c =
    let k = c.self.inside in
    let e = c.swap_remove_index.ensures in
    let within = item-there _ _ c.self.invariant.0 _ c.self.view_is c.args.index c.requires in
    let taken = item_given k.keys.keys c.args.index c.swap_remove_index.result
    (λ l. c.swap_remove_index.new.self.keys ≡ swap_remove k.keys.keys c.args.index l)
    (omega arith) e.key e.keys in
    let len = rw taken.2 at e.len in (
      omega arith,
      distinct-bytes c.swap_remove_index.new.self.keys e.unique,
    )

pub returns-clause-pairs : goal.returns-clause-pairs
returns-clause-pairs g c =
    let k = c.self.inside in
    let e = c.swap_remove_index.ensures in
    let i = c.args.index in
    let within = item-there _ _ c.self.invariant.0 _ c.self.view_is i c.requires in
    let taken = item_given k.keys.keys i c.swap_remove_index.result
    (λ l. c.swap_remove_index.new.self.keys ≡ swap_remove k.keys.keys i l)
    (omega arith) e.key e.keys in
    rows-taken _ _ c.self.invariant.0 i taken.0 c.swap_remove.result
    c.swap_remove_index.new.self.keys c.swap_remove.new.self.items within taken.1
    c.swap_remove.ensures.items c.args.self.now c.self.view_is
