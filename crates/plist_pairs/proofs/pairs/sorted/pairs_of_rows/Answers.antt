use Rattle.std.proofs.Common.{◌≡◌, length, ap, arith, length-append, ◌∷◌, []}
use Rattle.std.specs.Vec.Iter.{into_iter_items}
use Rattle.plist_pairs.proofs.ColumnAppends.{then-put}
use Rattle.plist_pairs.proofs.pairs.sorted.pairs_of_rows.Goals as goal

pub loop-key-preserved-in-Ok : goal.loop-key-preserved-in-Ok
loop-key-preserved-in-Ok g c =
    let l = c.loop-key in
    let i = l.invariant in
    let rest = into_iter_items l.key-iterator in
    let less = into_iter_items c.next.new.self in
    let next : rest ≡ (c.in-Some.key, c.in-Some.value) ∷ less = c.in-Some.ensures.steps.0 in
    let put = c.push_reserved.ensures in
    let then = then-put l.keys.keys l.items.items i.same _ c.requires.distinct c.in-Some.key
    c.in-Some.value rest less next i.all c.insert.new.self.keys c.push_reserved.new.self.items
    c.in-Ok.ensures.keys put.items in
    record {
      same = then.0;
      all = then.1;
      keys = omega (arith, i.keys, ap length next, c.in-Ok.ensures.spare);
      items = omega (
        arith,
        i.items,
        ap length next,
        ap length put.items,
        length-append
            l.items.items (c.in-Some.value ∷ []),
        put.capacity,
      );
    }
