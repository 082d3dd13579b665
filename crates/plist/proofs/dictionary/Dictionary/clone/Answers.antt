use Rattle.std.proofs.Common.{◌≡◌, ◌+◌, suc, take, string_bytes, ap, ◌∙◌, arith, bytes_eq}
use Rattle.indexmap.specs.IndexMap.{insert_entry}
use Rattle.plist_pairs.proofs.DistinctKeys.{values-insert, next-last}
use Rattle.plist_pairs.proofs.PairColumns.{get-map}
use Rattle.plist.specs.ValueTrees.{pairs_of, tree_of, tree_pairs}
use Rattle.plist.proofs.Tops.{once_trees}
use Rattle.plist.proofs.dictionary.Dictionary.clone.Goals as goal

pub loop-i-preserved : goal.loop-i-preserved
loop-i-preserved c =
    let ps = pairs_of c.args.self.now in
    let i = c.loop-i.i in
    let k = c.pair_at.result.0.now in
    let v = c.pair_at.result.1.now in
    let name = c.in_ok-name.name in
    let copied = c.in_ok-copy.copy in
    let one : suc i ≡ i + 1 = omega arith in
    ap tree_pairs c.in_ok-set.ensures.pairs
    ∙ values-insert tree_of (string_bytes name) copied (pairs_of c.loop-i.copies)
    ∙ ap (λ l. insert_entry bytes_eq l (string_bytes name) (tree_of copied)) c.loop-i.invariant
    ∙ (λ j. insert_entry bytes_eq (take i (tree_pairs ps)) (c.in_ok-name.ensures.ok j)
    (c.in_ok-copy.ensures.copy j))
    ∙ next-last (tree_pairs ps) i k (tree_of v) (once_trees ps c.len-i-end.ensures.distinct)
    (get-map _ ps i (k, v) c.pair_at.ensures)
    ∙ ap (λ n. take n (tree_pairs ps)) one
