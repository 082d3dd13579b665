use Rattle.std.proofs.Common.{◌≡◌, ◌<◌, ◌≤◌, ◌&&◌, false, length, sym, ap, ◌∙◌, arith, bytes_eq}
use Rattle.std.specs.Map.{values_of}
use Rattle.std.specs.Cmp.Lexicographic.{nat_list_eq_equiv}
use Rattle.std.proofs.lemmas.List.{drop_all}
use Rattle.std_collections.proofs.HashMapEq.{unequal_len}
use Rattle.plist_base.specs.Trees.{Dictionary}
use Rattle.plist.specs.declared.dictionary.Dictionary.{size_is-Dictionary}
use Rattle.plist.specs.declared.value.Value.{size-Value}
use Rattle.plist_pairs.proofs.PairsSame.{as_map}
use Rattle.plist.specs.inner.DeferredPairs.{are_same, same_values, waiting}
use Rattle.plist_pairs.specs.TreeEquality.{same, same_items}
use Rattle.plist.specs.ValueTrees.{item_trees, pair_trees, pairs_of}
use Rattle.plist.specs.inner.Weights.{weights}
use Rattle.plist.proofs.Equality.{are_covered, at-once, covered-is-same, items-next, pairs-lack, pairs-next, no-deeper}
use Rattle.plist.proofs.SameTrees.{same_dictionaries, unequal-lengths}
use Rattle.plist.proofs.equal.DeferredPairs.+same.Goals as goal

pub compare_items-returns-then-len : goal.compare_items-returns-then-len
compare_items-returns-then-len t c =
    let vs = c.args.items.now.items in
    let ws = c.args.others.now.items in
    at-once c.args.self.now (same_items (item_trees vs) (item_trees ws)) false (weights vs)
    (unequal-lengths vs ws
    (λ e. c.if-len.true (c.len.ensures ∙ c.args.items.now.ok.0 ∙ e
    ∙ sym (c.len-2.ensures ∙ c.args.others.now.ok.0))))

pub compare_items-returns-then-not-compare : goal.compare_items-returns-then-not-compare
compare_items-returns-then-not-compare t c =
    let first : c.loop-i.i < length c.args.items.now.items = omega arith in
    let second : c.loop-i.i < length c.args.others.now.items = omega arith in
    (items-next _ _ _ _ _ c.args.self.now c.loop-i.self _ c.compare.new.self first second
    c.index.ensures c.index-in-loop-i.ensures c.loop-i.invariant c.compare.ensures).0
    c.if-not-compare.true

pub compare_items-loop-i-preserved : goal.compare_items-loop-i-preserved
compare_items-loop-i-preserved t c =
    let first : c.loop-i.i < length c.args.items.now.items = omega arith in
    let second : c.loop-i.i < length c.args.others.now.items = omega arith in
    (items-next _ _ _ _ _ c.args.self.now c.loop-i.self _ c.compare.new.self first second
    c.index.ensures c.index-in-loop-i.ensures c.loop-i.invariant c.compare.ensures).1
    c.if-not-compare.false

pub compare_items-returns : goal.compare_items-returns
compare_items-returns t c =
    let i = c.loop-i.i in
    let vs = c.args.items.now.items in
    let ws = c.args.others.now.items in
    let past : length vs ≤ i = omega arith in
    let past-too : length ws ≤ i = omega arith in
    let now = are_same (waiting c.loop-i.self) in
    let so = c.loop-i.invariant.1 in (
      sym (λ j. same_items (item_trees (drop_all i vs past j))
          (item_trees (drop_all i ws past-too j)) && now)
          ∙ c.loop-i.invariant.0,
      omega arith,
    )

pub compare_pairs-returns-then-count-len : goal.compare_pairs-returns-then-count-len
compare_pairs-returns-then-count-len t c =
    let ps = pairs_of c.args.pairs.now in
    let qs = pairs_of c.args.others.now in
    let a = c.len-count.ensures in
    let b = c.len.ensures in
    at-once c.args.self.now (same (Dictionary (pair_trees ps)) (Dictionary (pair_trees qs))) false
    (weights (values_of ps))
    (unequal_len bytes_eq nat_list_eq_equiv same_values (as_map ps) (as_map qs) a.distinct
    b.distinct (λ e. c.if-count-len.true (a.count ∙ e ∙ sym b.count))
    ∙ same_dictionaries ps qs a.distinct b.distinct)

pub compare_pairs-compare-requires : goal.compare_pairs-compare-requires
compare_pairs-compare-requires t c = (
  let d = no-deeper size-Value (pairs_of c.args.pairs.now) c.loop-i.i c.pair_at.result.0.now
      c.pair_at.result.1.now c.pair_at.ensures in
      let s = size_is-Dictionary c.args.pairs.now in omega arith,
  tt,
)

pub compare_pairs-returns-in-None : goal.compare_pairs-returns-in-None
compare_pairs-returns-in-None t c =
    pairs-lack _ _ c.len-count.ensures.distinct c.len.ensures.distinct (omega arith)
    _ _ _ c.args.self.now c.loop-i.self c.pair_at.ensures c.loop-i.invariant c.in-None.ensures.value

pub compare_pairs-returns-then-not-compare : goal.compare_pairs-returns-then-not-compare
compare_pairs-returns-then-not-compare t c =
    (pairs-next _ _ c.len-count.ensures.distinct c.len.ensures.distinct (omega arith)
    _ _ _ c.args.self.now c.loop-i.self c.pair_at.ensures c.loop-i.invariant _ _ c.compare.new.self
    c.in-Some.ensures.value c.compare.ensures).0 c.if-not-compare.true

pub compare_pairs-loop-i-preserved : goal.compare_pairs-loop-i-preserved
compare_pairs-loop-i-preserved t c =
    (pairs-next _ _ c.len-count.ensures.distinct c.len.ensures.distinct (omega arith)
    _ _ _ c.args.self.now c.loop-i.self c.pair_at.ensures c.loop-i.invariant _ _ c.compare.new.self
    c.in-Some.ensures.value c.compare.ensures).1 c.if-not-compare.false

pub compare_pairs-returns : goal.compare_pairs-returns
compare_pairs-returns t c =
    let ps = pairs_of c.args.pairs.now in
    let qs = pairs_of c.args.others.now in
    let i = c.loop-i.i in
    let a = c.len-count.ensures in
    let b = c.len.ensures in
    let count : length ps ≡ length qs = omega arith in
    let past : length ps ≤ i = omega arith in
    let start = are_same (waiting c.args.self.now) in
    let now = are_same (waiting c.loop-i.self) in
    let so = c.loop-i.invariant.1 in (
      sym (λ j. are_covered (drop_all i ps past j) qs && now)
          ∙ c.loop-i.invariant.0
          ∙ ap (λ s. s && start) (covered-is-same ps qs a.distinct b.distinct count),
      omega arith,
    )
