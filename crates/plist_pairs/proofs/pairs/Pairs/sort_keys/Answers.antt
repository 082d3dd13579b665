use Rattle.std.proofs.Common.{rules, ◌≡◌, ◌∙◌, ap, arith, length, map, refl, sym, subst, is_lt, IsPermutation, string_cmp, bytes_eq}
use Rattle.std.specs.List.{IsDistinct}
use Rattle.std.specs.Map.{keys_of}
use Rattle.std.specs.String.{string_cmp_total}
use Rattle.std.proofs.lemmas.Fn.{always_returns_same}
use Rattle.std.proofs.lemmas.List.MinMax.{ranks_by}
use Rattle.plist_pairs.specs.Keys.{shown_owned_pair}
use Rattle.plist_pairs.proofs.ColumnAppends.{sorted-rows, moved-rows, still-distinct}
use Rattle.plist_pairs.proofs.pairs.Pairs.sort_keys.Goals as goal

pub loop-row-init : goal.loop-row-init
loop-row-init g c = (
  search (rules, c.into_pairs-row-items.ensures.pairs, c.replace.ensures.value),
  omega (
    arith,
    c.len-count.ensures,
    ap length c.into_iter-row-iterator.ensures.into_iter_gives,
    ap length c.into_pairs-row-items.ensures.pairs,
    ap length c.replace.ensures.value,
    ap length c.in_ok-rows.ensures.items,
    c.in_ok-rows.ensures.capacity,
  ),
)

pub returns-clause-sorted : goal.returns-clause-sorted
returns-clause-sorted g c =
    sorted-rows _ _ c.pairs_of_rows.ensures
    (c.sort_unstable_by.ensures.sorted (λ a b. is_lt (string_cmp a.0 b.0))
    (ranks_by string_cmp_total (λ e. e.0))
    (always_returns_same _ _ _ (λ a r f' k. (ap is_lt k.met, refl))))

pub pairs_of_rows-requires-clause-distinct : goal.pairs_of_rows-requires-clause-distinct
pairs_of_rows-requires-clause-distinct g c =
    let rows : map shown_owned_pair c.loop-row.rows.items ≡ c.args.self.now = search rules in
    still-distinct _ _
    (subst (λ ps. IsDistinct bytes_eq (keys_of ps)) (c.replace.ensures.value ∙ sym rows)
    c.into_pairs-row-items.ensures.distinct)
    (moved-rows _ c.loop-row.rows.items c.sort_unstable_by.new.self.items refl
    c.sort_unstable_by.ensures.permutation)

pub returns-clause-pairs : goal.returns-clause-pairs
returns-clause-pairs g c =
    let rows : map shown_owned_pair c.loop-row.rows.items ≡ c.args.self.now = search rules in
    subst (IsPermutation c.args.self.now) (sym c.pairs_of_rows.ensures)
    (moved-rows c.args.self.now c.loop-row.rows.items c.sort_unstable_by.new.self.items rows
    c.sort_unstable_by.ensures.permutation)
