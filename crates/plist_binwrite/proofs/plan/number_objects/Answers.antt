use Rattle.std.proofs.Common.{◌-◌, ◌∙◌, ◌++◌, List, ℕ, ap, arith, below_more, refl, replicate, subst}
use Rattle.std.specs.List.{AllByRecursion}
use Rattle.plist_binwrite.specs.Classes.{events_in}
use Rattle.plist_binwrite.specs.inner.Numbering.{IsNumbered, Numbers}
use Rattle.plist_buffer.specs.Children.{half_of}
use Rattle.plist_buffer.specs.declared.children.Half.{Half}
use Rattle.plist_buffer.specs.declared.children.Half.TheVariants.{Keys, Values}
use Rattle.plist_buffer.proofs.ChildIndices.{keys_are_in, values_are_in}
use Rattle.plist_buffer.proofs.TreePositions.{positions_all, positions_have}
use Rattle.plist_buffer.proofs.TreeOccurrences.{occurs_whole}
use Rattle.plist_binwrite.proofs.NumberingSteps.{numbered_none, numbers_both, numbers_none, still_numbered}
use Rattle.plist_buffer.proofs.TreeStarts.{begins, occurs_in}
use Rattle.plist_buffer.proofs.Uniques.{all_from, all_left, all_right}
use Rattle.plist_binwrite.proofs.plan.number_objects.Goals as goal
use Rattle.plist_binwrite.proofs.plan.number_objects.Goals.{then-begins_collection+in_ok-number_half+in_ok-number_half-2, else-begins_collection}

pub number_one-requires-clause-so_far : goal.number_one-requires-clause-so_far
number_one-requires-clause-so_far c =
    numbered_none c.requires.whole c.requires.classed
    (c.in_ok-by_class.ensures.zeros ∙ ap (λ bound. replicate bound 0) c.bound.ensures)

pub number_one-requires-clause-item : goal.number_one-requires-clause-item
number_one-requires-clause-item c =
    let root = occurs_whole c.requires.whole.1 in (occurs_in root, begins _ 0 root)

pub loop-index-init : goal.loop-index-init
loop-index-init c =
    let one = c.in_ok-number_one.ensures in
    record {
      so_far = one.numbers.so_far;
      numbered = one.numbers.numbered.0;
      root = one.first (omega arith);
      children = λ p lt. absurd (omega (arith, lt));
    }

pub loop-index-preserved : goal.loop-index-preserved
loop-index-preserved c =
    let i = c.loop-index.invariant in
    let halves : Half → List ℕ = λ half. half_of (events_in c.args.given.now) half c.loop-index.index in
    let one : Numbers c.args.given.now (halves Keys ++ halves Values) c.loop-index.numbering
    c.if-begins_collection.numbering = elim c.if-begins_collection.branch [
      | then-begins_collection+in_ok-number_half+in_ok-number_half-2 w ↦ rw w.numbering-is
          (numbers_both w.in_ok-number_half.ensures w.in_ok-number_half-2.ensures)
      | else-begins_collection w ↦
          let none = w.if-begins_collection.ensures.no refl in
          rw (w.numbering-is, none Keys, none Values) (numbers_none i.so_far tt)
    ] in
    record {
      so_far = one.so_far;
      numbered = still_numbered one 0 i.numbered;
      root = ap (λ k. k - 1) (one.keeps 0 i.numbered) ∙ i.root;
      children = below_more _ _ (λ p lt. all_from _ _ (still_numbered one) _ (i.children p lt))
          one.numbered;
    }

pub returns : goal.returns
returns c =
    let (t, e) = c.requires.whole in
    let i = c.loop-index.invariant in
    let given = c.args.given.now in
    let one = IsNumbered given c.loop-index.numbering in
    let es = events_in given in
    record {
      so_far = i.so_far;
      all = λ p item. positions_all es one t e (positions_have es one
          (λ u r s. let o = i.children r (omega (arith, occurs_in s)) in (
            subst (AllByRecursion one) (keys_are_in _ u r s) (all_left one _ _ o),
            subst (AllByRecursion one) (values_are_in _ u r s) (all_right one _ _ o),
          ))
          t 0 (occurs_whole e) i.numbered) p item.0 item.1;
      root = i.root;
    }
