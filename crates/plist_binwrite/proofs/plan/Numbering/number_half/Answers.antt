use Rattle.plist_buffer.proofs.ChildIndices.{are_items}
use Rattle.plist_binwrite.proofs.NumberingSteps.{numbers_both, numbers_none}
use Rattle.plist_binwrite.proofs.plan.Numbering.number_half.Goals as goal

pub loop-child-init : goal.loop-child-init
loop-child-init c = record {
  so_far = c.requires.so_far;
  rest = λ now all. all;
  items = rw (c.into_iter-child-iterator.ensures.into_iter_gives, c.new-child-items.ensures)
      (are_items _ c.args.half c.args.index);
}

pub loop-child-preserved : goal.loop-child-preserved
loop-child-preserved c =
    let i = c.loop-child.invariant in
    let one = c.in_ok-number_one.ensures.numbers in
    let next = c.in-Some.ensures.steps in
    record {
      so_far = one.so_far;
      rest = λ now more. i.rest now (rw next (numbers_both one more));
      items = (rw next at i.items).1;
    }

pub returns : goal.returns
returns c =
    let i = c.loop-child.invariant in
    rw (c.into_iter-child-iterator.ensures.into_iter_gives, c.new-child-items.ensures) at
    (i.rest c.loop-child.self (rw c.in-None.ensures.steps.0 (numbers_none i.so_far tt)))
