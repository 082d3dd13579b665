use Rattle.std.proofs.Common.{ap, arith, length, ◌∙◌}
use Rattle.plist_buffer.specs.declared.children.Half.TheVariants.{Keys}
use Rattle.plist_buffer.proofs.ChildIndices.{are_items}
use Rattle.plist_binwrite.proofs.PuttingObjects.{next_or_left, puts_before, puts_both}
use Rattle.plist_binwrite.proofs.send.put_keys.Goals as goal

pub loop-key-init : goal.loop-key-init
loop-key-init g c = record {
  long = c.requires.long;
  rest = λ after all. all;
  items = rw (c.into_iter-key-iterator.ensures.into_iter_gives, c.new-key-items.ensures)
      (are_items _ Keys c.args.index);
}

pub loop-key-preserved : goal.loop-key-preserved
loop-key-preserved g c =
    let i = c.loop-key.invariant in
    let one = c.put_once.ensures in
    let next = c.in-Some.ensures.steps in
    record {
      long = one.long ∙ i.long;
      rest = λ after more. i.rest after (puts_both (next_or_left _ _ next) one more);
      items = (rw next at i.items).1;
    }

pub returns : goal.returns
returns g c =
    rw (c.into_iter-key-iterator.ensures.into_iter_gives, c.new-key-items.ensures) at
    (c.loop-key.invariant.rest _ (puts_before (λ works p (k, low, is).
    absurd (omega (arith, low, ap length c.in-None.ensures.steps.0)))))
