use Rattle.std.proofs.Common.{◌≡◌, ◌++◌, ◌∷◌, [], ap, append-nil, append_assoc, refl, sym, ◌∙◌}
use Rattle.plist_base.proofs.SinkSteps.{puts_as, puts_none, puts_then}
use Rattle.plist_buffer.proofs.ChildIndices.{are_items}
use Rattle.plist_buffer.specs.Children.{half_of}
use Rattle.plist_binwrite.specs.Classes.{events_in}
use Rattle.plist_binwrite.specs.inner.Layout.{number_of_event}
use Rattle.plist_binwrite.proofs.NumberForms.{references_more}
use Rattle.plist_binwrite.proofs.send.put_half.Goals as goal

pub loop-child-init : goal.loop-child-init
loop-child-init g c = record {
  front = [];
  put = puts_none;
  left = refl;
  items = rw (c.into_iter-child-iterator.ensures.into_iter_gives, c.new-child-items.ensures)
      (are_items _ c.args.half c.args.index);
}

pub loop-child-preserved : goal.loop-child-preserved
loop-child-preserved g c =
    let i = c.loop-child.invariant in
    let next = c.in-Some.ensures.steps in
    let plan = c.args.plan.now in
    record {
      front = i.front ++ c.in-Some.child ∷ [];
      put = puts_as (references_more (number_of_event plan) plan.width i.front c.in-Some.child)
          (puts_then i.put (rw c.object_number-number.ensures at c.put_number.ensures));
      left = append_assoc i.front (c.in-Some.child ∷ []) _ ∙ ap (λ l. i.front ++ l) (sym next) ∙ i.left;
      items = (rw next at i.items).1;
    }

pub returns : goal.returns
returns g c =
    let i = c.loop-child.invariant in
    let all : i.front ≡ half_of (events_in c.args.plan.now.given) c.args.half c.args.index
    = cc (
      append-nil i.front,
      c.in-None.ensures.steps.0,
      c.into_iter-child-iterator.ensures.into_iter_gives,
      c.new-child-items.ensures,
    ) in
    rw all at i.put
