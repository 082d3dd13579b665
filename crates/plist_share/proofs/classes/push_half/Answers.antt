use Rattle.std.proofs.Common.{◌∷◌, subst, refl, append-nil}
use Rattle.std.specs.List.{AllByRecursion}
use Rattle.plist_buffer.specs.Children.{indices_left}
use Rattle.plist_buffer.specs.EventTable.{plain_events, HasItem}
use Rattle.plist_buffer.proofs.ChildIndices.{are_items}
use Rattle.plist_share.proofs.classes.push_half.Goals as goal
use Rattle.plist_share.proofs.classes.push_half.Goals.{In-Some as Next}

items : (c : Next) → AllByRecursion (HasItem (plain_events c.args.events.now))
    (c.in-Some.child ∷ indices_left c.next.new.self)
items c = subst (AllByRecursion (HasItem _)) c.in-Some.ensures.steps c.loop-child.invariant.items

pub loop-child-init : goal.loop-child-init
loop-child-init c = record {
  pushed = refl;
  items = rw (c.into_iter-child-iterator.ensures.into_iter_gives, c.new-child-items.ensures)
      (are_items _ c.args.half c.args.index);
}

pub returns : goal.returns
returns c =
    rw (
      c.in-None.ensures.steps.0,
      c.into_iter-child-iterator.ensures.into_iter_gives,
      c.new-child-items.ensures,
      append-nil c.loop-child.found.items,
    ) at c.loop-child.invariant.pushed
