use Rattle.std.proofs.Common.{◌≡◌, ◌++◌, map}
use Rattle.std.specs.List.{AllByRecursion}
use Rattle.plist_binwrite.specs.Classes.{listed_class}
use Rattle.plist_buffer.specs.Children.{indices_left}
use Rattle.plist_buffer.specs.EventTable.{plain_events, HasItem}
use Rattle.plist_share.proofs.classes.push_half.Given as goal

abbrev pub invariant-loop-child : goal.invariant-loop-child
invariant-loop-child l = record {
  pushed : l.found.items ++ map (listed_class l.classes l.events) (indices_left l.child-iterator)
      ≡ l.initial.found.items ++ map (listed_class l.classes l.events) (indices_left l.initial.child-iterator);
  items : AllByRecursion (HasItem (plain_events l.events)) (indices_left l.child-iterator);
}
