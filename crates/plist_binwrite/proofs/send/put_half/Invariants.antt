use Rattle.std.proofs.Common.{◌≡◌, ◌++◌, ℕ, List}
use Rattle.std.specs.List.{AllByRecursion}
use Rattle.plist_base.specs.Sinks.{Puts}
use Rattle.plist_binwrite.specs.Classes.{events_in}
use Rattle.plist_buffer.specs.EventTable.{HasItem}
use Rattle.plist_buffer.specs.Children.{indices_left}
use Rattle.plist_binwrite.specs.inner.Layout.{number_of_event}
use Rattle.plist_binwrite.proofs.NumberForms.{references}
use Rattle.plist_binwrite.proofs.send.put_half.Given as goal

abbrev pub invariant-loop-child : goal.invariant-loop-child
invariant-loop-child g l = record {
  front : List ℕ;
  put : Puts g.W.Write.contents l.fn.sink (references (number_of_event l.plan) l.plan.width front)
      l.sink;
  left : front ++ indices_left l.child-iterator ≡ indices_left l.initial.child-iterator;
  items : AllByRecursion (HasItem (events_in l.plan.given)) (indices_left l.child-iterator);
}
