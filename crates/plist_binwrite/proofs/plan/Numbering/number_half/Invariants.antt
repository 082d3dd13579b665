use Rattle.std.specs.List.{AllByRecursion}
use Rattle.plist_buffer.specs.Children.{indices_left}
use Rattle.plist_binwrite.specs.Classes.{events_in}
use Rattle.plist_buffer.specs.EventTable.{HasItem}
use Rattle.plist_binwrite.specs.inner.Numbering.{IsNumberedSoFar, Numbers}
use Rattle.plist_binwrite.specs.declared.plan.Numbering.{Numbering}
use Rattle.plist_binwrite.proofs.plan.Numbering.number_half.Given as goal

abbrev pub invariant-loop-child : goal.invariant-loop-child
invariant-loop-child l = record {
  so_far : IsNumberedSoFar l.given l.self;
  rest : (now : Numbering) → Numbers l.given (indices_left l.child-iterator) l.self now
      → Numbers l.given (indices_left l.initial.child-iterator) l.initial.self now;
  items : AllByRecursion (HasItem (events_in l.given)) (indices_left l.child-iterator);
}
