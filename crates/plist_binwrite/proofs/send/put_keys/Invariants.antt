use Rattle.std.proofs.Common.{◌≡◌, List, ℕ, length}
use Rattle.std.specs.List.{AllByRecursion, Contains}
use Rattle.plist_base.specs.declared.sink.Sink.{Sink}
use Rattle.plist_buffer.specs.Children.{indices_left}
use Rattle.plist_binwrite.specs.Classes.{events_in}
use Rattle.plist_buffer.specs.EventTable.{HasItem}
use Rattle.plist_binwrite.specs.inner.Layout.{PutsObjects}
use Rattle.plist_binwrite.proofs.send.put_keys.Given as goal

abbrev pub invariant-loop-key : goal.invariant-loop-key
invariant-loop-key g l = record {
  long : length l.offsets ≡ l.plan.numbering.count;
  rest : (after : List ℕ × Sink g.row.W.Denot)
      → PutsObjects l.plan g.W.Write.contents (Contains (indices_left l.key-iterator)) (l.offsets, l.sink)
      after
      → PutsObjects l.plan g.W.Write.contents (Contains (indices_left l.initial.key-iterator))
      (l.initial.offsets, l.initial.sink) after;
  items : AllByRecursion (HasItem (events_in l.plan.given)) (indices_left l.key-iterator);
}
