use Rattle.std.proofs.Common.{◌≡◌, ◌+◌, length, true}
use Rattle.std.specs.List.{AllByRecursion}
use Rattle.plist_base.specs.Trees.{Dictionary, Members}
use Rattle.plist_buffer.specs.Children.{indices_left}
use Rattle.plist_buffer.specs.EventTable.{plain_events, event_at, scalars_of, AllBelow, HasItem}
use Rattle.plist_buffer.specs.Occurrences.{OccursAt}
use Rattle.plist_buffer.specs.inner.Entries.{is_leaf}
use Rattle.plist_buffer.proofs.KeyStamps.{Tells}
use Rattle.plist_buffer.proofs.repeated_keys.repeats_at.Given as goal

abbrev pub invariant-loop-key : goal.invariant-loop-key
invariant-loop-key l = record {
  long : length l.stamps.items ≡ length (scalars_of l.events);
  newer : AllBelow (l.start + 2) l.stamps.items;
  tells : Tells (scalars_of l.events) l.mark l.stamps.items (plain_events l.events)
      (indices_left l.initial.key-iterator) (indices_left l.key-iterator);
  items : AllByRecursion (HasItem (plain_events l.events)) (indices_left l.key-iterator);
  leaves : (ms : Members) → OccursAt (plain_events l.events) (Dictionary ms) l.start
      → AllByRecursion (λ k. is_leaf (event_at (plain_events l.events) k) ≡ true)
      (indices_left l.key-iterator);
}
