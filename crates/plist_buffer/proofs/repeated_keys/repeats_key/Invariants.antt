use Rattle.std.proofs.Common.{◌≡◌, ◌+◌, ◌<◌, ℕ, length}
use Rattle.plist_base.specs.Trees.{Dictionary, Members}
use Rattle.plist_buffer.specs.EventTable.{plain_events, scalars_of, AllBelow}
use Rattle.plist_buffer.specs.RepeatedKeys.{HasDistinctKeys}
use Rattle.plist_buffer.specs.Occurrences.{OccursAt}
use Rattle.plist_buffer.proofs.repeated_keys.repeats_key.Given as goal

abbrev pub invariant-loop-index : goal.invariant-loop-index
invariant-loop-index l = record {
  long : length l.stamps.items ≡ length (scalars_of l.events);
  older : AllBelow (l.index + 1) l.stamps.items;
  once : (p : ℕ) (ms : Members) → p < l.index → OccursAt (plain_events l.events) (Dictionary ms) p
      → HasDistinctKeys ms;
}
