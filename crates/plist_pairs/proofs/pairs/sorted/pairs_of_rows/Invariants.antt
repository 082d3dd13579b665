use Rattle.std.proofs.Common.{◌≡◌, ◌≤◌, ◌+◌, ◌++◌, length, map, string_bytes, zip, vec_capacity}
use Rattle.std.specs.Vec.Iter.{into_iter_items}
use Rattle.indexmap.specs.IndexSet.{spare}
use Rattle.plist_pairs.specs.Keys.{shown_owned_pair}
use Rattle.plist_pairs.proofs.pairs.sorted.pairs_of_rows.Given as goal

abbrev pub invariant-loop-key : goal.invariant-loop-key
invariant-loop-key g l = record {
  same : length l.items.items ≡ length l.keys.keys;
  all : zip (map string_bytes l.keys.keys) l.items.items
      ++ map shown_owned_pair (into_iter_items l.key-iterator)
      ≡ map shown_owned_pair l.fn.rows.items;
  keys : length (into_iter_items l.key-iterator) ≤ spare l.keys;
  items : length l.items.items + length (into_iter_items l.key-iterator) ≤ vec_capacity l.items;
}
