use Rattle.std.proofs.Common.{◌≡◌, ◌≤◌, length, map}
use Rattle.plist_binwrite.specs.Classes.{HasEachCollection}
use Rattle.plist_buffer.specs.EventTable.{plain_events, scalars_of}
use Rattle.plist_buffer.specs.inner.Entries.{AreDistinct}
use Rattle.plist_share.specs.inner.Nodes.{AreClassesFrom, node_of}
use Rattle.plist_share.proofs.classes.tree_classes.Given as goal

abbrev pub invariant-back : goal.invariant-back
invariant-back l = record {
  have : AreClassesFrom l.events l.found (map node_of l.collections.keys) l.index;
  long : HasEachCollection l.found l.events;
  bound : l.found.bound ≡ length (scalars_of l.events);
  within : l.index ≤ length (plain_events l.events);
  apart : AreDistinct (map node_of l.collections.keys);
}

abbrev pub decreases-back : goal.decreases-back
decreases-back l = l.index
