use Rattle.plist_buffer.specs.EventTable.{plain_events}
use Rattle.plist.specs.ValueTrees.{tree_of}
use Rattle.plist.proofs.EventTables.{gathered_alike, whole_tree}
use Rattle.plist.proofs.value.Value.to_writer_binary.Goals as goal

pub write_file-requires : goal.write_file-requires
write_file-requires g c =
    let tree = tree_of _ in
    record {
      whole = whole_tree tree (plain_events c.in_ok-events.events)
          (gathered_alike tree (plain_events c.in_ok-events.events) c.in_ok-events.ensures.events);
    }
