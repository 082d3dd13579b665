use Rattle.plist_buffer.specs.EventTable.{lists_in}
use Rattle.plist_buffer.proofs.EntryEvents.{long_shown, kept_start}
use Rattle.plist_buffer.proofs.event_table.EventTable.start.Goals as goal

pub invariant_of-self-in_default : goal.invariant_of-self-in_default
invariant_of-self-in_default c =
    let s = c.args.self.now in
    record {
      kept = rw (c.in_ok-push.ensures.pushed, c.len.ensures, c.in_default.ensures.pushed)
          (kept_start s.kept c.args.entry c.requires.starts
          (rw (long_shown (lists_in s) s.entries) at c.requires.after));
      few = c.in_default.ensures.small;
    }
