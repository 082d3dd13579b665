use Rattle.plist_buffer.proofs.EntryEvents.{kept_repeated, either_few}
use Rattle.plist_buffer.proofs.event_table.EventTable.repeat.Goals as goal

pub invariant_of-self : goal.invariant_of-self
invariant_of-self c =
    let s = c.args.self.now in
    record {
      kept = kept_repeated s.kept c.args.number c.requires c.push.result c.push.ensures.pushed
          c.push.ensures.unchanged;
      few = either_few c.push.result _ _ c.push.ensures.small c.push.ensures.unchanged s.few;
    }
