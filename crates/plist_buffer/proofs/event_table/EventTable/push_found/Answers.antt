use Rattle.std.proofs.Common.{◌≡◌, Some, IfSome, ap, subst}
use Rattle.plist_buffer.specs.EventTable.{lists_in}
use Rattle.plist_buffer.specs.StoredScalars.{event_of_small}
use Rattle.plist_buffer.specs.declared.entries.ScalarNumber.TheVariants.{Small}
use Rattle.plist_buffer.specs.inner.Entries.{is_leaf, scalar_numbered}
use Rattle.plist_buffer.proofs.EntryEvents.{numbered_is}
use Rattle.plist_buffer.proofs.event_table.EventTable.push_found.Goals as goal

pub repeat-requires : goal.repeat-requires
repeat-requires c =
    let scalars = lists_in c.args.self.now in
    ap is_leaf (numbered_is scalars (Small c.in-Some.index) _
    (subst (λ found. IfSome found (λ index. scalar_numbered scalars (Small index)
    ≡ Some (event_of_small c.args.scalar))) c.in-Some.is c.requires))
