use Rattle.std.proofs.Common.{map, arith}
use Rattle.std.proofs.lemmas.List.{length-map}
use Rattle.plist_buffer.specs.inner.Columns.{kind_in}
use Rattle.plist_buffer.proofs.Columns.{few_ends}
use Rattle.plist_buffer.proofs.event_table.EventTable.count_collections.Goals as goal

pub returns-clause-small : goal.returns-clause-small
returns-clause-small c =
    let entries = c.args.self.now.entries in
    omega (arith, few_ends (map kind_in entries), length-map entries kind_in)
