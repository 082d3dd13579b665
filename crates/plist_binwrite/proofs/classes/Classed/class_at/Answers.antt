use Rattle.std.proofs.Common.{arith, map}
use Rattle.std.proofs.lemmas.List.{length-map}
use Rattle.plist_buffer.specs.inner.Columns.{kind_in}
use Rattle.plist_buffer.proofs.Columns.{few_ends}
use Rattle.plist_binwrite.proofs.ScalarClasses.{collection_there}
use Rattle.plist_binwrite.proofs.classes.Classed.class_at.Goals as goal

pub collection_number-requires-clause-closed : goal.collection_number-requires-clause-closed
collection_number-requires-clause-closed c =
    (collection_there c.args.self.now.events.now c.requires.whole c.args.index c.requires.item
    (c.scalar_index.ensures.none c.in-None.is)).0

pub overflow_add-result : goal.overflow_add-result
overflow_add-result c =
    let held = c.args.self.now.events.now in
    let there = collection_there held c.requires.whole c.args.index c.requires.item
    (c.scalar_index.ensures.none c.in-None.is) in
    omega (
      arith,
      c.count_scalars.ensures.small,
      c.collection_number.ensures,
      there.1,
      few_ends (map kind_in held.entries),
      length-map held.entries kind_in,
      held.few,
    )
