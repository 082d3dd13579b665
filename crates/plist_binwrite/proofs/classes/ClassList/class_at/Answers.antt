use Rattle.std.proofs.Common.{arith}
use Rattle.plist_binwrite.proofs.ScalarClasses.{collection_there}
use Rattle.plist_binwrite.proofs.classes.ClassList.class_at.Goals as goal

pub collection_number-requires-clause-closed : goal.collection_number-requires-clause-closed
collection_number-requires-clause-closed c =
    (collection_there c.args.events.now c.requires.whole c.args.index c.requires.item
    (c.scalar_index.ensures.none c.in-None.is)).0

pub get-requires : goal.get-requires
get-requires c =
    let there = collection_there c.args.events.now c.requires.whole c.args.index c.requires.item
    (c.scalar_index.ensures.none c.in-None.is) in
    omega (arith, c.collection_number.ensures, there.1, c.requires.long)
