use Rattle.std.proofs.Common.{arith, map, ◌∙◌}
use Rattle.plist_buffer.proofs.CollectionNumbers.{number_below, collection_ends}
use Rattle.plist_buffer.proofs.TreeStarts.{no_start}
use Rattle.plist_share.specs.inner.Nodes.{node_of}
use Rattle.plist_share.proofs.ClassTrees.{collection_written, none_written, start_at}
use Rattle.plist_share.proofs.classes.assign_class.Goals as goal

pub collection_number-requires-clause-closed : goal.collection_number-requires-clause-closed
collection_number-requires-clause-closed c =
    let u = start_at c.args.events.now c.requires.whole c.args.index c.requires.index
    (rw c.kind_at.ensures at c.in-StartArray.is) in
    collection_ends c.args.events.now u.0 c.args.index u.1

pub set-requires : goal.set-requires
set-requires c =
    let u = start_at c.args.events.now c.requires.whole c.args.index c.requires.index
    (rw c.kind_at.ensures at c.in-StartArray.is) in
    omega (
      arith,
      c.collection_number.ensures,
      number_below c.args.events.now u.0 c.args.index u.1,
      c.requires.long,
    )

pub returns-in_ok-set-in-StartArray-clause-classes : goal.returns-in_ok-set-in-StartArray-clause-classes
returns-in_ok-set-in-StartArray-clause-classes c =
    let events = c.args.events.now in
    let class = c.in_ok-class-in-StartArray in
    let u = start_at events c.requires.whole c.args.index c.requires.index
    (rw c.kind_at.ensures at c.in-StartArray.is) in
    rw (c.in_ok-set-in-StartArray.ensures.set, c.collection_number.ensures)
    (collection_written events c.args.found.now c.args.index class.class u.0 u.1 c.requires.long
    (map node_of c.args.collections.now.keys)
    (map node_of c.class_of_collection.new.collections.keys) c.requires.whole c.requires.classes
    class.ensures.above class.ensures.extends class.ensures.class)

pub returns-in-Scalar-clause-classes : goal.returns-in-Scalar-clause-classes
returns-in-Scalar-clause-classes c =
    let other = no_start c.in-Scalar.is in
    none_written c.args.events.now c.args.found.now (map node_of c.args.collections.now.keys) c.args.index
    (λ e. other.0 (c.kind_at.ensures ∙ e))
    (λ e. other.1 (c.kind_at.ensures ∙ e)) c.requires.classes
