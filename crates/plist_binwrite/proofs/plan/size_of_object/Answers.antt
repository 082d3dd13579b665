use Rattle.std.proofs.Common.{◌∙◌, arith}
use Rattle.plist_base.specs.declared.marker.CountedKind.TheVariants as kind
use Rattle.plist_buffer.specs.declared.children.Half.TheVariants.{Values}
use Rattle.plist_buffer.proofs.ChildIndices.{few_in_table}
use Rattle.plist_binwrite.proofs.TreeObjects.{count_items, count_pairs, of_array, of_dictionary}
use Rattle.plist_binwrite.proofs.plan.size_of_object.Goals as goal

pub overflow_mul-count : goal.overflow_mul-count
overflow_mul-count c =
    let few = few_in_table c.args.events.now Values c.args.index in
    omega (arith, c.count_children-count-in-StartDictionary.ensures, few)

pub returns-in-StartArray-clause-size : goal.returns-in-StartArray-clause-size
returns-in-StartArray-clause-size c =
    of_array c.kind_at.ensures _ c.in-StartArray.is (λ ts s.
    rw (← (c.count_children-count.ensures ∙ count_items s))
    (c.size_of_collection.ensures kind.Array))

pub returns-in-StartDictionary-clause-size : goal.returns-in-StartDictionary-clause-size
returns-in-StartDictionary-clause-size c =
    of_dictionary c.kind_at.ensures _ c.in-StartDictionary.is (λ ms s.
    rw (← (c.count_children-count-in-StartDictionary.ensures ∙ count_pairs s))
    (c.size_of_collection-in-StartDictionary.ensures kind.Dictionary))
