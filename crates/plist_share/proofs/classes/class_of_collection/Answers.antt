use Rattle.std.proofs.Common.{rules, arith, ◌≡◌, ◌+◌, ◌-◌, Some, ◌∙◌}
use Rattle.plist_binwrite.specs.Classes.{listed_class}
use Rattle.plist_buffer.specs.EventTable.{plain_events}
use Rattle.plist_buffer.proofs.ChildIndices.{keys_are_in, values_are_in}
use Rattle.plist_share.proofs.ClassTrees.{by_collection}
use Rattle.plist_share.proofs.classes.class_of_collection.Goals as goal

pub returns-clause-class : goal.returns-clause-class
returns-clause-class c t s =
    let es = plain_events c.args.events.now in
    let class = listed_class c.args.found.now c.args.events.now in
    let at = c.args.index in
    let first = rw (c.new-children.ensures.items, keys_are_in es t at s) at c.in_ok-push_half.ensures in
    let is = rw (first, values_are_in es t at s) at c.in_ok-push_half-2.ensures in
    let sum : c.in_ok-class.class ≡ c.args.found.now.bound + c.in_ok-node.node = search rules in
    by_collection es class c.args.found.now.bound _
    c.begins_dictionary.result t c.args.index c.in_ok-class.class s
    c.begins_dictionary.ensures (
      c.in_ok-node.node,
      sum,
      c.in_ok-node.ensures.stored ∙ (λ i. Some (c.begins_dictionary.result, is i)),
    )

pub returns-clause-extends : goal.returns-clause-extends
returns-clause-extends c =
    let sum : c.in_ok-class.class ≡ c.args.found.now.bound + c.in_ok-node.node = search rules in
    let node : c.in_ok-class.class - c.args.found.now.bound ≡ c.in_ok-node.node = omega (arith, sum) in
    rw node c.in_ok-node.ensures.extends
