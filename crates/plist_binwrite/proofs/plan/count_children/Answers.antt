use Rattle.std.proofs.Common.{inl, arith, ap, length}
use Rattle.plist_buffer.proofs.ChildIndices.{few_in_table}
use Rattle.plist_buffer.specs.declared.children.Half.TheVariants.{Values}
use Rattle.plist_binwrite.proofs.plan.count_children.Goals as goal

pub count-requires-clause-fits : goal.count-requires-clause-fits
count-requires-clause-fits c =
    inl (omega (arith, ap length c.new.ensures, few_in_table c.args.events.now Values c.args.index))
