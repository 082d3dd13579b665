use Rattle.std.proofs.Common.{arith, refl}
use Rattle.plist_buffer.proofs.Columns.{columns_more, ends_below, entries_pushed, long_columns}
use Rattle.plist_buffer.proofs.entries.Entries.push.Goals as goal

pub overflow_add-self : goal.overflow_add-self
overflow_add-self c =
    omega (arith, ends_below c.self.invariant c.self.view_is)

pub invariant_of-self-2 : goal.invariant_of-self-2
invariant_of-self-2 c =
    rw (
      c.push_reserved.ensures.items,
      c.in_ok-reserve.ensures.items,
      c.in_ok-push.ensures.pushed,
      c.columns_of-kind.ensures.number,
      c.one_if_end.ensures.value,
      c.columns_of-kind.ensures.kind,
    ) (columns_more c.self.invariant c.args.entry)

pub returns-clause-pushed : goal.returns-clause-pushed
returns-clause-pushed c =
    rw (
      c.push_reserved.ensures.items,
      c.in_ok-reserve.ensures.items,
      c.in_ok-push.ensures.pushed,
      c.columns_of-kind.ensures.kind,
      c.columns_of-kind.ensures.number,
    ) (entries_pushed c.self.invariant c.self.view_is c.args.entry)

pub returns-clause-small : goal.returns-clause-small
returns-clause-small c =
    omega (arith, (long_columns (invariant_of-self-2 c) refl).0)
