use Rattle.std.proofs.Common.{◌≡◌, length, ap, arith, refl}
use Rattle.std.proofs.lemmas.List.{length_push}
use Rattle.plist_buffer.proofs.Columns.{columns_closed, ends_below, entries_closed, long_columns}
use Rattle.plist_buffer.proofs.entries.Entries.close.Goals as goal

pub set-requires : goal.set-requires
set-requires c = omega (arith, (long_columns c.self.invariant c.self.view_is).1, ap length c.in_ok-push.ensures.pushed, length_push c.self.inside.numbers c.self.inside.ends)

pub overflow_add-self : goal.overflow_add-self
overflow_add-self c =
    omega (arith, ends_below c.self.invariant c.self.view_is)

pub invariant_of-self-2 : goal.invariant_of-self-2
invariant_of-self-2 c =
    rw (
      c.push_reserved.ensures.items,
      c.in_ok-reserve.ensures.items,
      c.in_default.ensures.set,
      c.in_ok-push.ensures.pushed,
    ) (columns_closed c.self.invariant c.self.view_is c.args.start c.requires.within
    c.requires.starts _)

pub returns-clause-closed : goal.returns-clause-closed
returns-clause-closed c =
    let counted : c.len.result ≡ length c.self.inside.kinds.items =
    omega (arith, ap length c.in_ok-reserve.ensures.items) in
    rw (
      c.push_reserved.ensures.items,
      c.in_ok-reserve.ensures.items,
      c.in_default.ensures.set,
      c.in_ok-push.ensures.pushed,
      counted,
    ) (entries_closed c.self.invariant c.self.view_is c.args.start c.requires.within c.requires.starts)

pub returns-clause-small : goal.returns-clause-small
returns-clause-small c =
    omega (arith, (long_columns (invariant_of-self-2 c) refl).0)
