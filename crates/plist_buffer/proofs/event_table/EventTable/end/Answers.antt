use Rattle.std.proofs.Common.{[], refl, subst}
use Rattle.plist_buffer.specs.EventTable.{lists_in}
use Rattle.plist_buffer.specs.inner.Entries.{IsValidTable}
use Rattle.plist_buffer.proofs.EntryEvents.{start_stored, start_within, end_shown, kept_end, kept_stray, either, either_few}
use Rattle.plist_buffer.proofs.event_table.EventTable.end.Goals as goal

pub close-requires-clause-within : goal.close-requires-clause-within
close-requires-clause-within c =
    start_within c.args.self.now.kept.entries_are _ _ c.in-Some.ensures.some

pub close-requires-clause-starts : goal.close-requires-clause-starts
close-requires-clause-starts c =
    start_stored c.args.self.now.kept.entries_are _ _ c.in-Some.ensures.some

pub invariant_of-self-2 : goal.invariant_of-self-2
invariant_of-self-2 c = record {
  kept = rw (c.in_ok-close.ensures.closed, c.pop.ensures.rest)
      (kept_end c.args.self.now.kept _ _ c.in-Some.ensures.some);
  few = c.in_ok-close.ensures.small;
}

pub invariant_of-self : goal.invariant_of-self
invariant_of-self c =
    let s = c.args.self.now in
    let none = c.in_default.ensures.none refl in
    record {
      kept = rw none (either c.push.result (λ l. IsValidTable (lists_in s) l [])
          c.push.ensures.pushed c.push.ensures.unchanged (kept_stray s.kept none)
          (subst (IsValidTable (lists_in s) s.entries) none s.kept));
      few = either_few c.push.result _ _ c.push.ensures.small c.push.ensures.unchanged s.few;
    }

pub returns-clause-events : goal.returns-clause-events
returns-clause-events c =
    rw c.in_ok-close.ensures.closed
    (end_shown c.args.self.now.kept.entries_are _ _ c.in-Some.ensures.some)
