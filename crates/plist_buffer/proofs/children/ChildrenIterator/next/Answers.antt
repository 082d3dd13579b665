use Rattle.std.proofs.Common.{◌≡◌, arith, ap, refl, length, false}
use Rattle.plist_buffer.specs.Children.{last_at}
use Rattle.plist_buffer.specs.EventTable.{plain_events, event_at, is_end}
use Rattle.plist_buffer.proofs.ChildIndices.{one_left}
use Rattle.plist_buffer.proofs.children.ChildrenIterator.next.Goals as goal
use Rattle.plist_buffer.proofs.children.ChildrenIterator.next.Goals.{else-last-first-via-then-last-first+else-not-has_item-2 as Later, else-last-first-via-else-last-first as Same}

pub returns-clause-steps : goal.returns-clause-steps
returns-clause-steps c =
    let old = c.args.self.now in
    let here = (c.if-not-has_item.ensures.yes refl).1 in
    let whole : is_end (event_at (plain_events old.events.now) (last_at old.child old.next)) ≡ false
    = rw (← c.last-last.ensures) (elim c.else-last-first.branch [
      | Later w ↦ (w.if-not-has_item-2.ensures.yes refl).1
      | Same w ↦ cc (w.if-last-first.false, here)
    ]) in
    rw (c.index.ensures, c.index_after-self.ensures, c.last-last.ensures)
    (one_left old.child _ _ here whole)

pub returns-clause-goes : goal.returns-clause-goes
returns-clause-goes c =
    record {
      on = λ f. (tt, f, omega (arith, ap length (returns-clause-steps c)));
      keeps = tt;
      rests = λ f. tt;
    }
