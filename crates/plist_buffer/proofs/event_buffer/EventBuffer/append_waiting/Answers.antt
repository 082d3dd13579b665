use Rattle.std.proofs.Common.{refl, sym, subst, arith, ap, length}
use Rattle.std.proofs.lemmas.List.{length-drop}
use Rattle.plist_buffer.specs.Expects.{ExpectsNext}
use Rattle.plist_buffer.proofs.BufferedEvents.{still_buffered}
use Rattle.plist_buffer.proofs.event_buffer.EventBuffer.append_waiting.Goals as goal

pub invariant_of-self : goal.invariant_of-self
invariant_of-self c =
    let s = c.args.self.now in
    let same = still_buffered s.held _ c.as_slice.ensures.scalars c.append_small-appended.ensures.events
    c.remove_first.ensures in
    record {
      wanted = subst (λ events. ExpectsNext events s.expects) (sym same) s.wanted;
      items = λ more. s.items (omega (arith, ap length c.remove_first.ensures, length-drop c.append_small-appended.result s.waiting));
    }

pub returns-else-is_empty-clause-same : goal.returns-else-is_empty-clause-same
returns-else-is_empty-clause-same c = record {
  events = still_buffered c.args.self.now.held _ c.as_slice.ensures.scalars
      c.append_small-appended.ensures.events c.remove_first.ensures;
  expects = refl;
}
