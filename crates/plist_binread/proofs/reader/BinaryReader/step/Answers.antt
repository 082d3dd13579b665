use Rattle.std.proofs.Common.{refl, Some}
use Rattle.plist_base.specs.Events.{EndCollection}
use Rattle.plist_binread.proofs.ReaderCalls.{left_behind, nothing_ended}
use Rattle.plist_decode.proofs.UnknownBytes.{IfSome-all, IfSome-never}
use Rattle.plist_binread.specs.Walking.{IsBounded}
use Rattle.plist_binread.proofs.TokenSteps.{no_tokens}
use Rattle.plist_binread.proofs.UnlimitedSteps.{first_walks, item_walks, not_fresh, walks_on_ok}
use Rattle.plist_binread.proofs.reader.BinaryReader.step.Goals as goal

pub returns-in-Ended-clause-walks : goal.returns-in-Ended-clause-walks
returns-in-Ended-clause-walks g c = record {
  event = EndCollection;
  is = record {
    gives = record {
      unchanged = refl;
      items = rw c.in-Ended.is (nothing_ended _);
      admitted = tt;
      failures = refl;
      ended = λ _. refl;
      unasked = λ _. refl;
      ends = c.in-Ended.is;
      begun = rw c.in-Ended.is refl;
      faults = tt;
      head = rw c.in-Ended.is (IfSome-never _ _ (λ w. absurd (cc)));
      cached = IfSome-all _ (λ bytes. tt);
      leaves = left_behind _ _ c.args.self.now.counted c.args.self.now.bounded;
      objects = IfSome-all _ (λ bytes. tt);
      kept = (refl, λ _. refl);
    };
    falls = tt;
  };
  taken = refl;
}

pub returns-in-Fresh-clause-walks : goal.returns-in-Fresh-clause-walks
returns-in-Fresh-clause-walks g c =
    let h = c.begin.ensures.handed in
    record {
      event = h.event;
      is = first_walks c.args.self.now _ c.begin.ensures.unchanged c.begin.ensures.counted
          refl c.begin.result h.event c.in-Fresh.is c.end_after.ensures h.is
          c.begin.ensures.fault c.begin.ensures.bounded c.begin.ensures.objects c.begin.ensures.known
          c.begin.ensures.falls c.begin.ensures.failures;
      taken = h.taken;
    }

pub returns-in-Walking-clause-walks : goal.returns-in-Walking-clause-walks
returns-in-Walking-clause-walks g c =
    let h = c.advance-item.ensures.handed in
    record {
      event = h.event;
      is = item_walks c.args.self.now _ c.advance-item.ensures.kept.unchanged
          c.advance-item.ensures.kept.counted refl c.advance-item.result h.event c.in-Walking.is
          c.end_after-in-Walking.ensures (rw c.advance-item.ensures.kept.bounds h.is.first)
          c.advance-item.ensures.fault c.advance-item.ensures.kept.size c.args.self.now.bounded
          (rw c.advance-item.ensures.kept.bounds c.advance-item.ensures.kept.known_walk)
          h.is.cached c.advance-item.ensures.falls c.advance-item.ensures.failures;
      taken = h.taken;
    }

pub invariant_of-self : goal.invariant_of-self
invariant_of-self g c = record {
  fresh = λ fresh. absurd (not_fresh (Some c.begin.result) _ c.end_after.ensures fresh);
  counted = c.begin.ensures.counted;
  bounded = rw c.begin.ensures.unchanged c.begin.ensures.bounded;
  known = λ walking. rw c.begin.ensures.unchanged
      (walks_on_ok c.begin.result _ _ c.end_after.ensures c.begin.ensures.known walking);
  refers = rw c.begin.ensures.unchanged c.args.self.now.refers;
}

pub invariant_of-self-in-Walking : goal.invariant_of-self-in-Walking
invariant_of-self-in-Walking g c = record {
  fresh = λ fresh. absurd (not_fresh c.advance-item.result _ c.end_after-in-Walking.ensures
      fresh);
  counted = c.advance-item.ensures.kept.counted;
  bounded = rw (c.advance-item.ensures.kept.unchanged, c.advance-item.ensures.kept.size, IsBounded)
      c.args.self.now.bounded;
  known = λ _. rw (c.advance-item.ensures.kept.unchanged, c.advance-item.ensures.kept.bounds)
      c.advance-item.ensures.kept.known_walk;
  refers = rw c.advance-item.ensures.kept.unchanged c.advance-item.ensures.references;
}

pub returns-in-Fresh-clause-tokens : goal.returns-in-Fresh-clause-tokens
returns-in-Fresh-clause-tokens g c = λ _.
    no_tokens g.V.EventVisitor.step g.V.EventVisitor.names c.new.result _ _ c.new.ensures
