use Rattle.std.proofs.Common.{◌≡◌, ◌∷◌, ◌∙◌, Some, arith, subst, sym}
use Rattle.std.proofs.lemmas.Grind.{common_steps}
use Rattle.plist_base.specs.Events.{event_of}
use Rattle.plist.proofs.GivenEvents.{event_comes, memory_comes, none_comes}
use Rattle.plist.specs.Events.{GivesEvent, remaining_events}
use Rattle.plist_keyed.proofs.WalkSteps.{emptied, on-err, progresses, shorter}
use Rattle.plist_keyed.proofs.walk.ArchiveWalkIterator.next.Goals as goal
use Rattle.plist_keyed.proofs.walk.ArchiveWalkIterator.next.Goals.{In-Ok}

pub loop-left-preserved-in_default-next : goal.loop-left-preserved-in_default-next
loop-left-preserved-in_default-next c =
    let none = none_comes c.in_default-next.ensures.steps in grind (arith, common_steps, none)

pub returns-in-Err-clause-goes : goal.returns-in-Err-clause-goes
returns-in-Err-clause-goes c =
    let gives = memory_comes (subst (λ i. GivesEvent c.in-Some.left (Some i) c.next.new.self)
    c.in-Err.is c.in-Some-next.ensures.steps) in
    progresses _ _ _ (
      c.loop-left.invariant.walk.0,
      emptied c.loop-left.self c.pop.new.self.items
          c.in-Some.left c.next.new.self c.push_reserved.new.self.items c.in-Some.ensures.items
          c.push_reserved.ensures.items gives.2 c.loop-left.invariant.walk.1,
    )
    (grind (arith, common_steps, gives))

-- the event that the innermost object's iterator yielded
taken : (c : In-Ok) → remaining_events c.in-Some.left
    ≡ event_of c.in-Ok.event ∷ remaining_events c.next.new.self
taken c = event_comes (subst (λ i. GivesEvent c.in-Some.left (Some i) c.next.new.self) c.in-Ok.is
    c.in-Some-next.ensures.steps)

pub returns-in_default-uid_of : goal.returns-in_default-uid_of
returns-in_default-uid_of c =
    let event = taken (goal.at.returns-in_default-uid_of c).In-Ok in record {
      steps = grind (arith, common_steps, event);
      goes = progresses _ _ _ (grind (arith, common_steps, event))
          (grind (arith, common_steps, event));
    }

pub enter-requires : goal.enter-requires
enter-requires c =
    let event = taken (goal.at.enter-requires c).In-Ok in record {
      walk = grind (arith, common_steps, event);
      settled = grind (arith, common_steps, event);
    }

pub returns-then-is_err-clause-goes : goal.returns-then-is_err-clause-goes
returns-then-is_err-clause-goes c =
    let same = on-err c.enter.result (sym c.is_err.ensures.value ∙ c.if-is_err.true)
    c.enter.ensures.unchanged in
    progresses _ _ _ c.enter.ensures.walk (rw (same, ← c.loop-left.invariant.left)
    (shorter c.loop-left.self c.pop.new.self.items c.in-Some.left c.next.new.self
    c.push_reserved.new.self.items (event_of c.in-Ok.event) c.in-Some-uid_of.uid
    c.in-Some.ensures.items c.push_reserved.ensures.items
    (taken (goal.at.returns-then-is_err-clause-goes c).In-Ok)
    (sym c.uid_of.ensures ∙ c.in-Some-uid_of.is) c.loop-left.invariant.walk))

pub loop-left-smaller : goal.loop-left-smaller
loop-left-smaller c =
    grind (arith, common_steps, taken (goal.at.loop-left-smaller c).In-Ok)

pub loop-left-preserved : goal.loop-left-preserved
loop-left-preserved c =
    grind (arith, common_steps, taken (goal.at.loop-left-preserved c).In-Ok)
