use Rattle.std.proofs.Common.{◌≡◌, Bool, true, false, Ok, Err, ap, refl, subst, sym, ◌∙◌}
use Rattle.std.specs.declared.io.traits.Write.{Ghosts}
use Rattle.plist_base.specs.Events.{PlainEvent, event_of}
use Rattle.plist_base.specs.Faults.{Fault, FaultKind, OutOfMemory, error_kind_of, fault_of, kind_of}
use Rattle.plist_base.specs.Writing.{Answer, MatchKind}
use Rattle.plist_binwrite.specs.declared.sharing.Sharing.{Ghosts as SharingGhosts}
use Rattle.plist_binwrite.specs.declared.writer.FileWriter.{FileWriter}
use Rattle.plist_binwrite.specs.FileWriter.{IsWriterStep, failed_of, sink_of}
use Rattle.plist_callers.proofs.writer.next_without_memory.Goals as goal
use Rattle.plist_callers.proofs.writer.next_without_memory.Goals.{in-OutOfMemory, in_default-matches}

-- the kind of an error that was returned
abbrev kind_in : Answer → FaultKind
kind_in (Ok done) = OutOfMemory
kind_in (Err fault) = fault.kind

-- a writer for whose event memory ran out has failed, and has written nothing
lost : {W S : Type 0} {g : Ghosts W} {h : SharingGhosts S} (before after : FileWriter W S g h)
    (event : PlainEvent) (fault : Fault) (was : Bool) → failed_of before ≡ was
    → fault.kind ≡ OutOfMemory → IsWriterStep before event (Err fault) after
    → (failed_of after ≡ true) × (sink_of after ≡ sink_of before)
lost before after event fault false is kind step =
    let order = rw kind at (step.order is) in (order.1.1, rw kind at (step.effect is))
lost before after event fault true is kind step =
    absurd (subst (λ it. MatchKind it ⊥ (Unit {0}) ⊥) (sym kind ∙ ap kind_in (step.failure is).0) tt)

pub returns-in-Err-clause-failed : goal.returns-in-Err-clause-failed
returns-in-Err-clause-failed g c =
    let kind : kind_of (error_kind_of c.in-Err.error) ≡ OutOfMemory =
    elim c.match-matches.branch [
      | in-OutOfMemory w ↦ ap kind_of (sym c.kind.ensures ∙ w.in-OutOfMemory.is)
      | in_default-matches w ↦ cc (w.matches-is, c.if-matches.true)
    ] in
    (c.write-answer.ensures.failure
    (lost c.args.writer _ (event_of c.args.event) (fault_of c.in-Err.error) _ refl kind
    (rw c.in-Err.is at c.write.ensures)).0).0

pub returns-in-Err-clause-inner : goal.returns-in-Err-clause-inner
returns-in-Err-clause-inner g c =
    let kind : kind_of (error_kind_of c.in-Err.error) ≡ OutOfMemory =
    elim c.match-matches.branch [
      | in-OutOfMemory w ↦ ap kind_of (sym c.kind.ensures ∙ w.in-OutOfMemory.is)
      | in_default-matches w ↦ cc (w.matches-is, c.if-matches.true)
    ] in
    let loss = lost c.args.writer _ (event_of c.args.event) (fault_of c.in-Err.error) _ refl kind
    (rw c.in-Err.is at c.write.ensures) in
    c.into_inner.ensures.inner ∙ (ap sink_of (c.write-answer.ensures.failure loss.0).1 ∙ loss.1)
