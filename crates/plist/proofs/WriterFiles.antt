-- What is written by a writer of files that took all events of a tree.
use Rattle.std.proofs.Common.{◌≡◌, ◌⊎◌, inl, inr, ℕ, false, List, [], ◌∷◌, ◌++◌, Ok, Err, refl, sym, ap, ◌∙◌, subst, append_assoc, map}
use Rattle.std.specs.Prelude.{⊤}
use Rattle.std.specs.Io.KnownBytes.{Appends}
use Rattle.std.specs.declared.io.traits.Write.{Ghosts}
use Rattle.plist_base.specs.Bracketing.{bracketing, without_length, AreAlike, CanContinue}
use Rattle.plist_base.specs.Events.{PlainEvent}
use Rattle.plist_base.specs.Faults.{FaultKind, Fault, UnexpectedEventType, ExpectedEndOfEventStream, Io, OutOfMemory, PlistTooLarge}
use Rattle.plist_base.specs.Trees.{Tree, Leaf, Array, Dictionary}
use Rattle.plist_base.specs.Writing.{Answer, MatchKind}
use Rattle.plist_base.proofs.Lengths.{alike_last, alike_with}
use Rattle.plist_binwrite.specs.declared.sharing.Sharing.{Ghosts as SharingGhosts}
use Rattle.plist_binwrite.specs.declared.writer.FileWriter.{FileWriter}
use Rattle.plist_binwrite.specs.FileWriter.{Completes, Holds, IsWriterStep, open_events, failed_of, sink_of}
use Rattle.plist.specs.WrittenEvents.{RefusesNext, StopsForMemory, StopsWriter, TakesAll, WritesEvents}

begins : (tree : Tree) → (event : PlainEvent) × (events : List PlainEvent)
    × (bracketing tree ≡ event ∷ events)
begins (Leaf scalar) = (_, _, refl)
begins (Array items) = (_, _, refl)
begins (Dictionary pairs) = (_, _, refl)

-- if a fault isn't a rejection, it is one of those that make a writer fail
not-rejected : (kind : FaultKind) (rejected failed : Type 0) → (rejected → ⊥)
    → MatchKind kind rejected failed ⊥ → MatchKind kind ⊥ ⊤ ⊥
not-rejected (UnexpectedEventType expected found) rejected failed none h = none h
not-rejected (ExpectedEndOfEventStream found) rejected failed none h = none h
not-rejected Io rejected failed none h = tt
not-rejected OutOfMemory rejected failed none h = tt
not-rejected PlistTooLarge rejected failed none h = tt
not-rejected kind rejected failed none h = h

module _ {W S : Type 0} {g : Ghosts W} {h : SharingGhosts S} (tree : Tree) where
  abbrev Step : FileWriter W S g h → PlainEvent → Answer → FileWriter W S g h → Type 0
  Step before event answer after = IsWriterStep before event answer after

  -- these events are buffered, and nothing was written
  abbrev IsHolding : (start : W) → List PlainEvent → FileWriter W S g h → Type 0
  IsHolding start events writer =
      AreAlike (open_events writer) events × (failed_of writer ≡ false) × (sink_of writer ≡ start)

  abbrev SendsFrom : (start : W) → FileWriter W S g h → Type 0
  SendsFrom start after =
      (file : List ℕ) × h.kind.IsFile tree file
      × Appends (g.contents start) (g.contents (sink_of after)) file

  -- an event that isn't the last one is buffered
  still-holding : (start : W) (done : List PlainEvent) (e d : PlainEvent)
      (events : List PlainEvent) (before between : FileWriter W S g h)
      → bracketing tree ≡ done ++ e ∷ d ∷ events → IsHolding start done before
      → Step before e (Ok tt) between → IsHolding start (done ++ e ∷ []) between
  still-holding start done e d events before between is (alike, fine, inner) step =
      next (step.order fine).1 (step.effect fine)
    where
      following : CanContinue (open_events before ++ e ∷ []) d
      following = (
        events,
        tree,
        ap (map without_length) (append_assoc (open_events before) (e ∷ []) (d ∷ events))
            ∙ alike_with (open_events before) done (e ∷ d ∷ events) alike
            ∙ ap (map without_length) (sym is),
      )

      next : failed_of between ≡ false → Completes before e between ⊎ Holds before e between
          → IsHolding start (done ++ e ∷ []) between
      next works (inl (went, none)) = absurd (went.1.0.1 d following)
      next works (inr (unwhole, order, same)) = (
        ap (map without_length) order ∙ alike_last (open_events before) e
            ∙ alike_with (open_events before) done (e ∷ []) alike,
        works,
        same ∙ inner,
      )

  sent : (start : W) (done : List PlainEvent) (e : PlainEvent) (events : List PlainEvent)
      (before after : FileWriter W S g h) → bracketing tree ≡ done ++ e ∷ events
      → IsHolding start done before → TakesAll Step before (e ∷ events) after
      → SendsFrom start after
  sent start done e [] before after is (alike, fine, inner) (between, step, ends) =
      last (step.effect fine)
    where
      all : AreAlike (open_events before ++ e ∷ []) (bracketing tree)
      all = alike_with (open_events before) done (e ∷ []) alike ∙ ap (map without_length) (sym is)

      last : Completes before e between
          ⊎ Holds before e between → SendsFrom start after
      last (inl (went, none)) = (
        went.0,
        went.1.1 tree all,
        subst (λ w. Appends (g.contents w) (g.contents (sink_of after)) went.0) inner
            (subst (λ w. Appends (g.contents (sink_of before)) (g.contents (sink_of w)) went.0) ends
            went.2),
      )
      last (inr (unwhole, order, same)) = absurd (unwhole (tree, all))
  sent start done e (d ∷ events) before after is holding (between, step, more) =
      sent start (done ++ e ∷ []) d events between after
      (is ∙ sym (append_assoc done (e ∷ []) (d ∷ events)))
      (still-holding start done e d events before between is holding step) more

  -- a new writer that took all events of a tree wrote a file of it
  pub all-sent : (start : W) (before after : FileWriter W S g h) → open_events before ≡ []
      → failed_of before ≡ false → sink_of before ≡ start
      → TakesAll Step before (bracketing tree) after → SendsFrom start after
  all-sent start before after none fine inner taken =
      let b = begins tree in
      sent start [] b.0 b.1 before after b.2 (ap (map without_length) none, fine, inner)
      (subst (λ events. TakesAll Step before events after) b.2 taken)

  -- why the next event isn't taken
  abbrev IsStopped : FileWriter W S g h → List PlainEvent → Fault → FileWriter W S g h → Type 0
  IsStopped between left fault after =
      RefusesNext Step between left fault after ⊎ StopsForMemory Step between left fault after

  -- an event follows those that were taken
  next-event : (taken left : List PlainEvent) (between after : FileWriter W S g h) (fault : Fault)
      → IsStopped between left fault after → (event : PlainEvent) × (events : List PlainEvent)
      × (taken ++ left ≡ event ∷ events)
  next-event (event ∷ taken) left between after fault why = (event, taken ++ left, refl)
  next-event [] (event ∷ left) between after fault why = (event, left, refl)
  next-event [] [] between after fault (inl refused) = absurd refused
  next-event [] [] between after fault (inr (memory, begins, same)) = absurd begins

  stops : (start : W) (done taken left : List PlainEvent)
      (before between after : FileWriter W S g h) (fault : Fault)
      → bracketing tree ≡ done ++ (taken ++ left) → IsHolding start done before
      → TakesAll Step before taken between → IsStopped between left fault after → StopsWriter fault
  stops start done [] left before between after fault is holding took (inr (memory, begins, same)) =
      subst StopsWriter (sym memory) (refl, tt)
  stops start done [] [] before between after fault is holding took (inl refused) = absurd refused
  stops start done [] (e ∷ left) before between after fault is (alike, fine, inner) took
      (inl refused) =
      let answered = (subst (λ w. Step w e (Err fault) after) (sym took) refused).order fine in
      (answered.0, not-rejected fault.kind _ _ (λ rejected. rejected.0 can) answered.1)
    where
      can : CanContinue (open_events before) e
      can = (
        left,
        tree,
        alike_with (open_events before) done (e ∷ left) alike ∙ ap (map without_length) (sym is),
      )
  stops start done (e ∷ taken) left before between after fault is holding (mid, step, more) why =
      let (d, events, next) = next-event taken left between after fault why in
      stops start (done ++ e ∷ []) taken left mid between after fault
      (is ∙ sym (append_assoc done (e ∷ []) (taken ++ left)))
      (still-holding start done e d events before mid
      (is ∙ ap (λ l. done ++ e ∷ l) next) holding step) more why

  -- if a new writer doesn't take all events of a tree, it isn't since it rejected one
  pub all-stopped : (start : W) (before after : FileWriter W S g h) (fault : Fault)
      → open_events before ≡ [] → failed_of before ≡ false → sink_of before ≡ start
      → WritesEvents Step before (bracketing tree) (Err fault) after → StopsWriter fault
  all-stopped start before after fault none fine inner (taken, left, is, (between, took, why)) =
      stops start [] taken left before between after fault is
      (ap (map without_length) none, fine, inner) took why
