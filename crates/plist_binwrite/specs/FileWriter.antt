-- What a call of `write` does: which events are buffered afterwards, whether the writer has failed,
-- and what was written.
use Rattle.std.specs.Prelude.{◌≡◌, ◌⊎◌, Bool, true, false, List, [], ◌∷◌, ◌++◌, Ok, Err}
use Rattle.std.specs.declared.io.traits.Write.{Ghosts}
use Rattle.plist_base.specs.Bracketing.{without_length, AreTreeEvents}
use Rattle.plist_base.specs.Events.{PlainEvent}
use Rattle.plist_base.specs.Faults.{WriterFailed, fault_without_offset}
use Rattle.plist_base.specs.Writing.{Answer, AnswersByOrder, MatchKind}
use Rattle.plist_binwrite.specs.declared.sharing.Sharing.{Ghosts as SharingGhosts}
use Rattle.plist_binwrite.specs.declared.writer.FileWriter.{FileWriter}
use Rattle.plist_binwrite.specs.SendingAs.{SendsFileAs, FailsAs}
use Rattle.plist_buffer.specs.EventBuffers.{buffered_events, misplaced_fault}

module _ {W S : Type 0} {g : Ghosts W} {h : SharingGhosts S} where
  -- the buffered events of the open property list, without the lengths of starts
  abbrev pub open_events : FileWriter W S g h → List PlainEvent
  open_events writer = buffered_events writer.pending

  -- has the writer failed?
  abbrev pub failed_of : FileWriter W S g h → Bool
  failed_of writer = writer.has_failed

  -- the inner writer
  abbrev pub sink_of : FileWriter W S g h → W
  sink_of writer = writer.writer

  -- the buffered events and this one are those of a tree: a file of it was written, and no event is
  -- buffered
  abbrev pub Completes : (before : FileWriter W S g h) → PlainEvent
      → (after : FileWriter W S g h) → Type 0
  Completes before event after =
      SendsFileAs h.kind g.contents (open_events before ++ event ∷ []) (sink_of before)
      (sink_of after)
      × (open_events after ≡ [])

  -- the buffered events and this one aren't those of a tree yet: the event was buffered, and
  -- nothing was written
  abbrev pub Holds : (before : FileWriter W S g h) → PlainEvent → (after : FileWriter W S g h)
      → Type 0
  Holds before event after =
      (AreTreeEvents (open_events before ++ event ∷ []) → ⊥)
      × (open_events after ≡ open_events before ++ without_length event ∷ [])
      × (sink_of after ≡ sink_of before)

  -- what a call of `write` does beyond the laws of a `Writer`, if the writer hasn't failed
  abbrev pub TakesEvent : (before : FileWriter W S g h) → PlainEvent → Answer
      → (after : FileWriter W S g h) → Type 0
  TakesEvent before event (Ok done) after = Completes before event after ⊎ Holds before event after
  TakesEvent before event (Err fault) after = MatchKind fault.kind
      (fault ≡ misplaced_fault (open_events before) event)
      (FailsAs h.kind g.contents fault.kind (open_events before ++ event ∷ []) (sink_of before)
      (sink_of after))
      ⊥

  -- what a call of `write` does; `order` and `failure` are the laws of a `Writer`
  pub record IsWriterStep (before : FileWriter W S g h) (event : PlainEvent) (answer : Answer)
      (after : FileWriter W S g h) : Type 0 where
    pub order : failed_of before ≡ false → AnswersByOrder (open_events before) event answer
        (open_events after) (failed_of after) (after ≡ before)
    pub failure : failed_of before ≡ true
        → (answer ≡ Err (fault_without_offset WriterFailed)) × (after ≡ before)
    pub effect : failed_of before ≡ false → TakesEvent before event answer after
