-- What writing a file does, and the paths through a call of a writer.
use Rattle.std.proofs.Common.{◌≡◌, ◌⊎◌, inl, inr, ℕ, ◌^◌, ◌<◌, ◌≤◌, List, Option, Ok, Err, ◌∙◌, ap, map, subst, sym, refl, true, false, true≢false, [], ◌∷◌, ◌++◌}
use Rattle.plist_base.specs.Bracketing.{bracketing, lengthless, AreAlike, AreComplete, without_length, CanContinue}
use Rattle.plist_base.specs.Events.{PlainEvent}
use Rattle.plist_base.specs.Faults.{FaultKind, Fault, Io, OutOfMemory, PlistTooLarge, fault_without_offset}
use Rattle.plist_base.specs.Trees.{Tree}
use Rattle.plist_base.specs.Writing.{Answer, AnswersByOrder, IsHeldAfter, MatchKind}
use Rattle.plist_base.proofs.Lengths.{whole_alike, alike_last, continue_alike}
use Rattle.plist_buffer.proofs.Grammar.{complete_of_whole}
use Rattle.plist_binwrite.specs.Classes.{IsFileBy, files_by, size_by, class_in, events_in}
use Rattle.plist_binwrite.specs.declared.classes.Classed.{Classed}
use Rattle.plist_binwrite.specs.Files.{IsFileOf}
use Rattle.plist_binwrite.specs.SendingAs.{FileKind, IsOfTree, FailsAs, SendsAs}
use Rattle.plist_binwrite.proofs.ScalarClasses.{AreIdentities}
use Rattle.plist_binwrite.proofs.Least.{least}
use Rattle.plist_binwrite.proofs.WriterClasses.{owned_count, owned_size, entered_once}
use Rattle.plist_buffer.proofs.TreeOccurrences.{occurs_whole}
use Rattle.std.proofs.Props.{props}
use Rattle.std.specs.declared.io.traits.Write.{Ghosts}
use mathlib.Core.HLevel.{is_prop→PathP}
use Rattle.plist_buffer.specs.declared.event_buffer.EventBuffer.{EventBuffer}
use Rattle.plist_buffer.specs.EventBuffers.{is_whole, misplaced_fault}
use Rattle.plist_binwrite.specs.declared.sharing.Sharing.{Ghosts as SharingGhosts}
use Rattle.plist_binwrite.specs.declared.writer.FileWriter.{FileWriter}
use Rattle.plist_binwrite.specs.FileWriter.{Completes, Holds, IsWriterStep, TakesEvent, open_events, failed_of, sink_of}

-- for events that are alike, a file of the first kind is one of the second kind, and has the same
-- size
module _ (one other : FileKind) (xs ys : List PlainEvent) (p : AreAlike xs ys)
    (to : (tree : Tree) → AreAlike ys (bracketing tree) → (file : List ℕ)
    → one.IsFile tree file → other.IsFile tree file)
    (same : (tree : Tree) → AreAlike ys (bracketing tree) → one.size tree ≡ other.size tree) where
  complete_as : AreComplete xs → AreComplete ys
  complete_as c = complete_of_whole ys (whole_alike xs ys p c.0)

  file_as : (file : List ℕ) → IsOfTree xs (λ tree. one.IsFile tree file)
      → IsOfTree ys (λ tree. other.IsFile tree file)
  file_as file of = (complete_as of.0, λ t alike. to t alike _ (of.1 t (cc)))

  module _ {W : Type 0} (contents : W → Option (List ℕ)) where
    fails_as : (kind : FaultKind) (old new : W) → FailsAs one contents kind xs old new
        → FailsAs other contents kind ys old new
    fails_as Io old new (file, of, front) = (file, file_as file of, front)
    fails_as PlistTooLarge old new (large, kept) = (
      (
        complete_as large.0,
        λ t alike. rw (← (same t alike)) (large.1 t (p ∙ alike)),
      ),
      kept,
    )
    fails_as OutOfMemory old new kept = kept
    fails_as kind old new h = absurd h

    pub sends_as : (answer : Answer) (old new : W) → SendsAs one contents xs answer old new
        → SendsAs other contents ys answer old new
    sends_as (Ok done) old new (file, of, all) = (file, file_as file of, all)
    sends_as (Err fault) old new (nowhere, fails) = (nowhere, fails_as _ old new fails)

-- if the file can't be planned, nothing is written
pub sends_nothing : {W : Type 0} (contents : W → Option (List ℕ)) (given : Classed) (fault : Fault)
    (old new : W) → (fault ≡ fault_without_offset OutOfMemory)
    ⊎ ((fault ≡ fault_without_offset PlistTooLarge)
    × IsOfTree (events_in given) (λ tree. 2 ^ 64 ≤ size_by (class_in given) tree)) → new ≡ old
    → SendsAs (files_by (class_in given)) contents (events_in given) (Err fault) old new
sends_nothing contents given fault old new (inl is) same = rw is (refl, same)
sends_nothing contents given fault old new (inr large) same = rw large.0 (refl, (large.1, same))

-- ---- a file by the classes of `BinaryWriter` is the tree's file

pub owned_file : {class : ℕ → ℕ} {count : ℕ} (tree : Tree) (file : List ℕ)
    → AreIdentities (lengthless tree) class count → IsFileBy class tree file → IsFileOf tree file
owned_file tree file o f = record {
  written = f.written;
  once = record {
    events = bracketing tree;
    faultless = f.written.items;
    distinct = rw f.entered
        (entered_once o f.numbers f.apart tree (occurs_whole refl));
  };
  count = λ head is. f.count head is ∙ owned_count tree o;
  least = least tree;
  size = f.size ∙ owned_size tree o;
  fits = subst (λ n. n < 2 ^ 64) (owned_size tree o) f.fits;
}

-- ---- a call of a writer

module _ {W : Type 0} (files : FileKind) (contents : W → Option (List ℕ)) where
  -- after an error of writing the file, the writer has failed
  failing : (kind : FaultKind) (events : List PlainEvent) (old new : W) (refused lost : Type 0)
      → lost → FailsAs files contents kind events old new → MatchKind kind refused lost ⊥
  failing Io events old new refused lost f h = f
  failing PlistTooLarge events old new refused lost f h = f
  failing OutOfMemory events old new refused lost f h = f
  failing kind events old new refused lost f h = absurd h

module _ {W S : Type 0} {g : Ghosts W} {h : SharingGhosts S} (before after : FileWriter W S g h)
    (event : PlainEvent) (up : failed_of before ≡ false) where
  abbrev Does : Answer → Type 0
  Does answer = IsWriterStep before event answer after

  takes : (answer : Answer) → AnswersByOrder (open_events before) event answer (open_events after)
      (failed_of after) (after ≡ before) → TakesEvent before event answer after → Does answer
  takes answer order effect = record {
    order = λ _. order;
    failure = λ failed. absurd (true≢false (sym failed ∙ up));
    effect = λ _. effect;
  }

  pub takes_refused : (fault : Fault) → (CanContinue (open_events before) event → ⊥)
      → fault ≡ misplaced_fault (open_events before) event → after ≡ before → Does (Err fault)
  takes_refused fault none is same = takes _ (rw is (refl, (none, same))) (rw is refl)

  module _ (can : CanContinue (open_events before) event) where
    pub takes_done : failed_of after ≡ false
        → Completes before event after ⊎ Holds before event after → Does (Ok tt)
    takes_done fine effect = takes (Ok tt) (can, fine, held effect) effect
      where
        held : Completes before event after ⊎ Holds before event after
            → IsHeldAfter (open_events before) event (open_events after)
        held (inl completes) = inl completes.0.1.0.0
        held (inr holds) =
            inr (continue_alike (open_events after) (open_events before ++ event ∷ [])
            (ap (map without_length) holds.1 ∙ alike_last (open_events before) event))

    module _ (events : List PlainEvent)
        (are : events ≡ open_events before ++ without_length event ∷ []) where
      -- writing a file doesn't depend on the lengths of starts
      sent : (answer : Answer)
          → SendsAs h.kind g.contents events answer (sink_of before) (sink_of after)
          → SendsAs h.kind g.contents (open_events before ++ event ∷ []) answer (sink_of before)
          (sink_of after)
      sent answer =
          sends_as _ _ _ _
          (cc (are, alike_last (open_events before) event)) (λ t alike file of. of)
          (λ t alike. refl) _ _ _ _

      pub takes_unsent : (fault : Fault) → failed_of after ≡ true
          → SendsAs h.kind g.contents events (Err fault) (sink_of before) (sink_of after)
          → Does (Err fault)
      takes_unsent fault lost sends =
          let s = sent (Err fault) sends in
          takes _ (s.0, fails _ _ (can, lost) s.1) (fails _ _ s.1 s.1)
        where
          fails : (refused sure : Type 0) → sure
              → FailsAs h.kind g.contents fault.kind (open_events before ++ event ∷ [])
              (sink_of before) (sink_of after)
              → MatchKind fault.kind refused sure ⊥
          fails = failing h.kind g.contents fault.kind _ _ _

-- a writer is unchanged if its buffered events are
pub same_state : {W S : Type 0} {g : Ghosts W} {h : SharingGhosts S}
    (before : FileWriter W S g h) (pending : EventBuffer) (is : pending ≡ before.pending)
    (between : before.has_failed ≡ false → is_whole pending ≡ false)
    → ◌≡◌ {A = FileWriter W S g h} (record before { pending = pending; between = between }) before
same_state before pending is between =
    let along = is_prop→PathP (λ i. before.has_failed ≡ false
    → is_whole (is i) ≡ false) (λ i. hlevel props) _ _ in
    λ i. record before { pending = is i; between = along i }
