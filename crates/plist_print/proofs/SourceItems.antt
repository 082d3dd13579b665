-- The items of a source, which are yielded one by one.
use Rattle.std.proofs.Common.{◌≡◌, inl, inr, ℕ, List, [], ◌∷◌, ◌++◌, Option, None, Some, IfSome, Result, Ok, Err, map, refl, sym, ap, ◌∙◌, subst, append-nil, append_assoc}
use Rattle.std.proofs.lemmas.Option.{IfSome_then}
use Rattle.plist_base.specs.declared.error.Error.{Error}
use Rattle.plist_base.specs.Events.{PlainEvent, Item}
use Rattle.plist_base.specs.Faults.{Fault, FaultKind, Io, MatchFault, OutOfMemory, error_kind_of, fault_without_offset, fault_of, kind_of}
use Rattle.plist_base.specs.Prefixes.{AppendsPrefix}
use Rattle.plist_base.specs.Sources.{CountsIo}
use Rattle.plist_base.specs.Visits.{YieldsAll, PlainItem}
use Rattle.plist_base.proofs.VisitedItems.{Comes, all_came, came_last}
use Rattle.plist_base.proofs.WriterBytes.{Appends-at}
use Rattle.plist_base.proofs.Refusals.{MatchFault-at, MatchFault-weaker}
use Rattle.plist_base.proofs.SinkSteps.{prefix_more}
use Rattle.plist_print.specs.EscapedLines.{first_fault, lines_of, lines_of_events}
use Rattle.std.specs.Io.KnownBytes.{Appends}
use Rattle.plist_print.specs.Printing.{CountsReads, IsWriterError, IsWriterFault, PrintsKnown}
use Rattle.plist_print.specs.PrintRuns.{IsAskedOnce, PrintsRun, StopsPrinting}

-- ---- a failed write or allocation

pub device_own : (error : Error) → fault_of error ≡ fault_without_offset Io → IsWriterError error
device_own error is = subst IsWriterFault (sym is) (refl, tt)

pub memory_own : (error : Error) → fault_of error ≡ fault_without_offset OutOfMemory
    → IsWriterError error
memory_own error is = subst IsWriterFault (sym is) (refl, tt)

stops_own : {I : Type 0} (yields : I → PlainItem → I → Type 0) (error : Error) (left new : I)
    → StopsPrinting yields error left new → IsWriterError error
stops_own yields error left new (inl (io, asked)) = device_own error io
stops_own yields error left new (inr (memory, same)) = memory_own error memory

-- ---- all items

lines_front : (events : List PlainEvent) (rest : List Item)
    → lines_of (map Ok events ++ rest) ≡ lines_of_events events ++ lines_of rest
lines_front [] rest = refl
lines_front (event ∷ events) rest = simp (append_assoc, lines_front events rest)

faults_front : (events : List PlainEvent) (rest : List Item)
    → first_fault (map Ok events ++ rest) ≡ first_fault rest
faults_front [] rest = refl
faults_front (event ∷ events) rest = faults_front events rest

module _ (before after : Option (List ℕ)) (events : List PlainEvent) (all rest : List Item)
    (is : all ≡ map Ok events ++ rest) where
  -- a prefix of the lines of these events is a prefix of all lines
  front_of : AppendsPrefix before after (lines_of_events events)
      → AppendsPrefix before after (lines_of all)
  front_of front =
      subst (λ l. AppendsPrefix before after l) (sym (ap lines_of is ∙ lines_front events rest))
      (prefix_more before after (lines_of_events events) (lines_of rest) front)

  -- so are all of these lines
  whole_of : Appends before after (lines_of_events events)
      → AppendsPrefix before after (lines_of all)
  whole_of sent = front_of (lines_of_events events, [], sent, sym (append-nil _))

  -- all lines were written, if none follow those of these events
  ends : {end : List Item} → rest ≡ end → lines_of end ≡ []
      → Appends before after (lines_of_events events)
      → (first_fault all ≡ first_fault end) × Appends before after (lines_of all)
  ends at none sent = (
    ap first_fault is ∙ faults_front events rest ∙ ap first_fault at,
    Appends-at before after _ _ (sym (ap lines_of is ∙ lines_front events rest
        ∙ ap (λ l. lines_of_events events ++ l) (ap lines_of at ∙ none) ∙ append-nil _)) sent,
  )

-- what is printed of a source's events is what is printed of its items
pub run_prints : {I : Type 0} (yields : I → PlainItem → I → Type 0) (coming : I → Option (List Item))
    (comes : (old : I) (item : PlainItem) (new : I) → yields old item new
    → Comes (coming old) item (coming new)) (old new : I) (answer : Result (Unit {0}) Error)
    (before after : Option (List ℕ)) → PrintsRun yields old answer new before after
    → IfSome (coming old) (λ all. PrintsKnown all answer before after)
run_prints yields coming comes old new (Ok done) before after (events, left, through, (last, sent)) =
    IfSome_then (coming old) (came_last yields coming comes old left new events None through last)
    (λ all (rest, more, is, none). record {
      printed = ends before after events all rest is none.0 refl sent;
      refused = tt;
      prefix = whole_of before after events all rest is sent;
    })
run_prints yields coming comes old new (Err error) before after
    (events, left, through, inl (last, sent)) =
    IfSome_then (coming old)
    (came_last yields coming comes old left new events (Some (Err error)) through last)
    (λ all (rest, more, is, next). record {
      printed = tt;
      refused = MatchFault-weaker (kind_of (error_kind_of error)) (λ _. tt) (λ _. tt)
          (λ fault. ends before after events all rest is fault refl sent) next;
      prefix = whole_of before after events all rest is sent;
    })
run_prints yields coming comes old new (Err error) before after
    (events, left, through, inr (stops, front)) =
    IfSome_then (coming old) (all_came yields coming comes old left events through)
    (λ all (rest, to, is). record {
      printed = tt;
      refused = MatchFault-weaker (kind_of (error_kind_of error)) (λ _. tt) (λ _. tt)
          (λ none. absurd none) (stops_own yields error left new stops).1;
      prefix = front_of before after events all rest is front;
    })

-- ---- what a source keeps unchanged

module _ {I K : Type 0} (yields : I → PlainItem → I → Type 0) (known : I → K) where
  all_kept : ((old : I) (event : PlainEvent) (new : I) → yields old (Some (Ok event)) new
      → known new ≡ known old) → (old new : I) (events : List PlainEvent)
      → YieldsAll yields old events new → known new ≡ known old
  all_kept keeps old new [] is = ap known is
  all_kept keeps old new (event ∷ events) (next, one, others) =
      all_kept keeps next new events others ∙ keeps old event next one

  module _ (keeps : (old : I) (item : PlainItem) (new : I) → yields old item new
      → known new ≡ known old) where
    once_kept : (old left new : I) (events : List PlainEvent) → YieldsAll yields old events left
        → IsAskedOnce yields left new → known new ≡ known old
    once_kept old left new events through asked = last asked
        ∙ all_kept (λ old event. keeps old (Some (Ok event))) old left events through
      where
        last : IsAskedOnce yields left new → known new ≡ known left
        last (inl same) = ap known same
        last (inr (item, one)) = keeps left item new one

    pub run_unchanged : (old new : I) (answer : Result (Unit {0}) Error)
        (before after : Option (List ℕ)) → PrintsRun yields old answer new before after
        → known new ≡ known old
    run_unchanged old new (Ok done) before after (events, left, through, (last, sent)) =
        once_kept old left new events through (inr (None, last))
    run_unchanged old new (Err error) before after (events, left, through, inl (last, sent)) =
        once_kept old left new events through (inr (Some (Err error), last))
    run_unchanged old new (Err error) before after
        (events, left, through, inr (inl (io, asked), front)) =
        once_kept old left new events through asked
    run_unchanged old new (Err error) before after
        (events, left, through, inr (inr (memory, same), front)) =
        once_kept old left new events through (inl same)

-- ---- the number of failed reads

one_of : (kind : FaultKind) (A : Type 0) → MatchFault kind A A A → A
one_of Io A h = h
one_of OutOfMemory A h = h
one_of kind A h = h

-- a write fails after the source yielded an item
write_counts : (item : PlainItem) (error : Error) (old new : ℕ)
    → fault_of error ≡ fault_without_offset Io → CountsIo item old new
    → CountsReads {A = Unit {0}} (Err error) old new
write_counts None error old new io same = inr ((device_own error io).0, same)
write_counts (Some (Ok event)) error old new io same = inr ((device_own error io).0, same)
write_counts (Some (Err other)) error old new io counts =
    let stayed = λ (same : new ≡ old). inr ((device_own error io).0, same) in
    one_of (kind_of (error_kind_of other)) (CountsReads {A = Unit {0}} (Err error) old new)
    (MatchFault-weaker (kind_of (error_kind_of other))
    (λ rises. inl (MatchFault-at (kind_of (error_kind_of error)) Io _ _ _
    (ap (λ (f : Fault). f.kind) io) rises)) stayed stayed counts)

module _ {I : Type 0} (yields : I → PlainItem → I → Type 0) (failures : I → ℕ)
    (counts : (old : I) (item : PlainItem) (new : I) → yields old item new
    → CountsIo item (failures old) (failures new)) where
  since : (old left new : I) (events : List PlainEvent) → YieldsAll yields old events left
      → (answer : Result (Unit {0}) Error) → CountsReads answer (failures left) (failures new)
      → CountsReads answer (failures old) (failures new)
  since old left new events through answer =
      subst (λ first. CountsReads answer first (failures new))
      (all_kept yields failures (λ old event. counts old (Some (Ok event))) old left events through)

  pub run_counted : (old new : I) (answer : Result (Unit {0}) Error)
      (before after : Option (List ℕ)) → PrintsRun yields old answer new before after
      → CountsReads answer (failures old) (failures new)
  run_counted old new (Ok done) before after (events, left, through, (last, sent)) =
      since old left new events through (Ok done) (inl (counts left None new last))
  run_counted old new (Err error) before after (events, left, through, inl (last, sent)) =
      since old left new events through (Err error) (inl (counts left (Some (Err error)) new last))
  run_counted old new (Err error) before after
      (events, left, through, inr (inl (io, inl same), front)) =
      since old left new events through (Err error)
      (inr ((device_own error io).0, ap failures same))
  run_counted old new (Err error) before after
      (events, left, through, inr (inl (io, inr (item, one)), front)) =
      since old left new events through (Err error)
      (write_counts item error (failures left) (failures new) io (counts left item new one))
  run_counted old new (Err error) before after
      (events, left, through, inr (inr (memory, same), front)) =
      since old left new events through (Err error)
      (inr ((memory_own error memory).0, ap failures same))
