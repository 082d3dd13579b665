-- What is written for the events that a printer takes.
use Rattle.std.proofs.Common.{◌≡◌, ◌++◌, inl, inr, ℕ, List, [], ◌∷◌, Option, None, Some, Result, Ok, Err, true, refl, ap, subst, sym, ◌∙◌, append_assoc, append-nil}
use Rattle.std.proofs.lemmas.Bool.{true≢false}
use Rattle.std.specs.Io.KnownBytes.{Appends, Keeps}
use Rattle.std.specs.declared.ops.ControlFlow.TheVariants.{Break, Continue}
use Rattle.std.proofs.KnownBytes.{Appends-nil}
use Rattle.plist_base.specs.declared.error.Error.{Error}
use Rattle.plist_base.specs.declared.fixed_buffer.FixedBuffer.{FixedBuffer}
use Rattle.plist_base.specs.declared.sink.Sink.{Sink}
use Rattle.plist_base.specs.declared.visitor.Visited.{Visited}
use Rattle.plist_base.specs.declared.visitor.Visited.TheVariants.{Ended, Stopped}
use Rattle.plist_base.specs.Events.{PlainEvent}
use Rattle.plist_base.specs.Faults.{Io, fault_without_offset, fault_of}
use Rattle.plist_base.specs.Sinks.{IsSameSink, Puts, is_open, pending}
use Rattle.plist_base.specs.Visits.{Flow, HandsOver, HandsOverAll, PlainItem, Visits, YieldsAll}
use Rattle.plist_base.proofs.SinkSteps.{puts_as, puts_closed, puts_none, puts_pending, puts_then, same_itself, same_then, sent_whole}
use Rattle.plist_base.proofs.Visits.{given_more, kept_all}
use Rattle.plist_print.specs.declared.printer.Printer.{Printer}
use Rattle.plist_print.specs.EscapedLines.{line_of, lines_of_events}
use Rattle.plist_print.specs.Printers.{PrintsBytes, PrintsLine}
use Rattle.plist_print.specs.PrintRuns.{IsAskedOnce, PrintsRun}

-- bytes are pushed to the buffer of a sink
pub puts_pushed : {W : Type 0} {contents : W → Option (List ℕ)} {a : Sink W} {after : FixedBuffer}
    {xs : List ℕ} → after ≡ a.buffer.now ++ xs
    → Puts contents a xs (record a { buffer = record a.buffer { now = after } })
puts_pushed pushed = puts_pending (record { writer = refl; buffer = refl }) refl pushed refl

module _ {W : Type 0} {contents : W → Option (List ℕ)} {a : Printer W} where
  pub prints_none : PrintsBytes contents a [] (Continue tt) a
  prints_none = record { put = puts_none; working = λ _ works. works; stopped = λ is. absurd (cc) }

  module _ {b : Printer W} {xs : List ℕ} where
    pub prints_as : {ys : List ℕ} {flow : Flow} → xs ≡ ys → PrintsBytes contents a xs flow b
        → PrintsBytes contents a ys flow b
    prints_as is p = rw (← is) p

    -- bytes are put, and then others are pushed to the buffer
    pub prints_pushed : {flow : Flow} {after : FixedBuffer} (ys : List ℕ)
        → PrintsBytes contents a xs flow b → after ≡ b.sink.buffer.now ++ ys
        → PrintsBytes contents a (xs ++ ys) flow
        (record { sink = record b.sink { buffer = record b.sink.buffer { now = after } } })
    prints_pushed ys p pushed = record {
      put = puts_then p.put (puts_pushed pushed);
      working = p.working;
      stopped = p.stopped;
    }

    -- bytes are put, and then others
    pub prints_then : {c : Printer W} {ys : List ℕ} {flow : Flow}
        → PrintsBytes contents a xs (Continue tt) b → PrintsBytes contents b ys flow c
        → PrintsBytes contents a (xs ++ ys) flow c
    prints_then p q = record {
      put = puts_then p.put q.put;
      working = λ more works. q.working more (p.working refl works);
      stopped = q.stopped;
    }

    -- bytes are put, and then the pending ones are written
    pub prints_written : {c : Printer W} {flow : Flow} → PrintsBytes contents a xs (Continue tt) b
        → PrintsBytes contents b [] flow c → PrintsBytes contents a xs flow c
    prints_written {c} {flow} p q = subst (λ l. PrintsBytes contents a l flow c) (append-nil xs) (prints_then p q)

    -- a write has failed, so that any bytes may follow
    pub prints_closed : (ys : List ℕ) → PrintsBytes contents a xs (Break tt) b
        → PrintsBytes contents a (xs ++ ys) (Break tt) b
    prints_closed ys p = record {
      put = puts_closed ys (p.stopped refl) p.put same_itself refl (λ works. works);
      working = λ is. absurd (cc);
      stopped = p.stopped;
    }

lines_more : (events : List PlainEvent) (event : PlainEvent)
    → lines_of_events events ++ line_of event ≡ lines_of_events (events ++ event ∷ [])
lines_more [] event = sym (append-nil (line_of event))
lines_more (first ∷ events) event =
    append_assoc (line_of first) (lines_of_events events) (line_of event)
    ∙ ap (λ l. line_of first ++ l) (lines_more events event)

module _ {I W : Type 0} (yields : I → PlainItem → I → Type 0) (contents : W → Option (List ℕ)) where
  -- events were yielded, and their lines were put into the sink
  record Ran (old now : I × Printer W) : Type 0 where
    events : List PlainEvent
    through : YieldsAll yields old.0 events now.0
    put : Puts contents old.1.sink (lines_of_events events) now.1.sink

  ran_more : {old now new : I × Printer W} (event : PlainEvent) (flow : Flow) → Ran old now
      → HandsOver yields (PrintsLine contents) now event flow new → Ran old new
  ran_more event flow ran one = record {
    events = ran.events ++ event ∷ [];
    through = given_more yields _ _ _ ran.events event ran.through one.given;
    put = puts_as (lines_more ran.events event) (puts_then ran.put one.taken.put);
  }

  ran_all : {old now : I × Printer W} (events : List PlainEvent)
      → HandsOverAll yields (PrintsLine contents) old events now → Ran old now
  ran_all {old} {now} events =
      kept_all yields (PrintsLine contents) (Ran old)
      (λ _ _ event ran one. ran_more event _ ran one) old now events
      (record { events = []; through = refl; put = puts_none })

  -- all events are printed, and the pending lines are written
  whole : {old now : I × Printer W} {last : Sink W} (ran : Ran old now) → pending old.1.sink ≡ []
      → Puts contents now.1.sink [] last → is_open last ≡ true → pending last ≡ []
      → Appends (contents old.1.sink.writer.now) (contents last.writer.now)
      (lines_of_events ran.events)
  whole {last = last} ran none done works empty =
      sent_whole (contents last.writer.now) none (puts_as (append-nil _) (puts_then ran.put done))
      works (rw empty (Appends-nil (contents last.writer.now)))

  module _ {old new : I × Printer W} where
    -- the lines of all events that a visit handed over were put into the sink, and after the last of
    -- them, the source was called at most once
    asked_once : (visited : Result Visited Error)
        → Visits yields (PrintsLine contents) old visited new
        → (left : I) × Ran old (left, new.1) × IsAskedOnce yields left new.0
    asked_once (Ok Ended) visit = (
      visit.left.0,
      rw visit.ended.1 (ran_all visit.events visit.handed),
      inr (None, visit.ended.0),
    )
    asked_once (Ok Stopped) visit =
        (new.0, ran_more visit.ended.0 _ (ran_all visit.events visit.handed) visit.ended.1, inl refl)
    asked_once (Err error) visit = (
      visit.left.0,
      rw visit.ended.1 (ran_all visit.events visit.handed),
      inr (Some (Err error), visit.ended.0),
    )

    -- the printer still has the same sink after a visit, and after the pending lines are written
    pub visits_same : {last : Sink W} (visited : Result Visited Error)
        → Visits yields (PrintsLine contents) old visited new → Puts contents new.1.sink [] last
        → IsSameSink old.1.sink last
    visits_same visited visit done = same_then (asked_once visited visit).1.put.same done.same

    -- the pending lines are written after a visit
    module _ {last : Sink W} (none : pending old.1.sink ≡ []) (done : Puts contents new.1.sink [] last)
      where
        -- a write failed
        pub prints_part : (visited : Result Visited Error)
            → Visits yields (PrintsLine contents) old visited new → (error : Error)
            → fault_of error ≡ fault_without_offset Io → PrintsRun yields old.0 (Err error) new.0
            (contents old.1.sink.writer.now) (contents last.writer.now)
        prints_part visited visit error own =
            let (left, ran, asked) = asked_once visited visit in
            let lines = lines_of_events ran.events in
            let put = puts_as (append-nil lines) (puts_then ran.put done) in (
              ran.events,
              left,
              ran.through,
              inr (
                inl (own, asked),
                (put.sent, put.rest, put.written, ap (λ l. l ++ lines) (sym none) ∙ put.all),
              ),
            )

        module _ (works : is_open last ≡ true) (empty : pending last ≡ []) where
          -- the source ended
          pub prints_whole : (visited : Visited)
              → Visits yields (PrintsLine contents) old (Ok visited) new → PrintsRun yields old.0
              (Ok tt) new.0 (contents old.1.sink.writer.now) (contents last.writer.now)
          prints_whole Ended visit =
              let ran = ran_all visit.events visit.handed in (
                ran.events,
                visit.left.0,
                ran.through,
                (
                  visit.ended.0,
                  whole ran none
                      (subst (λ p. Puts contents p.sink [] last) visit.ended.1 done) works empty,
                ),
              )
          prints_whole Stopped visit = absurd (true≢false (sym (done.was_open works)
              ∙ visit.ended.1.taken.stopped refl))

          -- the source yielded an error
          pub prints_before : (error : Error)
              → Visits yields (PrintsLine contents) old (Err error) new → PrintsRun yields old.0
              (Err error) new.0 (contents old.1.sink.writer.now) (contents last.writer.now)
          prints_before error visit =
              let ran = ran_all visit.events visit.handed in (
                ran.events,
                visit.left.0,
                ran.through,
                inl (
                  visit.ended.0,
                  whole ran none
                      (subst (λ p. Puts contents p.sink [] last) visit.ended.1 done) works empty,
                ),
              )

-- a flush leaves what was written unchanged
appends_kept : (old now after : Option (List ℕ)) (bytes : List ℕ) → Appends old now bytes
    → Keeps now after → Appends old after bytes
appends_kept None now after bytes appended kept = tt
appends_kept (Some xs) None after bytes appended kept = absurd appended
appends_kept (Some xs) (Some ys) None bytes appended kept = absurd kept
appends_kept (Some xs) (Some ys) (Some zs) bytes appended kept = kept ∙ appended

-- a flush after an error leaves what was written unchanged
pub run_kept : {I : Type 0} (yields : I → PlainItem → I → Type 0) (old new : I)
    (before now after : Option (List ℕ)) (error : Error)
    → PrintsRun yields old (Err error) new before now → Keeps now after
    → PrintsRun yields old (Err error) new before after
run_kept yields old new before now after error (events, left, through, inl (step, sent)) kept =
    (events, left, through, inl (step, appends_kept before now after _ sent kept))
run_kept yields old new before now after error
    (events, left, through, inr (stops, (sent, rest, part, is))) kept =
    (events, left, through, inr (stops, (sent, rest, appends_kept before now after _ part kept, is)))
