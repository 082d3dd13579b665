-- The events of a value that were copied to a writer.
use Rattle.std.proofs.Common.{◌≡◌, inl, inr, List, [], ◌∷◌, Some, None, Result, Ok, Err, refl, sym, ap, subst}
use Rattle.std.proofs.lemmas.Option.{none-some}
use Rattle.plist_base.specs.declared.error.Error.{Error}
use Rattle.plist_base.specs.Copying.{Copies, CopiesAll, EndsCopy}
use Rattle.plist_base.specs.Events.{PlainEvent}
use Rattle.plist_base.specs.Visits.{YieldsPlain}
use Rattle.plist_base.specs.Writing.{Answer, answer_of}
use Rattle.plist.specs.declared.stream.events.Events.{Events}
use Rattle.plist.specs.WrittenEvents.{WritesEvents}
use Rattle.plist.specs.Events.{remaining_events, GivesEvent}
use Rattle.plist.proofs.GivenEvents.{event_comes, memory_comes, none_comes}

-- the event that is yielded is the first one that remained
yielded : (old new : Events) (event : PlainEvent)
    → YieldsPlain GivesEvent old (Some (Ok event)) new
    → remaining_events old ≡ event ∷ remaining_events new
yielded old new event (None, gives, is) = absurd (none-some _ (sym is))
yielded old new event (Some (Err error), gives, is) = absurd (cc is)
yielded old new event (Some (Ok given), gives, is) =
    let same = event_comes gives in cc (is, same)

module _ {S : Type 0} (Step : S → PlainEvent → Answer → S → Type 0) where
  -- one event is written, and then others
  writes_first : (before between after : S) (event : PlainEvent) (events : List PlainEvent)
      (answer : Answer) → Step before event (Ok tt) between
      → WritesEvents Step between events answer after
      → WritesEvents Step before (event ∷ events) answer after
  writes_first before between after event events (Ok done) step others = (between, step, others)
  writes_first before between after event events (Err fault) step (taken, left, is, (last, took, why)) =
      (event ∷ taken, left, ap (λ es. event ∷ es) is, (last, (between, step, took), why))

  -- the copy ends after the events that were written
  writes_last : (events left : Events) (before after : S) (answer : Result (Unit {0}) Error)
      → EndsCopy (YieldsPlain GivesEvent) Step (events, before) answer (left, after)
      → WritesEvents Step before (remaining_events events) (answer_of answer) after
  writes_last events left before after (Ok done) ((None, gives, is), same) =
      rw (none_comes gives) (sym same)
  writes_last events left before after (Ok done) ((Some (Ok event), gives, is), same) =
      absurd (none-some _ is)
  writes_last events left before after (Ok done) ((Some (Err error), gives, is), same) =
      absurd (none-some _ is)
  writes_last events left before after (Err error) (inl ((None, gives, is), same)) =
      absurd (none-some _ (sym is))
  writes_last events left before after (Err error) (inl ((Some (Ok event), gives, is), same)) =
      absurd (cc is)
  writes_last events left before after (Err error) (inl ((Some (Err given), gives, is), same)) =
      let stops = memory_comes gives in
      ([], remaining_events events, refl, (before, refl, inr (cc (is, stops.0), stops.1, same)))
  writes_last events left before after (Err error) (inr (event, one)) = (
    [],
    event ∷ remaining_events left,
    yielded events left event one.given,
    (before, refl, inl one.written),
  )

  writes_all : (events : List PlainEvent) (old left new : Events × S)
      (answer : Result (Unit {0}) Error)
      → CopiesAll (YieldsPlain GivesEvent) Step old events left
      → EndsCopy (YieldsPlain GivesEvent) Step left answer new
      → WritesEvents Step old.1 (remaining_events old.0) (answer_of answer) new.1
  writes_all [] old left new answer is ends = writes_last old.0 new.0 old.1 new.1 answer
      (subst (λ (p : Events × S). EndsCopy (YieldsPlain GivesEvent) Step p answer new) is ends)
  writes_all (event ∷ events) old left new answer (next, one, others) ends =
      rw (yielded old.0 next.0 event one.given) (writes_first old.1 next.1 new.1 event
      (remaining_events next.0) (answer_of answer) one.written
      (writes_all events next left new answer others ends))

  -- a copy writes the events that remain of a value
  pub copy_writes : (old new : Events × S) (answer : Result (Unit {0}) Error)
      → Copies (YieldsPlain GivesEvent) Step old answer new
      → WritesEvents Step old.1 (remaining_events old.0) (answer_of answer) new.1
  copy_writes old new answer copy =
      writes_all copy.events old copy.left new answer copy.copied copy.ended
