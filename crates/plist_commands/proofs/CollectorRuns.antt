-- What a collector has buffered after a visit.
use Rattle.std.proofs.Common.{◌≡◌, ℕ, Bool, true, false, List, [], ◌∷◌, ◌++◌, Option, None, Some, Result, Ok, Err, map, ap, subst, inl, inr, refl, sym, ◌∙◌, ◌⊎◌, true≢false}
use Rattle.std.specs.Prelude.{⊤}
use Rattle.std.proofs.lemmas.Option.{IfSome_then}
use Rattle.std.specs.declared.ops.ControlFlow.TheVariants.{Break}
use Rattle.plist_base.specs.Bracketing.{AreAlike, without_length}
use Rattle.plist_base.specs.declared.error.Error.{Error}
use Rattle.plist_base.specs.declared.visitor.Visited.{Visited}
use Rattle.plist_base.specs.declared.visitor.Visited.TheVariants.{Ended, Stopped}
use Rattle.plist_base.specs.Events.{PlainEvent, Item}
use Rattle.plist_base.specs.Faults.{Fault, OutOfMemory, error_kind_of, fault_without_offset, fault_of, kind_of}
use Rattle.plist_base.specs.Sources.{CountsIo}
use Rattle.plist_base.specs.Visits.{PlainItem, Visits, YieldsAll}
use Rattle.plist_base.proofs.Refusals.{MatchFault-at}
use Rattle.plist_base.proofs.Visits.{given_more, kept_all}
use Rattle.plist_base.proofs.Lengths.{alike_last, alike_with, continue_alike}
use Rattle.std.proofs.lemmas.List.{map-append}
use Rattle.plist_buffer.specs.EventBuffers.{Accepts, CanTake, TestsWhole}
use Rattle.plist.specs.ValueOfItems.{IsReadIfKnown}
use Rattle.plist_commands.specs.Converting.{BuffersRun, CollectsItems}
use Rattle.plist_commands.specs.declared.collector.Collector.{Collector}
use Rattle.plist_commands.specs.declared.collector.StopReason.{StopReason}
use Rattle.plist_commands.specs.declared.collector.StopReason.TheVariants.{Failed, Misplaced, Paused}
use Rattle.plist_commands.specs.CollectorSteps.{AnswersVisit, HasPaused, IsEmpty, MatchStop, CollectsEvent, collected, is_complete}
use Rattle.plist_print.specs.Printing.{CountsReads}
use Rattle.plist_base.proofs.VisitedItems.{Comes, came_last}
use Rattle.plist_print.proofs.SourceItems.{memory_own}
use Rattle.plist.specs.Building.{NotBegun}
use Rattle.plist_commands.proofs.BufferedItems.{IsBuilt, built_fault, built_more, goes_on, held_at_end, tells_next, tells_none, whole_at_end}

-- `OutOfMemory` is possible for any items
read_without_memory : (items : Option (List Item)) (error : Error)
    → fault_of error ≡ fault_without_offset OutOfMemory → IsReadIfKnown items (Err (fault_of error))
read_without_memory None error memory = tt
read_without_memory (Some all) error memory =
    MatchFault-at (kind_of (error_kind_of error)) OutOfMemory ⊤ ⊤ _
    (ap (λ (f : Fault). f.kind) memory) tt

module _ {I : Type 0} (gives : I → PlainItem → I → Type 0) (coming : I → Option (List Item))
    (failures : I → ℕ) where
  -- what is true after a visit
  pub record Concludes (old : I) (answer : Result Bool Error) (new : I × Collector) : Type 0 where
    pub collects : CollectsItems (coming old) answer (collected new.1)
    pub ran : BuffersRun gives old answer new.0 (collected new.1)
    pub counted : CountsReads answer (failures old) (failures new.0)

module _ {I : Type 0} (gives : I → PlainItem → I → Type 0) (coming : I → Option (List Item))
    (comes : (old : I) (item : PlainItem) (new : I) → gives old item new
    → Comes (coming old) item (coming new)) (failures : I → ℕ) (is_open : I → Type 0)
    (counts : (old : I) (item : PlainItem) (new : I) → is_open old → gives old item new
    → CountsIo item (failures old) (failures new) × is_open new) where
  -- the events that were yielded so far are buffered
  pub record Held (first : I) (now : I × Collector) : Type 0 where
    pub events : List PlainEvent
    pub through : YieldsAll gives first events now.0
    pub held : collected now.1 ≡ map without_length events
    pub alike : AreAlike (collected now.1) events
    pub built : IsBuilt events
    pub tested : TestsWhole (is_complete now.1) (collected now.1)
    pub counted : failures now.0 ≡ failures first
    pub open_still : is_open now.0

  pub held_first : (old : I × Collector) → is_open old.0 → IsEmpty old.1 → Held old.0 old
  held_first old open_first empty = record {
    events = [];
    through = refl;
    held = empty.0;
    alike = ap (map without_length) empty.0;
    built = record { built = NotBegun; nested = tt; alike = refl };
    tested = tells_none (is_complete old.1) (collected old.1) empty.1 empty.0;
    counted = refl;
    open_still = open_first;
  }

  -- one more event is buffered
  held_next : (first : I) (now new : I × Collector) (event : PlainEvent) → Held first now
      → gives now.0 (Some (Ok event)) new.0 → Accepts now.1.pending event new.1.pending
      → Held first new
  held_next first now new event held given (can, (grown, tests)) =
      let (same, still) = counts now.0 (Some (Ok event)) new.0 held.open_still given in
      record {
        events = held.events ++ event ∷ [];
        through = given_more gives first now.0 new.0 held.events event held.through given;
        held = grown ∙ ap (λ l. l ++ without_length event ∷ []) held.held
            ∙ sym (map-append without_length held.events (event ∷ []));
        alike = ap (map without_length) grown ∙ alike_last (collected now.1) event
            ∙ alike_with (collected now.1) held.events (event ∷ []) held.alike;
        built = built_more held.events event held.built
            ((continue_alike (collected now.1) held.events held.alike event).0 can);
        tested = tells_next (is_complete new.1) (collected now.1) (collected new.1) event grown tests;
        counted = same ∙ held.counted;
        open_still = still;
      }

  -- all events that were handed over are buffered
  held_all : (first : I) (old : I × Collector) (visited : Result Visited Error)
      (new : I × Collector) (visit : Visits gives CollectsEvent old visited new) → Held first old
      → Held first visit.left × (visit.left.1.pauses ≡ old.1.pauses)
  held_all first old visited new visit held =
      kept_all gives CollectsEvent (λ now. Held first now × (now.1.pauses ≡ old.1.pauses))
      (λ now next event (here, pauses) one. (
        held_next first now next event here one.given one.taken.1,
        one.taken.0 ∙ pauses,
      ))
      old visit.left visit.events (held, refl) visit.handed

  -- another collector with the same events can continue
  pub held_same : (first now : I) (old new : Collector) → Held first (now, old)
      → collected new ≡ collected old → is_complete new ≡ is_complete old → Held first (now, new)
  held_same first now old new held events whole = record {
    events = held.events;
    through = held.through;
    held = events ∙ held.held;
    alike = ap (map without_length) events ∙ held.alike;
    built = held.built;
    tested = rw (events, whole) held.tested;
    counted = held.counted;
    open_still = held.open_still;
  }

  -- the events so far are buffered if the collector paused
  pub held_paused : (first : I) (old new : I × Collector) (visited : Result Visited Error)
      → Held first old → Visits gives CollectsEvent old visited new → HasPaused true new.1 visited
      → Held first new
  held_paused first old new (Ok Ended) held visit paused = absurd (true≢false paused)
  held_paused first old new (Err error) held visit paused = absurd (true≢false paused)
  held_paused first old new (Ok Stopped) held visit paused =
      let (here, pauses) = held_all first old (Ok Stopped) new visit held in
      let (event, one) = visit.ended in by new.1.stop event one.given one.taken paused
    where
      by : (stop : StopReason) (event : PlainEvent) → gives visit.left.0 (Some (Ok event)) new.0
          → MatchStop stop
          ((visit.left.1.pauses ≡ true)
          × Accepts visit.left.1.pending event new.1.pending)
          (TestsWhole (is_complete visit.left.1) (collected visit.left.1)
          → CanTake visit.left.1.pending event → ⊥)
          (λ error. fault_of error ≡ fault_without_offset OutOfMemory)
          → MatchStop stop (◌≡◌ {A = Bool} true true) (◌≡◌ {A = Bool} true false)
          (λ error. ◌≡◌ {A = Bool} true false) → Held first new
      by Paused event given taken paused =
          held_next first visit.left new event
          (held_all first old (Ok Stopped) new visit held).0 given taken.1
      by Misplaced event given taken paused = absurd (true≢false paused)
      by (Failed error) event given taken paused = absurd (true≢false paused)

  -- the source has ended
  ends_there : (first : I) (left : I × Collector) (new : I) → Held first left
      → gives left.0 None new
      → Concludes gives coming failures first (Ok (is_complete left.1)) (new, left.1)
  ends_there first left new held last =
      let came = came_last gives coming comes first left.0 new held.events None held.through last in
      record {
        collects = record {
          held = λ e. let whole = (rw e at held.tested).0 in (
            whole,
            IfSome_then (coming first) came (λ all (rest, more, is, none). (
              whole.0,
              held_at_end all rest held.events is none.0 whole.0 (sym held.alike ∙ whole.1),
              whole.1,
            )),
          );
          none = λ e. IfSome_then (coming first) came (λ all (rest, more, is, none) tree of.
              (rw e at held.tested) (
                tree,
                held.alike
                    ∙ whole_at_end all rest held.events is none.0 tree of,
              ));
          refused = tt;
        };
        ran = (held.events, left.0, held.through, (inl last, λ _. (last, held.held)));
        counted = inl ((counts left.0 None new held.open_still last).0 ∙ held.counted);
      }

  -- an event was yielded that can't follow the buffered ones, or an allocation for it failed
  stops_there : (first : I) (left new : I × Collector) (event : PlainEvent) (stop : StopReason)
      (answer : Result Bool Error) → Held first left → gives left.0 (Some (Ok event)) new.0
      → (stop ≡ Paused → ⊥)
      → MatchStop stop
      ((left.1.pauses ≡ true)
      × Accepts left.1.pending event new.1.pending)
      (TestsWhole (is_complete left.1) (collected left.1) → CanTake left.1.pending event → ⊥)
      (λ error. fault_of error ≡ fault_without_offset OutOfMemory)
      → MatchStop stop (answer ≡ Ok false) (answer ≡ Ok false) (λ error. answer ≡ Err error)
      → Concludes gives coming failures first answer new
  stops_there first left new event Paused answer held last not_paused taken is =
      absurd (not_paused refl)
  stops_there first left new event Misplaced answer held last not_paused cannot is =
      rw is (record {
        collects = record {
          held = λ e. absurd (cc);
          none = λ e. IfSome_then (coming first) (came_last gives coming comes first left.0 new.0
              held.events (Some (Ok event)) held.through last) (λ all (rest, more, is, next) tree of.
              cannot held.tested ((continue_alike (collected left.1) held.events held.alike event).1
              (goes_on all rest held.events is more event next tree of)));
          refused = tt;
        };
        ran = (
          held.events,
          left.0,
          held.through,
          (inr (event, last), λ no. absurd (true≢false (sym no))),
        );
        counted = inl ((counts left.0 (Some (Ok event)) new.0 held.open_still last).0 ∙ held.counted);
      })
  stops_there first left new event (Failed error) answer held last not_paused memory is =
      rw is (record {
        collects = record {
          held = tt;
          none = tt;
          refused = read_without_memory (coming first) error memory;
        };
        ran = (
          held.events ++ event ∷ [],
          new.0,
          given_more gives first left.0 new.0 held.events event held.through last,
          inr (memory, refl),
        );
        counted = inr (
          (memory_own error memory).0,
          (counts left.0 (Some (Ok event)) new.0 held.open_still last).0 ∙ held.counted,
        );
      })

  -- the source yielded an error
  fails_there : (first : I) (left new : I × Collector) (error : Error) → Held first left
      → gives left.0 (Some (Err error)) new.0
      → Concludes gives coming failures first (Err error) new
  fails_there first left new error held last = record {
    collects = record {
      held = tt;
      none = tt;
      refused = IfSome_then (coming first) (came_last gives coming comes first left.0 new.0
          held.events (Some (Err error)) held.through last) (λ all (rest, more, is, next).
          built_fault all rest held.events is more error held.built next);
    };
    ran = (held.events, left.0, held.through, inl last);
    counted = inl (subst (λ n. CountsIo {A = Unit {0}} (Some (Err error)) n (failures new.0))
        held.counted (counts left.0 (Some (Err error)) new.0 held.open_still last).0);
  }

  -- the visit wasn't paused
  pub concludes : (first : I) (old new : I × Collector) (visited : Result Visited Error)
      (answer : Result Bool Error) → Held first old → Visits gives CollectsEvent old visited new
      → (old.1.pauses ≡ false) ⊎ HasPaused false new.1 visited → AnswersVisit visited new.1 answer
      → Concludes gives coming failures first answer new
  concludes first old new (Ok Ended) answer held visit no_pause is =
      rw (is, visit.ended.1) (ends_there first visit.left new.0
      (held_all first old (Ok Ended) new visit held).0 visit.ended.0)
  concludes first old new (Err error) answer held visit no_pause is =
      rw is (fails_there first visit.left new error
      (held_all first old (Err error) new visit held).0 visit.ended.0)
  concludes first old new (Ok Stopped) answer held visit no_pause is =
      let (here, pauses) = held_all first old (Ok Stopped) new visit held in
      let (event, one) = visit.ended in
      stops_there first visit.left new event new.1.stop answer here one.given
      (never no_pause event one.taken) one.taken is
    where
      never : (old.1.pauses ≡ false) ⊎ HasPaused false new.1 (Ok Stopped) → (event : PlainEvent)
          → CollectsEvent visit.left.1 event (Break tt) new.1 → new.1.stop ≡ Paused → ⊥
      never (inl none) event taken paused =
          true≢false (sym (rw paused at taken).0
          ∙ (held_all first old (Ok Stopped) new visit held).1 ∙ none)
      never (inr none) event taken paused = true≢false (sym (rw paused at none))

  -- the collector didn't pause after the first event
  pub concludes_once : {old : I} {before : Collector} {new : I × Collector}
      {first : Result Visited Error} {answer : Result Bool Error} → is_open old → IsEmpty before
      → Visits gives CollectsEvent (old, before) first new → HasPaused false new.1 first
      → AnswersVisit first new.1 answer → Concludes gives coming failures old answer new
  concludes_once {old} {before} {new} {first} {answer} open_first empty visit paused =
      concludes old (old, before) new first answer (held_first (old, before) open_first empty) visit
      (inr paused)

  -- the collector paused after the first event, and the visit was continued
  pub concludes_twice : {old : I} {mid new : I × Collector} {before expecting : Collector}
      {first others : Result Visited Error} {answer : Result Bool Error} → is_open old
      → IsEmpty before → Visits gives CollectsEvent (old, before) first mid
      → HasPaused true mid.1 first → collected expecting ≡ collected mid.1
      → is_complete expecting ≡ is_complete mid.1 → expecting.pauses ≡ false
      → Visits gives CollectsEvent (mid.0, expecting) others new → AnswersVisit others new.1 answer
      → Concludes gives coming failures old answer new
  concludes_twice {old} {mid} {new} {before} {expecting} {first} {others} {answer} open_first empty
      visit paused events whole pauses rest =
      concludes old (mid.0, expecting) new others answer
      (held_same old mid.0 mid.1 expecting (held_paused old (old, before) mid first
      (held_first (old, before) open_first empty) visit paused) events whole) rest (inl pauses)
