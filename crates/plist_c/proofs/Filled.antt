-- What is read when a visit has ended.
use Rattle.std.proofs.Common.{◌≡◌, ◌⊎◌, inl, inr, ℕ, ◌+◌, List, [], ◌∷◌, ◌++◌, Option, None, Some, Result, Ok, Err, map, refl, sym, ap, ◌∙◌, subst}
use Rattle.std.specs.Prelude.{⊤}
use Rattle.std.specs.declared.ops.ControlFlow.TheVariants.{Continue}
use Rattle.plist_base.specs.declared.error.Error.{Error}
use Rattle.plist_base.specs.declared.error.EventKind.{EventKind}
use Rattle.plist_base.specs.declared.limits.Limit.{Limit}
use Rattle.plist_base.specs.declared.visitor.Visited.{Visited}
use Rattle.plist_base.specs.declared.visitor.Visited.TheVariants.{Ended, Stopped}
use Rattle.plist_base.specs.Events.{PlainEvent, Item, shape_of}
use Rattle.plist_base.specs.Faults.{Fault, MatchFault, ExpectedEndOfEventStream, LimitReached, OutOfMemory, UnexpectedEndOfEventStream, UnexpectedEventType, fault_of, fault_without_offset}
use Rattle.plist_base.specs.Limits.{event_or_limit, level_after, limit_at, limited_from, limited_items}
use Rattle.plist_base.specs.Visits.{HandsOver, HandsOverAll, PlainItem, Visits, YieldsAll}
use Rattle.plist_base.proofs.Refusals.{MatchFault-weaker}
use Rattle.plist_base.proofs.Visits.{given_more, kept_all}
use Rattle.plist_buffer.specs.declared.expects.Expect.{Expect}
use Rattle.plist.specs.Building.{refusal_at}
use Rattle.plist_c.specs.declared.filler.Filler.{Filler}
use Rattle.plist_c.specs.declared.flat.Outcome.{Outcome}
use Rattle.plist_c.specs.declared.flat.ReadLimits.{ReadLimits}
use Rattle.plist_c.specs.declared.read.Start.{Start}
use Rattle.plist_c.specs.declared.stop.Halt.{Halt}
use Rattle.plist_c.specs.declared.stop.Halt.TheVariants as stop
use Rattle.plist_c.specs.Outcomes.{Names, plain_outcome}
use Rattle.plist_c.specs.Reading.{EndsAtFault, EndsFull, EndsWhole, StoresEvents, Reads, limits_of}
use Rattle.plist_c.specs.Rooms.{Memory}
use Rattle.plist_c.specs.inner.Filling.{FillsEvent, IsSameFiller, IsStopOf, StoresNone, limit_of, memory_of}
use Rattle.plist_c.specs.inner.Ordering.{CanComeNext, IsStopOfOrder, OrdersEvent, asked_in}
use Rattle.plist_c.specs.inner.Runs.{BeginWith, Fills, IsNewOrder, SaysWhy, demand_of, fault_of_end}
use Rattle.plist_c.specs.inner.Stops.{IsOrderStop, outcome_of_fault, outcome_of_stop}
use Rattle.plist_c.proofs.Held.{HeldBy, held_as, held_more, held_none, held_still}
use Rattle.plist_c.proofs.Limited.{IsLimitedAfter, limited_first, limited_more}
use Rattle.plist_c.proofs.Ordered.{IsExpected, comes_next, expected_first, expected_more, no_whole_events, refused_at_end, refused_at_top, whole_events}

-- the stack of what is expected, if the order of events is asked for
abbrev Asked : Type 0
Asked = Option (List Expect)

-- what is expected after the events, if their order was asked for
abbrev OrderedBy : Asked → List PlainEvent → Asked → Type 0
OrderedBy None done now = now ≡ None
OrderedBy (Some first) done None = ⊥
OrderedBy (Some first) done (Some now) = IsExpected done now

ordered_first : (asked : Asked) → IsNewOrder asked → OrderedBy asked [] asked
ordered_first None is = refl
ordered_first (Some stack) is = expected_first stack is

ordered_more : (first now new : Asked) (done : List PlainEvent) (event : PlainEvent)
    → OrderedBy first done now → OrdersEvent now event new
    → OrderedBy first (done ++ event ∷ []) new
ordered_more None None new done event here one = one
ordered_more None (Some now) new done event here one = absurd (cc)
ordered_more (Some first) None new done event here one = absurd here
ordered_more (Some first) (Some now) None done event here one = absurd one
ordered_more (Some first) (Some now) (Some new) done event here one =
    expected_more done event now new here one

same_filler : {a b c : Filler} → IsSameFiller a b → IsSameFiller b c → IsSameFiller a c
same_filler ab bc = record {
  events = bc.events ∙ ab.events;
  bytes = bc.bytes ∙ ab.bytes;
  limits = bc.limits ∙ ab.limits;
}

-- the fault that an outcome without an offset names
names : (fault : Fault) (events bytes : ℕ) (outcome : Outcome) → fault.offset ≡ None
    → outcome ≡ outcome_of_fault fault events bytes → Names fault outcome
names fault events bytes outcome none is = rw is (record {
  number = refl;
  detail = refl;
  expected = refl;
  offset = rw none (refl, refl);
})

-- ---- how the events end

-- the events were stored, and the limits decide on what follows them
record IsAt (start : Start) (done : List PlainEvent) (filler : Filler) : Type 0 where
  held : HeldBy done filler
  limited : IsLimitedAfter (limits_of start.limits) done filler.count filler.level
  ordered : OrderedBy (asked_in start.order) done (asked_in filler.order.now)
  limits : filler.limits ≡ start.limits

module _ (start : Start) (done : List PlainEvent) (filler : Filler) (here : IsAt start done filler)
    (outcome : Outcome) where
  -- the items that remain under limits
  abbrev remaining : List Item → List Item
  remaining items = limited_from (limits_of start.limits) filler.count filler.level items

  abbrev IsReadAs : (items : List Item) → Memory → Type 0
  IsReadAs items memory = Reads (demand_of (asked_in start.order)) start.limits
      (limited_items (limits_of start.limits) (map Ok done ++ items)) outcome memory

  -- the events begin a tree, if their order is asked for
  begins_as : (first now : Asked) → OrderedBy first done now → (demand_of first).CanBegin done
  begins_as None now ordered = tt
  begins_as (Some first) None ordered = absurd ordered
  begins_as (Some first) (Some now) ordered = ordered.begins

  -- the parts of what is read
  reads_as : (items more : List Item) (memory : Memory) → remaining items ≡ more
      → StoresEvents done outcome memory
      → EndsWhole (demand_of (asked_in start.order)) done more outcome
      ⊎ (EndsFull (demand_of (asked_in start.order)) done more start.limits outcome memory
      ⊎ EndsAtFault (demand_of (asked_in start.order)) done more outcome)
      → IsReadAs items memory
  reads_as items more memory is held ended = record {
    events = done;
    more = more;
    parts = here.limited items ∙ ap (λ l. map Ok done ++ l) is;
    begins = begins_as (asked_in start.order) (asked_in filler.order.now) here.ordered;
    held = held;
    ended = ended;
  }

  -- a fault among the items ends the events
  ends_with : (order : Asked) → OrderedBy (asked_in start.order) done order → (fault : Fault)
      (rest : List Item) → (demand_of (asked_in start.order)).EndsWith done (Err fault ∷ rest) fault
  ends_with order = by (asked_in start.order) order
    where
      by : (first now : Asked) → OrderedBy first done now → (fault : Fault)
          (rest : List Item) → (demand_of first).EndsWith done (Err fault ∷ rest) fault
      by None now ordered fault rest = (rest, refl)
      by (Some first) None ordered fault rest = absurd ordered
      by (Some first) (Some now) ordered fault rest =
          (ordered.unfinished, ordered.nested, ordered.alike, refl)

  -- ---- the source ended

  reads_end : (items : List Item) → items ≡ []
      → outcome ≡ plain_outcome filler.count filler.used (fault_of_end (asked_in filler.order.now))
      → IsReadAs items (memory_of filler)
  reads_end items none is =
      reads_as items [] (memory_of filler)
      (ap (limited_from (limits_of start.limits) filler.count filler.level) none)
      (held_as done filler outcome (ap (λ o. o.events) is) (ap (λ o. o.bytes) is) here.held)
      (by (asked_in start.order) (asked_in filler.order.now) here.ordered is)
    where
      by : (first now : Asked) → OrderedBy first done now
          → outcome ≡ plain_outcome filler.count filler.used (fault_of_end now)
          → EndsWhole (demand_of first) done [] outcome
          ⊎ (EndsFull (demand_of first) done [] start.limits outcome (memory_of filler)
          ⊎ EndsAtFault (demand_of first) done [] outcome)
      by None None ordered is = inl (rw is refl, refl, tt)
      by None (Some now) ordered is = absurd (cc)
      by (Some first) None ordered is = absurd ordered
      by (Some first) (Some now) ordered is = of_stack now refl
        where
          of_stack : (stack : List Expect) → now ≡ stack
              → EndsWhole (demand_of (Some first)) done [] outcome
              ⊎ (EndsFull (demand_of (Some first)) done [] start.limits outcome (memory_of filler)
              ⊎ EndsAtFault (demand_of (Some first)) done [] outcome)
          of_stack [] over = inl (
            rw (is, over) refl,
            refl,
            whole_events done now ordered over,
          )
          of_stack (top ∷ rest) over = inr (inr (
            fault_without_offset UnexpectedEndOfEventStream,
            names (fault_without_offset UnexpectedEndOfEventStream) filler.count filler.used outcome
                refl (is ∙ rw over refl),
            (
              ordered.unfinished,
              ordered.nested,
              ordered.alike,
              (refl, no_whole_events done top rest (subst (IsExpected done) over ordered)),
            ),
          ))

  -- ---- the source yielded an error

  reads_error : (error : Error) (items : List Item) → BeginWith (Some (Err error)) items
      → Names (fault_of error) outcome → outcome.events ≡ filler.count
      → outcome.bytes ≡ filler.used → IsReadAs items (memory_of filler)
  reads_error error items begin named count used =
      reads_as items (remaining items) (memory_of filler) refl
      (held_as done filler outcome count used here.held)
      (inr (inr (
        fault_of error,
        named,
        MatchFault-weaker (fault_of error).kind (λ io. io) (λ memory. memory)
            (λ (rest, is). subst (λ l. (demand_of (asked_in start.order)).EndsWith done l (fault_of error))
            (sym (ap remaining is)) (ends_with (asked_in filler.order.now) here.ordered (fault_of error) []))
            begin,
      )))

  -- ---- the visitor stopped

  module _ (new : Filler) (none : StoresNone filler new) (event : PlainEvent) (rest : List Item)
      (items : List Item) (begin : items ≡ Ok event ∷ rest) where
    -- what the new filler has stored
    held_new : outcome.events ≡ new.count → outcome.bytes ≡ new.used
        → StoresEvents done outcome (memory_of new)
    held_new count used = held_as done new outcome count used (held_still done filler new none here.held)

    -- the limit that the event exceeds, if any, under the limits from the start
    remaining_are : (limit : Option Limit) → limit_of filler event ≡ limit
        → remaining items ≡ event_or_limit limit event
        (limited_from (limits_of start.limits) (filler.count + 1)
        (level_after (shape_of event) filler.level) rest)
    remaining_are limit is =
        ap remaining begin
        ∙ limited_first (limits_of start.limits) filler.count filler.level event rest limit
        (sym (ap (λ (l : ReadLimits). limit_at (limits_of l) filler.count filler.level event) here.limits)
        ∙ is)

    -- the items after the event, if it is within the limits
    abbrev others : List Item
    others = limited_from (limits_of start.limits) (filler.count + 1)
        (level_after (shape_of event) filler.level) rest

    -- the outcome names the fault with which the events end
    at_fault : (more : List Item) → remaining items ≡ more → (fault : Fault) → fault.offset ≡ None
        → outcome ≡ outcome_of_fault fault new.count new.used
        → MatchFault fault.kind ⊥ ⊤ ((demand_of (asked_in start.order)).EndsWith done more fault)
        → IsReadAs items (memory_of new)
    at_fault more are fault no_offset is ends =
        reads_as items more (memory_of new) are
        (held_new (ap (λ o. o.events) is) (ap (λ o. o.bytes) is))
        (inr (inr (fault, names fault new.count new.used outcome no_offset is, ends)))

    -- the event is refused for its place
    refused : (order : Asked) → asked_in filler.order.now ≡ order → (reason : Halt)
        → IsStopOfOrder order event reason → (fault : Fault)
        → ((now : List Expect) → IsOrderStop now event reason
        → (here : IsExpected done now)
        → refusal_at here.unfinished event ≡ Some fault.kind)
        → fault.offset ≡ None
        → (demand_of (asked_in start.order)).EndsWith done (Ok event ∷ others) fault
    refused order is reason stops fault why no_offset =
        by (asked_in start.order) order (subst (OrderedBy (asked_in start.order) done) is here.ordered) stops
      where
        by : (first now : Asked) → OrderedBy first done now
            → IsStopOfOrder now event reason
            → (demand_of first).EndsWith done (Ok event ∷ others) fault
        by first None ordered stops = absurd stops
        by None (Some now) ordered stops = absurd (cc)
        by (Some first) (Some now) ordered stops = (
          ordered.unfinished,
          ordered.nested,
          ordered.alike,
          rw (why now stops ordered) (λ i. record { kind = fault.kind; offset = no_offset i }),
        )

    -- the event can come next, if the order is asked for
    can_follow : (first now : Asked) → OrderedBy first done now → CanComeNext now event
        → (demand_of first).CanFollow done event
    can_follow None now ordered can = tt
    can_follow (Some first) None ordered can = absurd ordered
    can_follow (Some first) (Some now) ordered (after, can) =
        comes_next done event now after ordered can

    why_misplaced : (expected found : EventKind) (stack : List Expect)
        → IsOrderStop stack event (stop.Misplaced expected found)
        → (here : IsExpected done stack)
        → refusal_at here.unfinished event ≡ Some (UnexpectedEventType expected found)
    why_misplaced expected found [] stops here = absurd stops
    why_misplaced expected found (top ∷ rest) (change, of_top, of_event) here =
        rw (of_top, of_event) (refused_at_top done event top rest here change)

    why_surplus : (found : EventKind) (stack : List Expect)
        → IsOrderStop stack event (stop.Surplus found)
        → (here : IsExpected done stack)
        → refusal_at here.unfinished event ≡ Some (ExpectedEndOfEventStream found)
    why_surplus found [] is here = rw is (refused_at_end done event here)
    why_surplus found (top ∷ rest) stops here = absurd stops

    reads_stop : (reason : Halt) → IsStopOf filler event reason
        → outcome ≡ outcome_of_stop reason new.count new.used → IsReadAs items (memory_of new)
    reads_stop (stop.Limit limit) exceeded is =
        let fault = fault_without_offset (LimitReached limit) in
        at_fault (Err fault ∷ []) (remaining_are (Some limit) exceeded) fault refl is
        (ends_with (asked_in filler.order.now) here.ordered fault [])
    reads_stop (stop.Misplaced expected found) (within, stops) is =
        let fault = fault_without_offset (UnexpectedEventType expected found) in
        at_fault (Ok event ∷ others) (remaining_are None within) fault refl is
        (refused (asked_in filler.order.now) refl (stop.Misplaced expected found) stops fault
        (why_misplaced expected found) refl)
    reads_stop (stop.Surplus found) (within, stops) is =
        let fault = fault_without_offset (ExpectedEndOfEventStream found) in
        at_fault (Ok event ∷ others) (remaining_are None within) fault refl is
        (refused (asked_in filler.order.now) refl (stop.Surplus found) stops fault (why_surplus found) refl)
    reads_stop (stop.Full full) (within, can, lacks) is =
        reads_as items (Ok event ∷ others) (memory_of new) (remaining_are None within)
        (held_new (ap (λ o. o.events) is) (ap (λ o. o.bytes) is))
        (inr (inl (
          event,
          others,
          full,
          refl,
          can_follow (asked_in start.order) (asked_in filler.order.now) here.ordered can,
          rw (
            ap (λ o. o.events) is,
            ap (λ o. o.bytes) is,
            none.count,
            none.used,
            none.events,
            none.bytes,
            sym here.limits,
          ) lacks,
          rw is refl,
        )))
    reads_stop stop.OutOfMemory stops is =
        at_fault (remaining items) refl (fault_without_offset OutOfMemory) refl is tt

-- ---- a visit

module _ {I : Type 0} (yields : I → PlainItem → I → Type 0) (start : Start) where
  -- the events that were yielded so far are stored
  record HasFilled (old now : I × Filler) : Type 0 where
    done : List PlainEvent
    given : YieldsAll yields old.0 done now.0
    at : IsAt start done now.1
    same : IsSameFiller old.1 now.1

  filled_more : (old now new : I × Filler) (event : PlainEvent) → HasFilled old now
      → HandsOver yields FillsEvent now event (Continue tt) new → HasFilled old new
  filled_more old now new event here one =
      let taken = one.taken.1 in
      let was = here.at in record {
        done = here.done ++ event ∷ [];
        given = given_more yields old.0 now.0 new.0 here.done event here.given one.given;
        at = record {
          held = held_more here.done event now.1 new.1 was.held taken.utf8 taken.stored;
          limited = limited_more (limits_of start.limits) here.done now.1.count now.1.level
              new.1.count new.1.level event was.limited
              (sym (ap (λ (l : ReadLimits). limit_at (limits_of l) now.1.count now.1.level event)
              was.limits) ∙ taken.limit)
              taken.stored.count taken.level;
          ordered = ordered_more (asked_in start.order) (asked_in now.1.order.now) (asked_in new.1.order.now) here.done event was.ordered
              taken.order;
          limits = one.taken.0.limits ∙ was.limits;
        };
        same = same_filler here.same one.taken.0;
      }

  -- the filler before the first event
  pub record IsFresh (filler : Filler) : Type 0 where
    pub count : filler.count ≡ 0
    pub used : filler.used ≡ 0
    pub level : filler.level ≡ 0
    pub order : filler.order.now ≡ start.order
    pub limits : filler.limits ≡ start.limits

  filled_none : (old : I × Filler) → IsFresh old.1 → IsNewOrder (asked_in start.order) → HasFilled old old
  filled_none old fresh new = record {
    done = [];
    given = refl;
    at = record {
      held = held_none old.1 fresh.count fresh.used;
      limited = λ rest. rw (fresh.count, fresh.level) refl;
      ordered = rw fresh.order (ordered_first (asked_in start.order) new);
      limits = fresh.limits;
    };
    same = record { events = refl; bytes = refl; limits = refl };
  }

  filled_all : (old new : I × Filler) (events : List PlainEvent) → IsFresh old.1
      → IsNewOrder (asked_in start.order) → HandsOverAll yields FillsEvent old events new
      → HasFilled old new
  filled_all old new events fresh first handed =
      kept_all yields FillsEvent (HasFilled old)
      (λ now next event here one. filled_more old now next event here one) old new events
      (filled_none old fresh first) handed

  -- what is read by a visit
  pub filled : (visited : Result Visited Error) (old new : I × Filler) (outcome : Outcome)
      → IsFresh old.1 → IsNewOrder (asked_in start.order) → Visits yields FillsEvent old visited new
      → SaysWhy visited new.1 outcome
      → Fills yields start old.0 outcome (memory_of new.1) × IsSameFiller old.1 new.1
  filled (Ok Ended) old new outcome fresh first visit why =
      let all = filled_all old visit.left visit.events fresh first visit.handed in
      let (ends, is) = visit.ended in (
        record {
          events = all.done;
          left = visit.left.0;
          new = new.0;
          next = None;
          given = all.given;
          came = ends;
          reads = λ items begin. rw is (reads_end start all.done visit.left.1 all.at outcome items
              begin (rw is at why));
        },
        rw is all.same,
      )
  filled (Ok Stopped) old new outcome fresh first visit why =
      let all = filled_all old visit.left visit.events fresh first visit.handed in
      let (event, one) = visit.ended in
      let (reason, stops) = one.taken.1 in (
        record {
          events = all.done;
          left = visit.left.0;
          new = new.0;
          next = Some (Ok event);
          given = all.given;
          came = one.given;
          reads = λ items begin. reads_stop start all.done visit.left.1 all.at outcome new.1
              stops.stored event begin.0 items begin.1 reason stops.why
              (why ∙ ap (λ r. outcome_of_stop r new.1.count new.1.used) stops.stop);
        },
        same_filler all.same one.taken.0,
      )
  filled (Err error) old new outcome fresh first visit why =
      let all = filled_all old visit.left visit.events fresh first visit.handed in
      let (ends, is) = visit.ended in (
        record {
          events = all.done;
          left = visit.left.0;
          new = new.0;
          next = Some (Err error);
          given = all.given;
          came = ends;
          reads = λ items begin. rw is (reads_error start all.done visit.left.1 all.at outcome error
              items begin why.0 (rw is at why.1) (rw is at why.2));
        },
        rw is all.same,
      )

  -- the caller's memory is that of the filler
  pub in_memory : (old : I) (outcome : Outcome) (memory other : Memory)
      → Fills yields start old outcome memory → other.events ≡ memory.events
      → other.bytes ≡ memory.bytes → Fills yields start old outcome other
  in_memory old outcome memory other fills events bytes =
      subst (λ m. Fills yields start old outcome m)
      (λ i. record { events = sym events i; bytes = sym bytes i }) fills
