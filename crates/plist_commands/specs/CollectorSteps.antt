-- What a collector does when it takes an event.
use Rattle.std.specs.Prelude.{◌≡◌, ℕ, ◌-◌, ◌<◌, Bool, true, false, List, [], Some, slice_get, Result, Ok, Err}
use Rattle.std.specs.declared.ops.ControlFlow.TheVariants.{Continue, Break}
use Rattle.plist_base.specs.Bracketing.{without_length}
use Rattle.plist_base.specs.declared.error.Error.{Error}
use Rattle.plist_base.specs.declared.visitor.Visited.{Visited}
use Rattle.plist_base.specs.declared.visitor.Visited.TheVariants.{Ended, Stopped}
use Rattle.plist_base.specs.Events.{PlainEvent}
use Rattle.plist_base.specs.Faults.{OutOfMemory, fault_without_offset, fault_of}
use Rattle.plist_base.specs.Visits.{Flow}
use Rattle.plist_buffer.specs.EventBuffers.{Accepts, CanTake, TestsWhole, buffered_events, is_whole}
use Rattle.plist_commands.specs.declared.collector.Collector.{Collector}
use Rattle.plist_commands.specs.declared.collector.StopReason.{StopReason}
use Rattle.plist_commands.specs.declared.collector.StopReason.TheVariants.{Failed, Misplaced, Paused}

-- the event is buffered, without its length, and the token is one more than its index
abbrev pub IsBufferedAt : List PlainEvent → (token : ℕ) → PlainEvent → Type 0
IsBufferedAt events token event =
    (0 < token) × (slice_get events (token - 1) ≡ Some (without_length event))

-- the events that a collector has buffered
abbrev pub collected : Collector → List PlainEvent
collected collector = buffered_events collector.pending

-- whether these events are those of a whole property list
abbrev pub is_complete : Collector → Bool
is_complete collector = is_whole collector.pending

-- no event is buffered
abbrev pub IsEmpty : Collector → Type 0
IsEmpty collector = (collected collector ≡ []) × (is_complete collector ≡ false)

-- a fact for each reason for which a collector wants no more events
abbrev pub MatchStop : StopReason → (paused misplaced : Type 0) → (failed : Error → Type 0) → Type 0
MatchStop Paused paused misplaced failed = paused
MatchStop Misplaced paused misplaced failed = misplaced
MatchStop (Failed error) paused misplaced failed = failed error

-- What taking an event does: it is buffered, and the collector may pause. Or it can't follow those
-- that were buffered. Or an allocation failed.
abbrev pub CollectsEvent : (old : Collector) → PlainEvent → Flow → (new : Collector) → Type 0
CollectsEvent old event (Continue more) new =
    (new.pauses ≡ old.pauses) × Accepts old.pending event new.pending
CollectsEvent old event (Break stop) new = MatchStop new.stop
    ((old.pauses ≡ true) × Accepts old.pending event new.pending)
    (TestsWhole (is_complete old) (collected old) → CanTake old.pending event → ⊥)
    (λ error. fault_of error ≡ fault_without_offset OutOfMemory)

-- `answer` says whether the collector paused in a visit with this result
abbrev pub HasPaused : Bool → Collector → Result Visited Error → Type 0
HasPaused answer collector (Ok Stopped) =
    MatchStop collector.stop (answer ≡ true) (answer ≡ false) (λ error. answer ≡ false)
HasPaused answer collector visited = answer ≡ false

-- `answer` is the result of collecting, after a visit with this result
abbrev pub AnswersVisit : Result Visited Error → Collector → Result Bool Error → Type 0
AnswersVisit (Ok Ended) collector answer = answer ≡ Ok (is_complete collector)
AnswersVisit (Ok Stopped) collector answer =
    MatchStop collector.stop (answer ≡ Ok false) (answer ≡ Ok false) (λ error. answer ≡ Err error)
AnswersVisit (Err error) collector answer = answer ≡ Err error
