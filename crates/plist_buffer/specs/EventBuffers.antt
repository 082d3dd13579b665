-- The buffered events of the open property list, as contracts describe them.
use Rattle.std.specs.Prelude.{◌≡◌, Bool, List, [], ◌∷◌, ◌++◌, Option, None, Some, Result, IfErr, OnOk, MatchBool}
use Rattle.std.specs.Option.{is_none}
use Rattle.plist_base.specs.declared.error.EventKind.{EventKind}
use Rattle.plist_base.specs.declared.error.EventKind.TheVariants as event_kind
use Rattle.plist_base.specs.Bracketing.{without_length, AreTreeEvents, AreComplete, CanContinue}
use Rattle.plist_base.specs.Events.{PlainEvent, kind_of_event}
use Rattle.plist_base.specs.Faults.{Fault, UnexpectedEventType, fault_without_offset}
use Rattle.plist_buffer.specs.declared.event_buffer.EventBuffer.{EventBuffer}
use Rattle.plist_buffer.specs.declared.event_buffer.PushError.{PushError}
use Rattle.plist_buffer.specs.declared.event_buffer.PushError.TheVariants as push_error
use Rattle.plist_buffer.specs.EventTable.{plain_events}
use Rattle.plist_buffer.specs.StoredScalars.{events_of_small}

-- the buffered events, without the lengths of starts: those of the table, and the scalars that wait
-- to be appended to it
abbrev pub buffered_events : EventBuffer → List PlainEvent
buffered_events pending = plain_events pending.held ++ events_of_small pending.waiting

-- are the buffered events those of a whole property list?
abbrev pub is_whole : EventBuffer → Bool
is_whole pending = is_none pending.expects

-- the kind that the error of a rejected event names as expected: a value or a start if no event is
-- buffered, and otherwise a key or an end
abbrev pub expected_instead : List PlainEvent → EventKind
expected_instead [] = event_kind.ValueOrStartCollection
expected_instead (event ∷ events) = event_kind.DictionaryKeyOrEndCollection

-- the fault of an event that can't follow the buffered ones
abbrev pub misplaced_fault : List PlainEvent → PlainEvent → Fault
misplaced_fault held event =
    fault_without_offset (UnexpectedEventType (expected_instead held) (kind_of_event event))

-- `answer` says whether the events are those of a tree
abbrev pub TestsWhole : Bool → List PlainEvent → Type 0
TestsWhole answer events = MatchBool answer (AreComplete events) (AreTreeEvents events → ⊥)

-- the buffered events and what is expected next are unchanged
pub record BuffersSame (before after : EventBuffer) : Type 0 where
  pub events : buffered_events after ≡ buffered_events before
  pub expects : after.expects ≡ before.expects

-- the event can't follow the buffered ones, and this is its fault
abbrev pub IsMisplaced : (held : List PlainEvent) → PlainEvent → Fault → Type 0
IsMisplaced held event fault = (CanContinue held event → ⊥) × (fault ≡ misplaced_fault held event)

-- the event can follow the buffered ones
abbrev pub CanTake : EventBuffer → PlainEvent → Type 0
CanTake pending event = CanContinue (buffered_events pending) event

-- the event can follow the buffered ones, and was appended without its length, and `is_whole` says
-- whether the events are a tree's
abbrev pub Accepts : (before : EventBuffer) → PlainEvent → (after : EventBuffer) → Type 0
Accepts before event after = CanTake before event
    × ((buffered_events after ≡ buffered_events before ++ without_length event ∷ [])
    × TestsWhole (is_whole after) (buffered_events before ++ event ∷ []))

-- why an event wasn't buffered: a misplaced one can't follow the buffered ones, and nothing has
-- changed; `OutOfMemory` is returned only for an event that can follow them, and the buffered events
-- haven't changed
abbrev pub RejectsEvent : (before : EventBuffer) → PlainEvent → (after : EventBuffer) → PushError
    → Type 0
RejectsEvent before event after (push_error.Misplaced expected found) =
    IsMisplaced (buffered_events before) event
    (fault_without_offset (UnexpectedEventType expected found)) × (after ≡ before)
RejectsEvent before event after push_error.OutOfMemory =
    CanTake before event × (buffered_events after ≡ buffered_events before)
    × (is_whole after ≡ is_whole before)

-- what a call does that buffers an event, given its result
pub record Buffers (before : EventBuffer) (event : PlainEvent) (answer : Result (Unit {0}) PushError)
    (after : EventBuffer) : Type 0 where
  pub taken : OnOk answer (Accepts before event after)
  pub refused : IfErr answer (RejectsEvent before event after)

-- what a call does that buffers an event, or returns `None` and changes nothing
abbrev pub MayBuffer : (before : EventBuffer) → PlainEvent → Option (Result (Unit {0}) PushError)
    → (after : EventBuffer) → Type 0
MayBuffer before event None after = after ≡ before
MayBuffer before event (Some answer) after = Buffers before event answer after
