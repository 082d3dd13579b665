-- Why an event isn't taken.
use Rattle.std.specs.Prelude.{◌≡◌, ℕ, List, [], ◌∷◌, ⊤}
use Rattle.plist_base.specs.Events.{PlainEvent, kind_of_event}
use Rattle.plist_base.specs.Faults.{Fault, ExpectedEndOfEventStream, LimitReached, OutOfMemory, UnexpectedEventType, fault_without_offset}
use Rattle.plist_buffer.specs.declared.expects.Expect.{Expect}
use Rattle.plist_buffer.specs.declared.expects.Transition.TheVariants.{Refused}
use Rattle.plist_buffer.specs.Expects.{transition_of}
use Rattle.plist.specs.Building.{kind_expected}
use Rattle.plist_c.specs.declared.flat.Outcome.{Outcome}
use Rattle.plist_c.specs.declared.stop.Halt.{Halt}
use Rattle.plist_c.specs.declared.stop.Halt.TheVariants as stop
use Rattle.plist_c.specs.Numbers.{fault_detail, fault_expected, fault_number}
use Rattle.plist_c.specs.Rooms.{full_number}

-- the event can't come next where this stack is expected, and this says why; memory may run out
abbrev pub IsOrderStop : List Expect → PlainEvent → Halt → Type 0
IsOrderStop [] event (stop.Surplus found) = found ≡ kind_of_event event
IsOrderStop (top ∷ rest) event (stop.Misplaced expected found) =
    (transition_of top event ≡ Refused) × (expected ≡ kind_expected top)
    × (found ≡ kind_of_event event)
IsOrderStop stack event stop.OutOfMemory = ⊤
IsOrderStop stack event other = ⊥

-- an outcome without an offset
abbrev pub outcome_with : (events bytes fault detail expected : ℕ) → Outcome
outcome_with events bytes fault detail expected = record {
  events = events;
  bytes = bytes;
  fault = fault;
  detail = detail;
  expected = expected;
  has_offset = 0;
  offset = 0;
}

-- the outcome of a fault without an offset
abbrev pub outcome_of_fault : Fault → (events bytes : ℕ) → Outcome
outcome_of_fault fault events bytes = outcome_with events bytes
    (fault_number fault.kind) (fault_detail fault.kind) (fault_expected fault.kind)

-- the outcome of a call that stopped for this reason
abbrev pub outcome_of_stop : Halt → (events bytes : ℕ) → Outcome
outcome_of_stop (stop.Limit limit) events bytes =
    outcome_of_fault (fault_without_offset (LimitReached limit)) events bytes
outcome_of_stop (stop.Misplaced expected found) events bytes =
    outcome_of_fault (fault_without_offset (UnexpectedEventType expected found)) events bytes
outcome_of_stop (stop.Surplus found) events bytes =
    outcome_of_fault (fault_without_offset (ExpectedEndOfEventStream found)) events bytes
outcome_of_stop (stop.Full full) events bytes = outcome_with events bytes 31 (full_number full) 0
outcome_of_stop stop.OutOfMemory events bytes =
    outcome_of_fault (fault_without_offset OutOfMemory) events bytes
