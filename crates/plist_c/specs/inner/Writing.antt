-- What the steps of writing do.
use Rattle.std.specs.Prelude.{◌≡◌, ◌⊎◌, ℕ, ◌^◌, ◌<◌, ◌≤◌, ◌++◌, false, true, List, drop, length, map, ⊤}
use Rattle.plist_base.specs.Bracketing.{without_length}
use Rattle.plist_base.specs.Events.{PlainEvent, kind_of_event}
use Rattle.plist_base.specs.Faults.{ExpectedEndOfEventStream, UnexpectedEventType, fault_without_offset}
use Rattle.plist_binwrite.specs.SendingAs.{FileKind, IsOfTree}
use Rattle.plist_buffer.specs.EventBuffers.{Accepts, IsMisplaced, buffered_events, is_whole}
use Rattle.plist_buffer.specs.declared.event_buffer.EventBuffer.{EventBuffer}
use Rattle.plist_c.specs.declared.flat.FlatEvent.{FlatEvent}
use Rattle.plist_c.specs.declared.flat.Outcome.{Outcome}
use Rattle.plist_c.specs.declared.write.Rejection.{Rejection}
use Rattle.plist_c.specs.declared.write.Rejection.TheVariants as rejection
use Rattle.plist_c.specs.Files.{AreRecordsOf}
use Rattle.plist_c.specs.Outcomes.{plain_outcome}
use Rattle.plist_c.specs.Reading.{CanBeginTree}
use Rattle.plist_c.specs.Records.{HasFlaw, IsRecordOf, flaw_number}
use Rattle.plist_c.specs.inner.Stops.{outcome_of_fault}

-- the outcome of a call that rejects the record at an index
abbrev pub outcome_of_rejection : Rejection → (index : ℕ) → Outcome
outcome_of_rejection (rejection.Flawed flaw) index = plain_outcome index 0 (flaw_number flaw)
outcome_of_rejection (rejection.Misplaced expected found) index =
    outcome_of_fault (fault_without_offset (UnexpectedEventType expected found)) index 0
outcome_of_rejection (rejection.Surplus found) index =
    outcome_of_fault (fault_without_offset (ExpectedEndOfEventStream found)) index 0
outcome_of_rejection rejection.OutOfMemory index = plain_outcome index 0 25

-- the record is that of an event, which was buffered
abbrev pub PushesRecord : (bytes : List ℕ) → FlatEvent → (before after : EventBuffer) → Type 0
PushesRecord bytes flat before after =
    (event : PlainEvent) × IsRecordOf bytes flat event × (is_whole before ≡ false)
    × Accepts before event after

-- the record isn't taken for this reason
abbrev pub IsRejection : (bytes : List ℕ) → FlatEvent → EventBuffer → Rejection → Type 0
IsRejection bytes flat before (rejection.Flawed flaw) = HasFlaw bytes flat flaw
IsRejection bytes flat before (rejection.Misplaced expected found) =
    (event : PlainEvent) × IsRecordOf bytes flat event × (is_whole before ≡ false)
    × IsMisplaced (buffered_events before) event
    (fault_without_offset (UnexpectedEventType expected found))
IsRejection bytes flat before (rejection.Surplus found) =
    (event : PlainEvent) × IsRecordOf bytes flat event × (is_whole before ≡ true)
    × (found ≡ kind_of_event event)
IsRejection bytes flat before rejection.OutOfMemory = ⊤

-- the events of these records are buffered
pub record HasPushed (bytes : List ℕ) (records : List FlatEvent) (pending : EventBuffer) : Type 0
  where
    pub events : List PlainEvent
    pub are : AreRecordsOf bytes records events
    pub begins : CanBeginTree events
    pub held : buffered_events pending ≡ map without_length events

-- the file is copied if there is room for it, and otherwise nothing is
abbrev pub Stores : (made : List ℕ) (count : ℕ) (old : List ℕ) → Outcome → (new : List ℕ) → Type 0
Stores made count old outcome new =
    ((length made ≤ length old) × (new ≡ made ++ drop (length made) old)
    × (outcome ≡ plain_outcome count (length made) 0))
    ⊎ ((length old < length made) × (new ≡ old)
    × (outcome ≡ record (plain_outcome count (length made) 31) { detail = 1 }))

-- what writing the file of these events into the caller's memory does
abbrev pub WritesBuffered : FileKind → List PlainEvent → (count : ℕ) → (memory : List ℕ × List ℕ)
    → Outcome → Type 0
WritesBuffered files events count memory outcome =
    ((made : List ℕ) × IsOfTree events (λ tree. files.IsFile tree made)
    × Stores made count memory.0 outcome memory.1)
    ⊎ ((memory.1 ≡ memory.0)
    × ((IsOfTree events (λ tree. 2 ^ 64 ≤ files.size tree) × (outcome ≡ plain_outcome count 0 27))
    ⊎ (outcome ≡ plain_outcome count 0 25)))
