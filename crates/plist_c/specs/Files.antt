-- What a call writes into the caller's memory.
use Rattle.std.specs.Prelude.{◌≡◌, ◌⊎◌, ℕ, Bool, true, false, ◌^◌, ◌<◌, ◌≤◌, List, [], ◌∷◌, ◌++◌, Some, drop, length, slice_get, take, ⊤}
use Rattle.plist_base.specs.Bracketing.{bracketing, AreAlike, AreTreeEvents, CanContinue}
use Rattle.plist_base.specs.Events.{PlainEvent, kind_of_event}
use Rattle.plist_base.specs.Faults.{Fault, ExpectedEndOfEventStream, fault_without_offset}
use Rattle.plist_base.specs.Trees.{Tree}
use Rattle.plist_binwrite.specs.Files.{least_files}
use Rattle.plist_binwrite.specs.SendingAs.{FileKind}
use Rattle.plist_buffer.specs.EventBuffers.{misplaced_fault}
use Rattle.plist_share.specs.SharedFiles.{shared_files}
use Rattle.plist_c.specs.declared.flat.FlatEvent.{FlatEvent}
use Rattle.plist_c.specs.declared.flat.Outcome.{Outcome}
use Rattle.plist_c.specs.declared.record.Flaw.{Flaw}
use Rattle.plist_c.specs.Outcomes.{Names, plain_outcome}
use Rattle.plist_c.specs.Reading.{CanBeginTree}
use Rattle.plist_c.specs.Records.{HasFlaw, IsRecordOf, flaw_number}
use Rattle.plist_c.specs.Rooms.{Memory}

-- the files that are written, if equal collections share an object and if they don't
abbrev pub files_of : (shares : Bool) → FileKind
files_of true = shared_files
files_of false = least_files

-- the records are those of these events
abbrev pub AreRecordsOf : (bytes : List ℕ) → List FlatEvent → List PlainEvent → Type 0
AreRecordsOf bytes [] [] = ⊤
AreRecordsOf bytes (flat ∷ records) (event ∷ events) =
    IsRecordOf bytes flat event × AreRecordsOf bytes records events
AreRecordsOf bytes records events = ⊥

-- The event can't follow the events, and this is its fault: that of a surplus event after a whole
-- value, and otherwise the one that `BinaryWriter` returns.
abbrev pub IsOutOfOrder : List PlainEvent → PlainEvent → Fault → Type 0
IsOutOfOrder events event fault =
    (AreTreeEvents events
    × (fault ≡ fault_without_offset (ExpectedEndOfEventStream (kind_of_event event))))
    ⊎ ((AreTreeEvents events → ⊥) × (CanContinue events event → ⊥)
    × (fault ≡ misplaced_fault events event))

-- the record has a flaw, or its event can't follow these events, and the outcome says so
abbrev pub RefusesRecord : (bytes : List ℕ) → List PlainEvent → FlatEvent → Outcome → Type 0
RefusesRecord bytes events flat outcome =
    ((flaw : Flaw) × HasFlaw bytes flat flaw
    × (outcome ≡ plain_outcome outcome.events 0 (flaw_number flaw)))
    ⊎ ((event : PlainEvent) × (fault : Fault) × IsRecordOf bytes flat event
    × IsOutOfOrder events event fault × Names fault outcome × (outcome.bytes ≡ 0))

-- the first record that is wrong follows those of a tree's first events; the outcome has its index
abbrev pub EndsAtRecord : Memory → Outcome → Type 0
EndsAtRecord given outcome =
    (events : List PlainEvent) × (flat : FlatEvent)
    × AreRecordsOf given.bytes (take outcome.events given.events) events × CanBeginTree events
    × (slice_get given.events outcome.events ≡ Some flat)
    × RefusesRecord given.bytes events flat outcome

-- the records are those of a tree's events
abbrev pub AreRecordsOfTree : Memory → Tree → Type 0
AreRecordsOfTree given tree =
    (events : List PlainEvent) × AreRecordsOf given.bytes given.events events
    × AreAlike events (bracketing tree)

-- the records are those of the first events of a tree, but not of all, and the outcome says so
abbrev pub EndsEarly : Memory → Outcome → Type 0
EndsEarly given outcome =
    (events : List PlainEvent) × AreRecordsOf given.bytes given.events events × CanBeginTree events
    × (AreTreeEvents events → ⊥) × (outcome ≡ plain_outcome (length given.events) 0 23)

module _ (files : FileKind) where
  -- the caller's memory begins with a file of the tree
  abbrev pub WritesFile : Memory → Outcome → (old new : List ℕ) → Type 0
  WritesFile given outcome old new =
      (tree : Tree) × (file : List ℕ) × AreRecordsOfTree given tree × files.IsFile tree file
      × (new ≡ file ++ drop (length file) old) × (length file ≤ length old)
      × (outcome ≡ plain_outcome (length given.events) (length file) 0)

  -- the file of the tree is longer than the caller's memory, or has 2^64 bytes or more
  abbrev pub LacksRoom : Memory → Outcome → (old : List ℕ) → Type 0
  LacksRoom given outcome old =
      (tree : Tree) × AreRecordsOfTree given tree
      × (((file : List ℕ) × files.IsFile tree file × (length old < length file)
      × (outcome ≡ record (plain_outcome (length given.events) (length file) 31) { detail = 1 }))
      ⊎ ((2 ^ 64 ≤ files.size tree) × (outcome ≡ plain_outcome (length given.events) 0 27)))

  -- A file of the records' tree is written into the caller's memory, or the memory is unchanged and
  -- the outcome says why. Memory may always run out.
  abbrev pub Writes : Memory → Outcome → (old new : List ℕ) → Type 0
  Writes given outcome old new =
      WritesFile given outcome old new
      ⊎ ((new ≡ old) × (LacksRoom given outcome old
      ⊎ (EndsAtRecord given outcome ⊎ (EndsEarly given outcome
      ⊎ (outcome ≡ plain_outcome outcome.events 0 25)))))
