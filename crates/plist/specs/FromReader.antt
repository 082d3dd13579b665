-- How the value of a source or of a file is read, item by item, and why there may be none.
use Rattle.std.specs.Prelude.{◌≡◌, ℕ, ◌⊎◌, Bool, List, Option, None, Some, Result, Err, ⊤}
use Rattle.plist_base.specs.Events.{Item, event_of}
use Rattle.plist_base.specs.Faults.{Fault, FaultKind, ExpectedEndOfEventStream, Io, IsIo, OutOfMemory, UnexpectedEndOfEventStream, UnexpectedEventType, fault_without_offset}
use Rattle.plist_base.specs.Allowances.{iterator_of as inner_of_limited}
use Rattle.plist_base.specs.Budgets.{GivesWithinBudget, items_within_budget, within_bytes}
use Rattle.plist_base.specs.Limits.{GivesLimited, items_admitted, limited_items}
use Rattle.plist_base.specs.Sources.{failures_of}
use Rattle.plist_base.specs.declared.limits.ByteBudget.{ByteBudget}
use Rattle.plist_base.specs.declared.limited_items.LimitedItems.{LimitedItems}
use Rattle.plist_base.specs.declared.limits.LimitCounter.{LimitCounter}
use Rattle.plist_base.specs.declared.limits.Limits.{Limits}
use Rattle.plist_base.specs.declared.seeking.Seeking.{Seeking}
use Rattle.plist_base.specs.Trees.{Tree}
use Rattle.plist_ascii.specs.Ascii.{IsFaultOfBytes}
use Rattle.plist_ascii.specs.AsciiReader as ascii
use Rattle.plist_ascii.specs.AsciiReader.{untaken_bytes, dialect_of, device_of, peeked_byte, place_of, readable}
use Rattle.plist_ascii.specs.declared.reader.AsciiReader.{AsciiReader}
use Rattle.plist_ascii.specs.declared.dialect.Dialect.{Dialect}
use Rattle.plist_decode.specs.FaultOffsets.{HasOffset}
use Rattle.plist_reader.specs.declared.reader.Reader.{Reader}
use Rattle.plist_reader.specs.Reader.{Gives, IsNewReader, IsReaderFault, IsUnread, items_of_input}
use Rattle.plist.specs.Collecting.{Collects, CollectsWithin}
use Rattle.plist.specs.LimitedValues.{FitBudget, FitLimits}

-- the result is built from the items of a new reader of this source, which reads ASCII in this
-- dialect
abbrev pub IsReadInDialect : {R : Type 0} → Dialect → (known : R → Option (List ℕ))
    (failed : R → ℕ) (source : R) → Result Tree Fault → Type 0
IsReadInDialect {R} dialect known failed source answer =
    (reader : Reader R (record { known = known; failures = failed }))
    × IsUnread reader source None dialect × Collects event_of (Gives known failed) reader answer

-- the items of an input under these limits, whose strings and data have at most this many bytes in
-- all
abbrev pub budgeted_input : Limits → (bytes : ℕ) → List ℕ → List Item
budgeted_input limits bytes input =
    within_bytes bytes (limited_items limits (items_of_input input))

-- a reader of either format under limits
abbrev pub LimitedReader : {R : Type 0} (known : R → Option (List ℕ)) (failed : R → ℕ) → Type 0
LimitedReader {R} known failed =
    LimitedItems (Reader R (record { known = known; failures = failed })) LimitCounter

-- the reader is a new one of this source, under these limits
abbrev pub BeginsUnder : {R : Type 0} → Limits → (known : R → Option (List ℕ)) (failed : R → ℕ)
    (source : R) → LimitedReader known failed → Type 0
BeginsUnder limits known failed source limited =
    (items_admitted limited ≡ limited_items limits)
    × IsNewReader (inner_of_limited limited) source

-- the result is built from the items of a new reader of this source, under these limits, and no more
-- events were taken than they allow
abbrev pub IsReadWithin : {R : Type 0} → Limits
    → (known : R → Option (List ℕ)) (failed : R → ℕ) (source : R) → Result Tree Fault → Type 0
IsReadWithin limits known failed source answer =
    (limited : LimitedReader known failed) × BeginsUnder limits known failed source limited
    × CollectsWithin event_of (GivesLimited (Gives known failed)) limited (FitLimits limits) answer

-- the result is built from the items of a new reader of this source, under these limits and within
-- this budget of bytes, and the events that were taken are within both
abbrev pub IsReadWithinBudget : {R : Type 0} → Limits → (bytes : ℕ)
    → (known : R → Option (List ℕ)) (failed : R → ℕ) (source : R) → Result Tree Fault → Type 0
IsReadWithinBudget limits bytes known failed source answer =
    (budgeted : LimitedItems (LimitedReader known failed) ByteBudget)
    × (items_within_budget budgeted ≡ within_bytes bytes)
    × BeginsUnder limits known failed source (inner_of_limited budgeted)
    × CollectsWithin event_of (GivesWithinBudget (GivesLimited (Gives known failed))) budgeted
    (FitBudget limits bytes) answer

-- the result is built from the items of a reader of ASCII, in this dialect, which hasn't taken or
-- looked at any byte yet
abbrev pub IsReadAsAscii : {R : Type 0} (known : R → Option (List ℕ)) (failed : R → Option ℕ)
    (source : R) → Dialect → Result Tree Fault → Type 0
IsReadAsAscii {R} known failed source dialect answer =
    (reader : AsciiReader R) × (device_of reader ≡ source) × (dialect_of reader ≡ dialect)
    × (place_of reader ≡ 0) × (peeked_byte reader ≡ None)
    × (untaken_bytes known reader ≡ readable (known source))
    × Collects event_of (ascii.GivesAscii known failed) reader answer

-- the fault says that the events aren't those of a value
abbrev pub IsFaultOfEvents : FaultKind → Type 0
IsFaultOfEvents (UnexpectedEventType expected found) = ⊤
IsFaultOfEvents (ExpectedEndOfEventStream found) = ⊤
IsFaultOfEvents UnexpectedEndOfEventStream = ⊤
IsFaultOfEvents kind = ⊥

-- why a source has no value: a fault that its reader can yield, or a fault of the events, without
-- an offset
abbrev pub IsReadingFault : (limited : Bool) → Fault → Type 0
IsReadingFault limited fault =
    IsReaderFault limited fault ⊎ (IsFaultOfEvents fault.kind × (fault.offset ≡ None))

-- Why an ASCII source has no value: a fault in its bytes or a failed read, with an offset; or
-- `OutOfMemory` or a fault of the events, without one.
abbrev pub IsAsciiReadingFault : Fault → Type 0
IsAsciiReadingFault fault =
    ((IsFaultOfBytes fault.kind ⊎ IsIo fault.kind) × HasOffset fault.offset)
    ⊎ ((fault ≡ fault_without_offset OutOfMemory)
    ⊎ (IsFaultOfEvents fault.kind × (fault.offset ≡ None)))

-- no source of this type counts a failed read; those of slices and vectors don't
abbrev pub NeverFails : {R : Type 0} → (failed : R → ℕ) → Type 0
NeverFails {R} failed = (source : R) → failed source ≡ 0

-- each reader of this type counts its failed reads, and there are none
abbrev pub NeverFailsReading : {R : Type 0} → (failed : R → Option ℕ) → Type 0
NeverFailsReading {R} failed = (reader : R) → failed reader ≡ Some 0

-- the file couldn't be opened; or `P` is true of a source over it, none of whose calls has failed
abbrev pub IfOpened : (F : Type 0) → Result Tree Fault → (Seeking F → Type 0) → Type 0
IfOpened F answer P =
    (answer ≡ Err (fault_without_offset Io))
    ⊎ ((source : Seeking F) × (failures_of source ≡ 0) × P source)

-- the result is built from the items of a file, which is read in this dialect if it is ASCII
abbrev pub IsReadFromFile : (F : Type 0) → Dialect → Result Tree Fault → Type 0
IsReadFromFile F dialect answer =
    IfOpened F answer (λ source. IsReadInDialect dialect (λ _. None) failures_of source answer)

-- the result is built from the items of a file, under these limits
abbrev pub IsReadFromFileWithin : (F : Type 0) → Limits → Result Tree Fault → Type 0
IsReadFromFileWithin F limits answer =
    IfOpened F answer (λ source. IsReadWithin limits (λ _. None) failures_of source answer)

-- the result is built from the items of a file, under these limits and within this budget of bytes
abbrev pub IsReadFromFileWithinBudget : (F : Type 0) → Limits → (bytes : ℕ) → Result Tree Fault
    → Type 0
IsReadFromFileWithinBudget F limits bytes answer =
    IfOpened F answer
    (λ source. IsReadWithinBudget limits bytes (λ _. None) failures_of source answer)

-- why a file has no value
abbrev pub IsFileFault : (limited : Bool) → Fault → Type 0
IsFileFault limited fault = (fault ≡ fault_without_offset Io) ⊎ IsReadingFault limited fault
