-- What contracts see of a reader of either format: the items that it hasn't yielded yet.
use Rattle.std.specs.Io.KnownBytes.{prepend_known}
use Rattle.std.specs.Prelude.{◌≡◌, ◌⊎◌, ℕ, ◌+◌, ◌^◌, Bool, true, false, List, [], ◌∷◌, take, drop, Option, None, Some, Result, Err, MatchOption, IsErrAnd, IsSomeAnd, IfSome, is_some, option_map, ⊤}
use Rattle.plist_base.specs.declared.error.Error.{Error}
use Rattle.plist_base.specs.declared.event.Event.{Event}
use Rattle.plist_base.specs.declared.source.Source.{Ghosts}
use Rattle.plist_base.specs.declared.limited_items.LimitedItems.{LimitedItems}
use Rattle.plist_base.specs.declared.limits.Limits.{Limits}
use Rattle.plist_base.specs.declared.limits.LimitCounter.{LimitCounter}
use Rattle.plist_base.specs.Allowances.{HasEndedLimited, iterator_of}
use Rattle.plist_base.specs.Limits.{GivesLimited, KeepsLimits, items_admitted, items_within}
use Rattle.plist_base.specs.Faults.{Fault, IsIo, XmlUnsupported, fault_of, fault_at}
use Rattle.plist_base.specs.Events.{Item, event_of}
use Rattle.plist_base.specs.FirstItems.{GivesFirstIfKnown, StopsIf}
use Rattle.plist_base.specs.Outcomes.{IfFault}
use Rattle.plist_base.specs.Sequential.{left_to_read, sequential_place, sequential_source}
use Rattle.plist_base.specs.Sources.{CountsIo}
use Rattle.plist_binread.specs.BinaryReader as binary
use Rattle.plist_binread.specs.declared.reader.BinaryReader.{BinaryReader}
use Rattle.plist_decode.specs.declared.counter.Uncounted.{Uncounted}
use Rattle.plist_decode.specs.contracts.counter.UncountedDecodeCounter.TheImpl.{ghosts}
use Rattle.plist_decode.specs.FaultOffsets.{HasOffset, MatchGiven}
use Rattle.plist_binread.specs.Remaining.{SomeRemain, walk_steps}
use Rattle.plist_base.specs.Unfolding.{items_of_file}
use Rattle.plist_ascii.specs.Ascii.{IsFaultOfBytes, items_of_ascii}
use Rattle.plist_ascii.specs.AsciiReader as ascii
use Rattle.plist_ascii.specs.declared.reader.AsciiReader.{AsciiReader}
use Rattle.plist_reader.specs.declared.bytes.BufferedSource.{BufferedSource}
use Rattle.plist_ascii.specs.Texts.{ends_bare}
use Rattle.plist_ascii.specs.declared.dialect.Dialect.{Dialect}
use Rattle.plist_ascii.specs.declared.dialect.Dialect.TheVariants.{Lax}
use Rattle.plist_decode.specs.declared.format.Format.{Format}
use Rattle.plist_decode.specs.declared.format.Format.TheVariants as format
use Rattle.plist_reader.specs.declared.reader.Reader.{Reader}
use Rattle.plist_reader.specs.declared.reader.State.{State}
use Rattle.plist_reader.specs.declared.reader.State.TheVariants as state
use Rattle.plist_decode.specs.Formats.{input_front, format_of}

-- the items of some bytes in this format, and in this dialect if it is ASCII
abbrev pub items_in_format : Dialect → Format → List ℕ → List Item
items_in_format dialect format.Binary bytes = items_of_file bytes
items_in_format dialect (format.Xml place) bytes = Err (fault_at XmlUnsupported place) ∷ []
items_in_format dialect format.Ascii bytes =
    items_of_ascii (ends_bare dialect) (input_front bytes) 0

-- the items of some bytes in the indicated format, and in this dialect if it is ASCII
abbrev pub items_of_dialect : Dialect → List ℕ → List Item
items_of_dialect dialect bytes = items_in_format dialect (format_of bytes) bytes

-- the items of some bytes in the indicated format, and in the lax dialect if it is ASCII
abbrev pub items_of_input : List ℕ → List Item
items_of_input bytes = items_of_dialect Lax bytes

-- the buffered bytes, which were read from the source but not consumed yet
abbrev pub buffered_bytes : {R : Type 0} → BufferedSource R → List ℕ
buffered_bytes reader = drop reader.from (take reader.end reader.window)

-- the source from which the bytes are read
abbrev pub buffered_source : {R : Type 0} → BufferedSource R → R
buffered_source reader = sequential_source reader.inner

-- the number of bytes that have been read from the source
abbrev pub buffered_place : {R : Type 0} → BufferedSource R → ℕ
buffered_place reader = sequential_place reader.inner

-- all bytes of a buffered source that haven't been consumed yet, if its bytes are known
abbrev pub stream_bytes_left : {R : Type 0} → (R → Option (List ℕ)) → BufferedSource R
    → Option (List ℕ)
stream_bytes_left known reader =
    prepend_known (buffered_bytes reader) (left_to_read known reader.inner)

-- the type of the reader of a binary source, which doesn't count what it decodes
abbrev pub BinaryReaderOf : (R : Type 0) → Ghosts R → Type 0
BinaryReaderOf R g = BinaryReader R Uncounted g ghosts

-- the type of the reader of a source in ASCII
abbrev pub AsciiReaderOf : Type 0 → Type 0
AsciiReaderOf R = AsciiReader (BufferedSource R)

module _ {R : Type 0} {g : Ghosts R} (known : R → Option (List ℕ)) where
  -- the remaining items, of the source or of the chosen reader, if the source's bytes are known
  abbrev pub state_items : State R g → Option (List Item)
  state_items (state.Unread source limits dialect) =
      option_map (λ bytes. items_within limits (items_of_dialect dialect bytes)) (known source)
  state_items (state.Binary reader) = binary.file_items known reader
  state_items (state.Ascii reader) = ascii.ascii_items_to_come (stream_bytes_left known) reader
  state_items (state.Limited reader) = option_map (items_admitted reader)
      (ascii.ascii_items_to_come (stream_bytes_left known) (iterator_of reader))
  state_items other = Some []

-- the source in a state, or `None` while the first item is read
abbrev pub source_in : {R : Type 0} {g : Ghosts R} → State R g → Option R
source_in (state.Unread source limits dialect) = Some source
source_in (state.Binary reader) = Some (binary.binary_source reader)
source_in (state.Ascii reader) = Some (buffered_source (ascii.device_of reader))
source_in (state.Limited reader) =
    Some (buffered_source (ascii.device_of (iterator_of reader)))
source_in (state.Refused source) = Some source
source_in state.Moved = None

-- no item has been requested yet, and the reader has this source, these limits and this dialect
abbrev pub IsUnread : {R : Type 0} {g : Ghosts R} → Reader R g → (source : R) → Option Limits
    → Dialect → Type 0
IsUnread reader source limits dialect = reader.state ≡ state.Unread source limits dialect

-- no item has been requested yet, and the reader has this source, no limits and the lax dialect
abbrev pub IsNewReader : {R : Type 0} {g : Ghosts R} → Reader R g → (source : R) → Type 0
IsNewReader reader source = IsUnread reader source None Lax

-- a reader in this state has ended
abbrev pub HasEndedState : {R : Type 0} {g : Ghosts R} → State R g → Type 0
HasEndedState (state.Unread source limits dialect) = ⊥
HasEndedState (state.Binary reader) = binary.HasEndedBinary reader
HasEndedState (state.Ascii reader) = ascii.HasEndedAscii reader
HasEndedState (state.Limited reader) = HasEndedLimited reader
HasEndedState other = ⊤

-- whether a reader in this state has limits
abbrev pub is_limited_in : {R : Type 0} {g : Ghosts R} → State R g → Bool
is_limited_in (state.Unread source limits dialect) = is_some limits
is_limited_in (state.Binary reader) = binary.has_limits reader
is_limited_in (state.Limited reader) = true
is_limited_in other = false

-- the items of a list that the limits in a state admit, or all of them without limits
abbrev pub admitted_in : {R : Type 0} {g : Ghosts R} → State R g → List Item → List Item
admitted_in (state.Unread source limits dialect) = items_within limits
admitted_in (state.Binary reader) = binary.admitted_by reader
admitted_in (state.Limited reader) = items_admitted reader
admitted_in other = λ items. items

-- the number of objects in the binary file, or 0 if this number hasn't been read or the state is
-- that of another format
abbrev pub objects_in_state : {R : Type 0} {g : Ghosts R} → State R g → ℕ
objects_in_state (state.Binary reader) = binary.objects_in_file reader
objects_in_state other = 0

module _ {R : Type 0} {g : Ghosts R} where
  -- the remaining items of a reader, if the source's bytes are known
  abbrev pub reader_items : (known : R → Option (List ℕ)) → Reader R g → Option (List Item)
  reader_items known reader = state_items known reader.state

  -- the source of a reader, or `None` while the first item is read
  abbrev pub reader_source : Reader R g → Option R
  reader_source reader = source_in reader.state

  -- whether a reader has limits
  abbrev pub reader_is_limited : Reader R g → Bool
  reader_is_limited reader = is_limited_in reader.state

  -- the number of objects in the binary file that a reader reads, or 0
  abbrev pub reader_objects : Reader R g → ℕ
  reader_objects reader = objects_in_state reader.state

-- One of the readers can yield this fault. It has an offset, except for `OutOfMemory`, and for the
-- fault of a limit, which is possible only under limits.
abbrev pub IsReaderFault : (limited : Bool) → Fault → Type 0
IsReaderFault limited fault =
    (((fault.kind ≡ XmlUnsupported) ⊎ IsFaultOfBytes fault.kind) × HasOffset fault.offset)
    ⊎ MatchGiven fault.kind (HasOffset fault.offset) (fault.offset ≡ None) (HasOffset fault.offset)
    ((limited ≡ true) × (fault.offset ≡ None))

-- one call of the ASCII reader's `next`
abbrev pub AsciiGives : {R : Type 0} (known : R → Option (List ℕ)) (failed : R → ℕ)
    → AsciiReaderOf R → Option (Result Event Error) → AsciiReaderOf R → Type 0
AsciiGives known failed =
    ascii.GivesAscii (stream_bytes_left known)
    (λ bytes. Some (failed (buffered_source bytes)))

-- a source has the bytes and the count of failures of the source `before`
abbrev pub IsAsBefore : {R : Type 0} (known : R → Option (List ℕ)) (failed : R → ℕ)
    → (before source : R) → Type 0
IsAsBefore known failed before source = (known source ≡ known before) × (failed source ≡ failed before)

-- the state after a call: a reader ends with `None`, and with a fault that the bytes of ASCII can't
-- have; one that has ended yields nothing
pub record EndsState {R : Type 0} {g : Ghosts R} (old : State R g)
    (item : Option (Result Event Error)) (new : State R g) : Type 0 where
  pub ended : HasEndedState old → item ≡ None
  pub ends : let over = HasEndedState new in
      MatchOption item over (λ answer. IfFault answer (λ fault. IsFaultOfBytes fault.kind ⊎ over))

module _ {R : Type 0} {g : Ghosts R} (known : R → Option (List ℕ)) (failed : R → ℕ) where
  -- The first item of a source, under limits if there are any, and in a dialect, is that of a new
  -- reader of the source, or a fault because no reader was chosen.
  abbrev pub BeginsInside : (begun : R × Option Limits × Dialect) → Option (Result Event Error) → State R g
      → Type 0
  BeginsInside begun item (state.Binary new) = (fresh : BinaryReaderOf R g)
      × IsAsBefore known failed begun.0 (binary.binary_source fresh)
      × (binary.is_new fresh ≡ true) × (binary.has_limits fresh ≡ is_some begun.1)
      × binary.GivesBinary fresh item new
  BeginsInside begun item (state.Ascii new) = (fresh : AsciiReaderOf R)
      × IsAsBefore known failed begun.0 (buffered_source (ascii.device_of fresh))
      × (ascii.place_of fresh ≡ 0) × (ascii.dialect_of fresh ≡ begun.2) × (begun.1 ≡ None)
      × AsciiGives known failed fresh item new
  BeginsInside begun item (state.Limited new) = (fresh : LimitedItems (AsciiReaderOf R) LimitCounter)
      × IsAsBefore known failed begun.0 (buffered_source (ascii.device_of (iterator_of fresh)))
      × (ascii.place_of (iterator_of fresh) ≡ 0)
      × (ascii.dialect_of (iterator_of fresh) ≡ begun.2) × (is_some begun.1 ≡ true)
      × GivesLimited (AsciiGives known failed) fresh item new
  BeginsInside begun item (state.Refused source) = IsSomeAnd item (λ answer.
      IsErrAnd answer (λ e. let kind = (fault_of e).kind in (kind ≡ XmlUnsupported) ⊎ IsIo kind))
  BeginsInside begun item new = ⊥

  -- the chosen reader yields the item, and stays chosen
  abbrev pub GivesInside : State R g → Option (Result Event Error) → State R g → Type 0
  GivesInside (state.Unread source limits dialect) item new =
      BeginsInside (source, limits, dialect) item new
  GivesInside (state.Binary old) item (state.Binary new) = binary.GivesBinary old item new
  GivesInside (state.Ascii old) item (state.Ascii new) = AsciiGives known failed old item new
  GivesInside (state.Limited old) item (state.Limited new) =
      GivesLimited (AsciiGives known failed) old item new
  GivesInside old item new = (item ≡ None) × (new ≡ old)

  -- what else is true of a call: the item is that of the chosen reader, within the limits
  pub record ComesFromInside (old : State R g) (item : Option (Result Event Error)) (new : State R g)
      : Type 0 where
    -- an event is one that the limits admit, and `LimitReached` replaces one that they don't admit
    pub admitted : KeepsLimits event_of (admitted_in old) item (admitted_in new)
    pub faults : IfSome item (λ answer. IfFault answer (IsReaderFault (is_limited_in old)))
    pub limits : is_limited_in old ≡ false → is_limited_in new ≡ false
    pub inside : GivesInside old item new

  -- what one call of `next` does, as it changes the state
  pub record StateGives (old : State R g) (item : Option (Result Event Error)) (new : State R g)
      : Type 0 where
    -- If the bytes are known, the item is the first that remained, and the others remain. No item
    -- remains after `None`, `Io` and `OutOfMemory`, and `OutOfMemory` is yielded only if an item
    -- remained.
    pub items : GivesFirstIfKnown event_of (StopsIf (λ _. ⊤)) (StopsIf SomeRemain)
        (state_items known old) item (state_items known new)
    -- the source is kept, and its count of failures rises if the item is `Io`, and else is unchanged
    pub failures : IfSome (source_in old) (λ source. IsSomeAnd (source_in new)
        (λ kept. CountsIo item (failed source) (failed kept)))
    pub state : EndsState old item new
    pub inner : ComesFromInside old item new

  -- one call of `next`, as it changes the reader
  abbrev pub Gives : (old : Reader R g) → Option (Result Event Error) → (new : Reader R g) → Type 0
  Gives old item new = StateGives old.state item new.state

-- more than the number of items in any input
abbrev pub all_steps : ℕ
all_steps = walk_steps (2 ^ 64) + 1 + 2 ^ 64

-- an upper bound on the number of items that remain
abbrev pub steps_in_state : {R : Type 0} {g : Ghosts R} → State R g → ℕ
steps_in_state (state.Unread source limits dialect) = all_steps
steps_in_state (state.Binary reader) = binary.binary_steps reader
steps_in_state (state.Ascii reader) = ascii.ascii_steps reader
steps_in_state (state.Limited reader) = ascii.ascii_steps (iterator_of reader)
steps_in_state other = 0
