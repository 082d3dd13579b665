-- A reader as contracts describe it: the bytes that it hasn't taken yet, and their items.
use Rattle.std.specs.Prelude.{◌≡◌, ℕ, ◌-◌, ◌^◌, ◌<◌, ◌≤◌, Bool, true, if◌then◌else◌, List, [], ◌∷◌, take, drop, Option, None, Some, Result, Ok, Err, IfOk, IfErr, IfSome, OnOk, ⊤}
use Rattle.std.specs.Option.{option_map}
use Rattle.plist_base.specs.declared.error.Error.{Error}
use Rattle.plist_base.specs.declared.event.Event.{Event}
use Rattle.plist_base.specs.Faults.{MatchFault, fault_of, offset_of}
use Rattle.plist_base.specs.Events.{Item, event_of}
use Rattle.plist_base.specs.FirstItems.{GivesFirstIfKnown, MatchItem, StopsIf}
use Rattle.plist_ascii.specs.declared.reader.AsciiReader.{AsciiReader}
use Rattle.plist_ascii.specs.declared.dialect.Dialect.{Dialect}
use Rattle.plist_ascii.specs.Texts.{ends_bare}
use Rattle.plist_ascii.specs.declared.token.Lead.{Lead}
use Rattle.plist_ascii.specs.Ascii.{placed, placed_items, items_of_ascii, BeginsWithText, FirstIsQuoted, IsAsciiEvent, IsFaultOfBytes, IfBracket}
use Rattle.plist_ascii.specs.Unread.{RisesIfCounted, unread, IfKnown}

-- the inner reader
abbrev pub device_of : {R : Type 0} → AsciiReader R → R
device_of reader = reader.input.inner

-- the byte that was read from the inner reader but not taken, if any
abbrev pub peeked_byte : {R : Type 0} → AsciiReader R → Option ℕ
peeked_byte reader = reader.input.peeked

-- the number of bytes taken
abbrev pub place_of : {R : Type 0} → AsciiReader R → ℕ
place_of reader = reader.input.taken

-- the reader's dialect
abbrev pub dialect_of : {R : Type 0} → AsciiReader R → Dialect
dialect_of reader = reader.dialect

-- the reader has ended, and yields nothing more
abbrev pub HasEndedAscii : {R : Type 0} → AsciiReader R → Type 0
HasEndedAscii reader = reader.input.ended ≡ true

-- the bytes not taken yet, if they are known; none after the reader has ended
abbrev pub untaken_bytes : {R : Type 0} → (R → Option (List ℕ)) → AsciiReader R → Option (List ℕ)
untaken_bytes known reader = unread known reader.input

-- the items that a reader hasn't yielded yet, if its bytes are known
abbrev pub ascii_items_to_come : {R : Type 0} → (R → Option (List ℕ)) → AsciiReader R
    → Option (List Item)
ascii_items_to_come known reader =
    option_map (λ bytes. items_of_ascii (ends_bare (dialect_of reader)) bytes (place_of reader))
    (untaken_bytes known reader)

-- the bytes that can be taken, which are at most 2^64 - 1
abbrev pub readable : Option (List ℕ) → Option (List ℕ)
readable known = option_map (λ bytes. take (2 ^ 64 - 1) bytes) known

-- the first item of the bytes from offset p on is this one, which ends at offset q; the other items
-- are those of the bytes from q on
pub record BeginsWithItem (stops : ℕ → Bool) (bytes : List ℕ) (p : ℕ) (item : Item) (left : List ℕ)
    (q : ℕ) : Type 0 where
  pub lead : Lead
  pub ends : placed_items stops bytes p ≡ placed lead q item ∷ placed_items stops left q
  pub rest : left ≡ drop (q - p) bytes

-- The bytes of the first item were taken, and those after it remain. No bytes remain after `None`, `Io`
-- and `OutOfMemory`.
abbrev pub TakesItem : (stops : ℕ → Bool) → List ℕ → (p : ℕ) → Option (Result Event Error)
    → (rest : List ℕ) → (q : ℕ) → Type 0
TakesItem stops bytes p item rest q =
    MatchItem item (rest ≡ []) (λ event. BeginsWithItem stops bytes p (Ok (event_of event)) rest q)
    (rest ≡ []) (rest ≡ []) (λ fault. BeginsWithItem stops bytes p (Err fault) rest q)

-- the state after a call: a reader ends with `None`, `Io` or `OutOfMemory`, and one that has ended
-- yields nothing and doesn't call the inner reader
pub record EndsAscii {R : Type 0} (old : AsciiReader R) (item : Option (Result Event Error))
    (new : AsciiReader R) : Type 0 where
  pub ended : HasEndedAscii old → item ≡ None
  pub unasked : HasEndedAscii old → device_of new ≡ device_of old
  pub ends : let over = HasEndedAscii new in MatchItem item over (λ _. ⊤) over over (λ _. ⊤)

-- what else is true of a call: which bytes are taken, what the item can be, and where a fault lies;
-- after a start, an end or a quoted string no further byte has been looked at
pub record TakesAscii {R : Type 0} (known : R → Option (List ℕ)) (old : AsciiReader R)
    (item : Option (Result Event Error)) (new : AsciiReader R) : Type 0 where
  pub takes : IfKnown (untaken_bytes known old) (λ bytes. (rest : List ℕ)
      × (untaken_bytes known new ≡ Some rest) × TakesItem (ends_bare (dialect_of old)) bytes
      (place_of old) item rest (place_of new))
  pub dialect : dialect_of new ≡ dialect_of old
  -- at least one byte is taken for an event or a fault in the bytes, and no byte is put back
  pub rises : (place_of old ≤ place_of new) × MatchItem item ⊤
      (λ _. place_of old < place_of new) ⊤ ⊤ (λ _. place_of old < place_of new)
  pub kinds : MatchItem item ⊤ (λ event. IsAsciiEvent (event_of event)) ⊤ ⊤
      (λ fault. IsFaultOfBytes fault.kind)
  -- the offset of a fault is the number of bytes taken; `OutOfMemory` has none
  pub offset : IfSome item (λ answer. IfErr answer (λ error.
      let taken = offset_of error ≡ Some (place_of new) in
      MatchFault (fault_of error).kind taken (offset_of error ≡ None) taken))
  pub brackets : IfSome item (λ answer. IfOk answer (λ event.
      IfBracket (event_of event) (peeked_byte new ≡ None)))
  pub quotes : IfKnown (untaken_bytes known old) (λ bytes. IfSome item (λ answer. OnOk answer
      (FirstIsQuoted (placed_items (ends_bare (dialect_of old)) bytes (place_of old))
      → peeked_byte new ≡ None)))

-- what one call of `next` does
pub record GivesAscii {R : Type 0} (known : R → Option (List ℕ)) (failed : R → Option ℕ)
    (old : AsciiReader R) (item : Option (Result Event Error)) (new : AsciiReader R) : Type 0 where
  -- If the bytes are known, the item is the first of those not taken yet, and the others remain. No
  -- item remains after `None`, `Io` and `OutOfMemory`, which is yielded only in place of a string, an
  -- integer or a string's fault.
  pub items : GivesFirstIfKnown event_of (StopsIf (λ _. ⊤)) (StopsIf BeginsWithText)
      (ascii_items_to_come known old) item (ascii_items_to_come known new)
  -- the count of failures rises if the item is `Io`, and is otherwise unchanged
  pub failures : let same = failed (device_of new) ≡ failed (device_of old) in
      MatchItem item same (λ _. same)
      (RisesIfCounted (failed (device_of old)) (failed (device_of new))) same (λ _. same)
  pub state : EndsAscii old item new
  pub inner : TakesAscii known old item new

-- an upper bound on the number of a reader's remaining items
abbrev pub ascii_steps : {R : Type 0} → AsciiReader R → ℕ
ascii_steps reader = if reader.input.ended then 0 else 2 ^ 64 - place_of reader
