-- What the calls of a source return, and how the calls that fail are counted.
use Rattle.std.specs.Prelude.{◌≡◌, ℕ, ◌+◌, ◌-◌, ◌^◌, ◌<◌, ◌≤◌, ◌⊎◌, List, length, take, drop, Option, None, Some, IfSome, MatchResult, Result, ⊤}
use Rattle.plist_base.specs.declared.error.Error.{Error}
use Rattle.plist_base.specs.declared.seeking.Seeking.{Seeking}
use Rattle.plist_base.specs.Faults.{FaultKind, Fault, UnexpectedEof, Io, IsIo}
use Rattle.plist_base.specs.FirstItems.{MatchItem}

-- the count of failures rose by one, or is at its maximum
abbrev pub Rises : ℕ → ℕ → Type 0
Rises old new = (new ≡ old + 1) ⊎ ((old ≡ 2 ^ 64 - 1) × (new ≡ 2 ^ 64 - 1))

-- `Ok` leaves the count of failures as it was, and `Err` raises it
abbrev pub CountsFailure : {A E : Type 0} → Result A E → ℕ → ℕ → Type 0
CountsFailure answer old new = MatchResult answer (λ _. new ≡ old) (λ _. Rises old new)

-- the buffer begins with `count` bytes from this offset on; `count` is 0 only if none fit or remain
abbrev pub GivesAt : List ℕ → ℕ → ℕ → List ℕ → Type 0
GivesAt bytes place count buffer =
    (take count buffer ≡ take count (drop place bytes))
    × (count ≡ 0 → (length buffer ≡ 0) ⊎ (length bytes ≤ place))

-- `bytes_there` are the first of the bytes from this offset on
abbrev pub LiesAt : (bytes : List ℕ) (place : ℕ) (bytes_there : List ℕ) → Type 0
LiesAt bytes place bytes_there = bytes_there ≡ take (length bytes_there) (drop place bytes)

-- the count of failures rose if the item is `Io`, and is unchanged otherwise; the item of a call that
-- returns a result is `Some(result)`
abbrev pub CountsIo : {A : Type 0} → Option (Result A Error) → (old new : ℕ) → Type 0
CountsIo item old new =
    MatchItem item (new ≡ old) (λ _. new ≡ old) (Rises old new) (new ≡ old) (λ _. new ≡ old)

-- the fault is that of a read that failed or returned no byte
abbrev pub IsReadFault : FaultKind → Type 0
IsReadFault Io = ⊤
IsReadFault UnexpectedEof = ⊤
IsReadFault kind = ⊥

-- the offset is at least `start` and below `end`
abbrev pub IsOffsetWithin : (start end : ℕ) → Option ℕ → Type 0
IsOffsetWithin start end None = ⊥
IsOffsetWithin start end (Some place) = (start ≤ place) × (place < end)

-- a read of some of these `size` bytes failed or returned no byte, at the fault's offset
pub record FailsReading (place size : ℕ) (fault : Fault) : Type 0 where
  pub kind : IsReadFault fault.kind
  pub at : IsOffsetWithin place (place + size) fault.offset

-- an `UnexpectedEof` has the offset at which the bytes end, or `start` if they end before that
abbrev pub EndsTooEarly : (start : ℕ) → List ℕ → Fault → Type 0
EndsTooEarly start bytes fault = fault.kind ≡ UnexpectedEof → IfSome fault.offset
    (λ place. (length bytes ≤ place) × ((place ≡ start) ⊎ (place ≤ length bytes)))

-- the buffer contains the bytes from `start` on that precede the fault's offset
abbrev pub FillsUpTo : (start : ℕ) → (buffer bytes : List ℕ) → Fault → Type 0
FillsUpTo start buffer bytes fault = IfSome fault.offset
    (λ place. take (place - start) buffer ≡ take (place - start) (drop start bytes))

-- if all of these `size` bytes exist, the fault is an I/O error
abbrev pub IsIoWithin : (place size : ℕ) → List ℕ → Fault → Type 0
IsIoWithin place size bytes fault = place + size ≤ length bytes → IsIo fault.kind

-- ---- a source over a reader that can seek

-- the number of calls that failed
abbrev pub failures_of : {R : Type 0} → Seeking R → ℕ
failures_of source = source.failed

-- the inner reader
abbrev pub seekable_of : {R : Type 0} → Seeking R → R
seekable_of source = source.inner
