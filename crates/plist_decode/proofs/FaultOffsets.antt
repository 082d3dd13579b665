-- The offsets of a reader's errors.
use Rattle.std.proofs.Common.{◌≡◌, false, ℕ, ◌+◌, ◌≤◌, Option, None, Some, Result, Ok, Err, arith, ap}
use Rattle.std.specs.Prelude.{⊤, IsErrAnd}
use Rattle.plist_base.specs.declared.error.Error.{Error}
use Rattle.plist_base.specs.Faults.{FaultKind, Fault, MatchFault, UnexpectedEof, Io, error_kind_of, kind_of}
use Rattle.plist_base.specs.Sources.{CountsIo, FailsReading, IsOffsetWithin, IsReadFault}
use Rattle.plist_base.proofs.Refusals.{MatchFault-weaker}
use Rattle.plist_decode.specs.FaultOffsets.{ErrWithin, IsGivenWithin, MatchGiven}

place_wider : (offset : Option ℕ) (s e s' e' : ℕ) → s' ≤ s → e ≤ e' → IsOffsetWithin s e offset
    → IsOffsetWithin s' e' offset
place_wider None s e s' e' low high h = absurd h
place_wider (Some place) s e s' e' low high h = (omega arith, omega arith)

-- the fact for the error of a read can be replaced by one that follows from it
MatchGiven-read : (kind : FaultKind) {A A' : Type 0} (B C D : Type 0) → (A → A')
    → MatchGiven kind A B C D → MatchGiven kind A' B C D
MatchGiven-read UnexpectedEof B C D f h = f h
MatchGiven-read Io B C D f h = f h
MatchGiven-read kind B C D f h = h

-- an error in a range is in each range that contains it
pub from_within : (fault : Fault) (p q s e : ℕ) → IsGivenWithin p q false fault → s ≤ p → q ≤ e
    → IsGivenWithin s e false fault
from_within fault p q s e h low high = record {
  placed = MatchGiven-read fault.kind _ _ _ (place_wider fault.offset p q s e low high) h.placed;
}

-- the fact for the error of a read is enough for such an error
MatchGiven-from_read : (kind : FaultKind) {A : Type 0} (B C D : Type 0) → IsReadFault kind → A
    → MatchGiven kind A B C D
MatchGiven-from_read UnexpectedEof B C D h a = a
MatchGiven-from_read Io B C D h a = a
MatchGiven-from_read kind B C D h a = absurd h

-- the error of a read within the range is in the range
pub from_reading : (fault : Fault) (p n s e : ℕ) → FailsReading p n fault → s ≤ p → p + n ≤ e
    → IsGivenWithin s e false fault
from_reading fault p n s e h low high = record {
  placed = MatchGiven-from_read fault.kind _ _ _ h.kind
      (place_wider fault.offset p (p + n) s e low high h.at);
}

-- an error that is neither `Io` nor `OutOfMemory` leaves the count of failures unchanged
pub counts_fault : (A : Type 0) (error : Error) (old new : ℕ)
    → MatchFault (kind_of (error_kind_of error)) ⊥ ⊥ ⊤ → new ≡ old
    → CountsIo {A = A} (Some (Err error)) old new
counts_fault A error old new other same =
    MatchFault-weaker (kind_of (error_kind_of error)) (λ none. absurd none) (λ none. absurd none)
    (λ _. same) other

-- ---- results

pub err_within : {A : Type 0} (answer : Result A Error) (p q s e : ℕ) → ErrWithin p q answer
    → s ≤ p → q ≤ e → ErrWithin s e answer
err_within (Ok value) p q s e within low high = tt
err_within (Err error) p q s e within low high = from_within _ p q s e within low high

-- the result is the error that `?` returns
pub passed : {A E : Type 0} (answer : Result A E) {error : E} → IsErrAnd answer (λ e. e ≡ error)
    → answer ≡ Err error
passed (Ok value) h = absurd h
passed (Err error) h = ap Err h
