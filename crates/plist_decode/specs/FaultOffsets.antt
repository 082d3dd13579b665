-- The offsets of a reader's errors.
use Rattle.std.specs.Prelude.{◌≡◌, ℕ, Bool, true, false, Option, None, Some, Result, IfErr, MatchOption, ⊤}
use Rattle.plist_base.specs.declared.error.Error.{Error}
use Rattle.plist_base.specs.Faults.{FaultKind, Fault, LimitReached, UnexpectedEof, InvalidMagic, InvalidTrailerObjectOffsetSize, InvalidTrailerObjectReferenceSize, ObjectOffsetTooLarge, ObjectReferenceTooLarge, RecursiveObject, NullObjectUnimplemented, FillObjectUnimplemented, UnknownObjectType, IntegerOutOfRange, OverflowOrNanDate, InvalidUtf8String, InvalidUtf16String, Io, OutOfMemory, fault_of}
use Rattle.plist_base.specs.Sources.{IsOffsetWithin}

-- the fact that belongs to the kind of error, which is false if a reader never returns this kind
abbrev pub MatchGiven : FaultKind → (read memory other limit : Type 0) → Type 0
MatchGiven (LimitReached reached) read memory other limit = limit
MatchGiven Io read memory other limit = read
MatchGiven UnexpectedEof read memory other limit = read
MatchGiven OutOfMemory read memory other limit = memory
MatchGiven InvalidMagic read memory other limit = other
MatchGiven InvalidTrailerObjectOffsetSize read memory other limit = other
MatchGiven InvalidTrailerObjectReferenceSize read memory other limit = other
MatchGiven ObjectOffsetTooLarge read memory other limit = other
MatchGiven ObjectReferenceTooLarge read memory other limit = other
MatchGiven RecursiveObject read memory other limit = other
MatchGiven NullObjectUnimplemented read memory other limit = other
MatchGiven FillObjectUnimplemented read memory other limit = other
MatchGiven (UnknownObjectType marker) read memory other limit = other
MatchGiven IntegerOutOfRange read memory other limit = other
MatchGiven OverflowOrNanDate read memory other limit = other
MatchGiven InvalidUtf8String read memory other limit = other
MatchGiven InvalidUtf16String read memory other limit = other
MatchGiven kind read memory other limit = ⊥

-- the error has an offset
abbrev pub HasOffset : Option ℕ → Type 0
HasOffset None = ⊥
HasOffset (Some place) = ⊤

-- the offset of a failed read lies within the range; `OutOfMemory` and the errors of limits, which
-- only a limited reader has, have no offset; all other errors have one
pub record IsGivenWithin (start end : ℕ) (limited : Bool) (fault : Fault) : Type 0 where
  pub placed : MatchGiven fault.kind (IsOffsetWithin start end fault.offset) (fault.offset ≡ None)
      (HasOffset fault.offset) ((limited ≡ true) × (fault.offset ≡ None))

-- if the item is an error, it has an offset as `IsGivenWithin` says
abbrev pub ItemGivenWithin : {A : Type 0} → (start end : ℕ) → (limited : Bool)
    → Option (Result A Error) → Type 0
ItemGivenWithin start end limited item =
    MatchOption item ⊤ (λ answer. IfErr answer (λ e. IsGivenWithin start end limited (fault_of e)))

-- if the result is an error, it has an offset as `IsGivenWithin` says of a reader without limits
abbrev pub ErrWithin : {A : Type 0} → (start end : ℕ) → Result A Error → Type 0
ErrWithin start end answer = IfErr answer (λ e. IsGivenWithin start end false (fault_of e))
