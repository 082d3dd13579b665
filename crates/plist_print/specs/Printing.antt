-- What printing the items of a file writes, and what it returns.
use Rattle.std.specs.Prelude.{◌≡◌, ℕ, ◌⊎◌, List, Option, None, Some, ⊤, IfErr, IsErrAnd, OnOk, Result}
use Rattle.std.specs.Io.KnownBytes.{Appends}
use Rattle.plist_base.specs.declared.error.Error.{Error}
use Rattle.plist_base.specs.Faults.{Fault, MatchFault, IsIoOrMemory, kind_of, error_kind_of, fault_of, offset_of}
use Rattle.plist_base.specs.Events.{Item}
use Rattle.plist_base.specs.Sources.{CountsIo}
use Rattle.plist_base.specs.Prefixes.{AppendsPrefix}
use Rattle.plist_print.specs.EscapedLines.{lines_of, first_fault}

-- the items have no fault, and all lines were written
abbrev pub PrintsAll : List Item → (old new : Option (List ℕ)) → Type 0
PrintsAll items old new = (first_fault items ≡ None) × Appends old new (lines_of items)

-- the error is the first fault, and all lines before it were written; `Io` and `OutOfMemory` say
-- nothing of the items
abbrev pub PrintsUntil : Error → List Item → (old new : Option (List ℕ)) → Type 0
PrintsUntil error items old new =
    MatchFault (kind_of (error_kind_of error)) ⊤ ⊤
    ((first_fault items ≡ Some (fault_of error)) × Appends old new (lines_of items))

-- What printing items does. If it succeeds, they have no fault, and all lines were written. Otherwise
-- the error is the first fault, and all lines before it were written; or the error is `Io` or
-- `OutOfMemory`. In any case a prefix of their lines was written.
pub record PrintsKnown (items : List Item) (answer : Result (Unit {0}) Error)
    (old new : Option (List ℕ)) : Type 0 where
  pub printed : OnOk answer (PrintsAll items old new)
  pub refused : IfErr answer (λ error. PrintsUntil error items old new)
  pub prefix : AppendsPrefix old new (lines_of items)

-- a write or an allocation failed; neither error has an offset
abbrev pub IsWriterFault : Fault → Type 0
IsWriterFault fault = (fault.offset ≡ None) × IsIoOrMemory fault.kind

-- the error is such a fault
abbrev pub IsWriterError : Error → Type 0
IsWriterError error = IsWriterFault (fault_of error)

-- the count of failures rose only if the call returned `Io`; an `Io` without an offset may be the
-- error of a write, and then the count is unchanged
abbrev pub CountsReads : {A : Type 0} → Result A Error → (old new : ℕ) → Type 0
CountsReads answer old new = CountsIo (Some answer) old new
    ⊎ (IsErrAnd answer (λ error. offset_of error ≡ None) × (new ≡ old))
