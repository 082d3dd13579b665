-- The errors of steps that failed.
use Rattle.std.specs.Prelude.{ℕ, Option, None, Some, Result, Ok, Err, unwrap_or, ⊤}
use Rattle.plist_base.specs.declared.error.Error.{Error}
use Rattle.plist_base.specs.declared.error.ErrorKind.{ErrorKind}
use Rattle.plist_base.specs.declared.error.ErrorKind.TheVariants as error_kind
use Rattle.plist_decode.specs.declared.step_fault.FaultDetails.{FaultDetails}
use Rattle.plist_decode.specs.declared.step_fault.StepFault.{StepFault}
use Rattle.plist_decode.specs.declared.step_fault.StepFault.TheVariants as step

-- the kind of the error of a step that failed, unless its error was kept
abbrev pub fault_kind : StepFault → (marker : ℕ) → ErrorKind
fault_kind step.Overrun marker = error_kind.ObjectOffsetTooLarge
fault_kind step.Null marker = error_kind.NullObjectUnimplemented
fault_kind step.Fill marker = error_kind.FillObjectUnimplemented
fault_kind step.Unknown marker = error_kind.UnknownObjectType marker
fault_kind step.OutOfRange marker = error_kind.IntegerOutOfRange
fault_kind step.NoDate marker = error_kind.OverflowOrNanDate
fault_kind step.NotUtf8 marker = error_kind.InvalidUtf8String
fault_kind step.NotUtf16 marker = error_kind.InvalidUtf16String
fault_kind step.Reference marker = error_kind.ObjectReferenceTooLarge
fault_kind step.Recursion marker = error_kind.RecursiveObject
fault_kind step.Memory marker = error_kind.OutOfMemory
fault_kind step.Kept marker = error_kind.OutOfMemory

-- the error of a step with this fault has an offset
abbrev pub HasPlace : StepFault → Type 0
HasPlace step.Memory = ⊥
HasPlace step.Kept = ⊥
HasPlace fault = ⊤

-- the error of a step that failed; if no error was kept, it is `OutOfMemory`
abbrev pub error_of : StepFault → FaultDetails → Error
error_of step.Memory details = record { kind = error_kind.OutOfMemory; offset = None }
error_of step.Kept details =
    unwrap_or details.kept (record { kind = error_kind.OutOfMemory; offset = None })
error_of fault details = record { kind = fault_kind fault details.marker; offset = Some details.place }

-- the result of a step, with the error that `error_of` returns
abbrev pub result_with : {A : Type 0} → Result A StepFault → FaultDetails → Result A Error
result_with (Ok value) details = Ok value
result_with (Err fault) details = Err (error_of fault details)

-- the item of a step, with the error that `error_of` returns
abbrev pub item_kept : {A : Type 0} → Option (Result A StepFault) → FaultDetails
    → Option (Result A Error)
item_kept None details = None
item_kept (Some answer) details = Some (result_with answer details)
