-- Facts about the result of a call: which errors it returns, and what it says about known bytes or
-- a size.
use Rattle.std.specs.Prelude.{◌≡◌, ◌≤◌, ◌^◌, ℕ, List, MatchOption, Option, Result, IfOk, IfErr, IfSome}
use Rattle.plist_base.specs.declared.error.Error.{Error}
use Rattle.plist_base.specs.Faults.{Fault, Io, OutOfMemory, fault_without_offset, fault_of}

-- if the call failed, this is true of its fault
abbrev pub IfFault : {A : Type 0} → Result A Error → (Fault → Type 0) → Type 0
IfFault answer says = IfErr answer (λ error. says (fault_of error))

-- if the call failed, the error is this fault
abbrev pub OnlyFault : {A : Type 0} → Result A Error → Fault → Type 0
OnlyFault answer fault = IfErr answer (λ error. fault_of error ≡ fault)

-- if the call failed, the error is `OutOfMemory`, without an offset
abbrev pub OnlyMemory : {A : Type 0} → Result A Error → Type 0
OnlyMemory answer = OnlyFault answer (fault_without_offset OutOfMemory)

-- if the call failed, the error is `Io`, without an offset
abbrev pub OnlyDevice : {A : Type 0} → Result A Error → Type 0
OnlyDevice answer = OnlyFault answer (fault_without_offset Io)

-- if the call succeeded and the bytes are known, this is true of them and of the value
abbrev pub IfRead : {A E : Type 0} → Result A E → (known : Option (List ℕ)) → (List ℕ → A → Type 0)
    → Type 0
IfRead answer known P = IfOk answer (λ value. IfSome known (λ bytes. P bytes value))

-- if the call succeeded and the bytes are known, it returned their meaning
abbrev pub DecodesBy : {A E : Type 0} → Result A E → (known : Option (List ℕ)) → (List ℕ → A)
    → Type 0
DecodesBy answer known meaning = IfRead answer known (λ bytes value. value ≡ meaning bytes)

-- if the call failed and the bytes are known, this is true of them and of the fault
abbrev pub IfRefused : {A : Type 0} → Result A Error → (known : Option (List ℕ))
    → (List ℕ → Fault → Type 0) → Type 0
IfRefused answer known P = IfErr answer (λ error. IfSome known (λ bytes. P bytes (fault_of error)))

-- `found` is the size, or `None` only if the size is 2^64 or more
abbrev pub IsSizeOrNone : (found : Option ℕ) → (size : ℕ) → Type 0
IsSizeOrNone found size = MatchOption found (2 ^ 64 ≤ size) (λ number. number ≡ size)
