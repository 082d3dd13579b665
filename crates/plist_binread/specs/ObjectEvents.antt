-- The event that an object yields once it is decoded, and what the walk stores of the object.
use Rattle.std.specs.Prelude.{◌≡◌, ℕ, ◌+◌, ◌≤◌, Bool, true, false, List, length, take, drop, Option, None, Some, Result, IfErr, IfSome, MatchResult}
use Rattle.plist_base.specs.declared.error.Error.{Error}
use Rattle.plist_base.specs.Events.{PlainEvent, StartArray, StartDictionary, ScalarEvent}
use Rattle.plist_base.specs.Faults.{IsNotIo, kind_of, error_kind_of}
use Rattle.plist_base.specs.Object.{Object, Scalar, Array, Dictionary, Faulty}
use Rattle.plist_decode.specs.CountedContent.{content_means}
use Rattle.plist_decode.specs.Decoded.{IsDecodedThere, content_size}
use Rattle.plist_decode.specs.Decoding.{IsRefusedAs}
use Rattle.plist_decode.specs.FaultOffsets.{ErrWithin}
use Rattle.plist_decode.specs.Reading.{object_at}
use Rattle.plist_decode.specs.StepFaults.{result_with}
use Rattle.plist_decode.specs.declared.decoded.Content.{Content}
use Rattle.plist_decode.specs.declared.decoded.Decoded.{Decoded}
use Rattle.plist_decode.specs.declared.decoded.Decoded.TheVariants as decoded
use Rattle.plist_decode.specs.declared.step_fault.FaultDetails.{FaultDetails}
use Rattle.plist_decode.specs.declared.step_fault.StepFault.{StepFault}
use Rattle.plist_decode.specs.declared.head.Bounds.{Bounds}

-- whether the object is faulty, so that it has no event
abbrev pub is_refused : Decoded → Bool
is_refused (decoded.Faulty fault marker) = true
is_refused other = false

-- the first event of an object, which is its start or its scalar, or `None` if it is faulty
abbrev pub event_of_object : Object → Option PlainEvent
event_of_object (Scalar scalar) = Some (ScalarEvent scalar)
event_of_object (Array items) = Some (StartArray (Some (length items)))
event_of_object (Dictionary pairs) = Some (StartDictionary (Some (length pairs)))
event_of_object (Faulty kind) = None

-- the current event is the first one of the object, or the result is an error of the object
abbrev pub SetsEvent : {A : Type 0} → Object → (place : ℕ) → Result A Error → (current : PlainEvent)
    → Type 0
SetsEvent object place answer current =
    MatchResult answer (λ _. event_of_object object ≡ Some current) (IsRefusedAs object place)

-- the current event is the first one of the object; or the result is an error of the object, with the
-- offset in the details, which isn't that of a failed read; it isn't kept
pub record SetsUnread {A : Type 0} (object : Object) (answer : Result A StepFault)
    (current : PlainEvent) : Type 0 where
  pub sets : (details : FaultDetails)
      → SetsEvent object details.place (result_with answer details) current
  pub fault : (details : FaultDetails) (start end : ℕ)
      → ErrWithin start end (result_with answer details)
  pub never_io : (details : FaultDetails)
      → IfErr (result_with answer details) (λ error. IsNotIo (kind_of (error_kind_of error)))

-- if the content lies within known bytes, the current event is that of its object
abbrev pub SetsContentAt : {A : Type 0} → (known : Option (List ℕ)) → (place : ℕ) → Content
    → Result A Error → (current : PlainEvent) → Type 0
SetsContentAt known place content answer current = IfSome known (λ bytes.
    place + content.start + content_size content ≤ length bytes
    → SetsEvent (content_means content.kind
    (take (content_size content) (drop (place + content.start) bytes))) place answer current)

-- over known bytes, the current event is the first one of the object that was decoded
abbrev pub SetsDecoded : {A : Type 0} → (known : Option (List ℕ)) → Bounds → (place : ℕ) → Decoded
    → Result A Error → (current : PlainEvent) → Type 0
SetsDecoded known bounds place decoded answer current = IfSome known (λ bytes.
    bounds.trailer ≤ length bytes → IsDecodedThere bytes bounds place decoded
    → SetsEvent (object_at bounds place bytes) place answer current)
