-- What is decoded from the bytes at an object's front, whatever follows them.
use Rattle.std.specs.Prelude.{◌≡◌, ℕ, ◌+◌, ◌*◌, ◌<◌, ◌≤◌, List, ◌∷◌, ◌++◌, length, take, drop, false, Option, IfSome, ⊤}
use Rattle.plist_base.specs.declared.error.Error.{Error}
use Rattle.plist_base.specs.Faults.{kind_of}
use Rattle.plist_base.specs.Packing.{IsPacked, content_bytes, unpacked}
use Rattle.plist_base.specs.Object.{Object, Scalar, Faulty, date, meaning_of_front, object_in}
use Rattle.plist_decode.specs.CountedContent.{content_means, unit_size}
use Rattle.plist_decode.specs.Decoding.{AreReferencesAt, IsCollection, IsRefusedAs, child_count, children_in, is_small_object, start_event}
use Rattle.plist_decode.specs.Reading.{bytes_at, object_at}
use Rattle.plist_decode.specs.StepFaults.{HasPlace, fault_kind}
use Rattle.plist_decode.specs.declared.decoded.Content.{Content}
use Rattle.plist_decode.specs.declared.decoded.Decoded.{Decoded}
use Rattle.plist_decode.specs.declared.decoded.Decoded.TheVariants as decoded
use Rattle.plist_decode.specs.declared.decoded.AfterMarker.{AfterMarker}
use Rattle.plist_decode.specs.declared.head.Bounds.{Bounds}

-- ---- what is decoded

-- the number of bytes in a content
abbrev pub content_size : Content → ℕ
content_size content = content.count * unit_size content.kind

-- the object, whose bytes up to the trailer are these, was decoded as this
abbrev pub IsDecodedAs : (width : ℕ) (bytes : List ℕ) → Object → Decoded → Type 0
IsDecodedAs width bytes object (decoded.Small tag content) =
    (object ≡ Scalar (unpacked tag content)) × IsPacked tag content
IsDecodedAs width bytes object (decoded.Date content) = object ≡ date (content_bytes content)
IsDecodedAs width bytes object (decoded.Long kind start count) =
    (start + count * unit_size kind ≤ length bytes) × (object
    ≡ content_means kind (take (count * unit_size kind) (drop start bytes)))
    × (is_small_object object ≡ false)
IsDecodedAs width bytes object (decoded.Collection kind start count) =
    IsCollection object (start_event kind count) (child_count kind count)
    × (child_count kind count ≤ length bytes) × (start < 16)
    × AreReferencesAt width bytes (children_in object) kind start
IsDecodedAs width bytes object (decoded.Faulty fault marker) =
    (object ≡ Faulty (kind_of (fault_kind fault marker))) × HasPlace fault

-- the object that begins with these bytes is decoded, whatever follows them before the trailer
abbrev pub DecodesSeen : (to_trailer width : ℕ) → (seen : List ℕ) → Decoded → Type 0
DecodesSeen to_trailer width seen decoded = (more : List ℕ) → length (seen ++ more) ≡ to_trailer
    → IsDecodedAs width (seen ++ more) (object_in width (seen ++ more)) decoded

-- like `DecodesSeen`, for an object whose first byte precedes `rest`
abbrev pub DecodesAfter : (width : ℕ) → (List ℕ → Object) → (rest : AfterMarker) → Decoded → Type 0
DecodesAfter width object rest decoded = (first : ℕ) (more : List ℕ)
    → length (rest.bytes.now ++ more) ≡ rest.to_trailer
    → IsDecodedAs width (first ∷ (rest.bytes.now ++ more)) (object (rest.bytes.now ++ more)) decoded

-- like `DecodesAfter`, for an object that has no references
abbrev pub DecodesScalar : (List ℕ → Object) → (rest : AfterMarker) → Decoded → Type 0
DecodesScalar object rest decoded = (width : ℕ) → DecodesAfter width object rest decoded

-- like `DecodesScalar`, for an object of a fixed size
abbrev pub DecodesFixed : (size : ℕ) → (List ℕ → Object) → (rest : AfterMarker) → Decoded → Type 0
DecodesFixed size meaning rest decoded = DecodesScalar (meaning_of_front size meaning) rest decoded

-- the object, whatever its bytes are, was decoded as this
abbrev pub MeansDecoded : Object → Decoded → Type 0
MeansDecoded object decoded = (width : ℕ) (bytes : List ℕ) → IsDecodedAs width bytes object decoded

-- 1 if a small scalar was decoded, or else 0
abbrev pub small_count : Decoded → ℕ
small_count (decoded.Small tag content) = 1
small_count other = 0

-- the counter rises by one if a small scalar was decoded
abbrev pub CountsSmall : {C : Type 0} → (counts : Type 0) → (count : C → ℕ) → (old new : C)
    → Decoded → Type 0
CountsSmall counts count old new decoded = counts → count new ≡ count old + small_count decoded

-- ---- at an offset

-- the object at this offset was decoded as this
abbrev pub IsDecodedThere : List ℕ → Bounds → (place : ℕ) → Decoded → Type 0
IsDecodedThere bytes bounds place decoded = IsDecodedAs bounds.reference_width
    (bytes_at bounds place bytes) (object_at bounds place bytes) decoded

-- if the bytes are known, the object at this offset was decoded
abbrev pub DecodesAt : (known : Option (List ℕ)) → Bounds → (place : ℕ) → Decoded → Type 0
DecodesAt known bounds place decoded = IfSome known (λ bytes. bounds.trailer ≤ length bytes
    → IsDecodedThere bytes bounds place decoded)

-- if the bytes are known, this is an error of the object at this offset
abbrev pub RefusesObjectAt : (known : Option (List ℕ)) → Bounds → (place : ℕ) → Error → Type 0
RefusesObjectAt known bounds place error = IfSome known (λ bytes. bounds.trailer ≤ length bytes
    → IsRefusedAs (object_at bounds place bytes) place error)

-- what was decoded at an offset ends before the trailer and has sizes in range
abbrev pub FitsBefore : (trailer place : ℕ) → Decoded → Type 0
FitsBefore trailer place (decoded.Small tag content) = IsPacked tag content
FitsBefore trailer place (decoded.Date content) = ⊤
FitsBefore trailer place (decoded.Long kind start count) =
    place + start + count * unit_size kind ≤ trailer
FitsBefore trailer place (decoded.Collection kind start count) =
    (child_count kind count ≤ trailer) × (start < 16)
FitsBefore trailer place (decoded.Faulty fault marker) = HasPlace fault
