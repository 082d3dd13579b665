-- What is decoded from an object, and how an object can be faulty.
use Rattle.std.proofs.Common.{◌≡◌, false, true, refl, ℕ, suc, inl, inr, ◌+◌, ◌-◌, ◌*◌, ◌<◌, ◌≤◌, List, ◌∷◌, ◌++◌, length, take, drop, replicate, Option, None, Some, ap, sym, subst, ◌∙◌, arith}
use Rattle.std.proofs.lemmas.Bool.{cases_lt, false≢true, le-leb}
use Rattle.std.proofs.lemmas.List.{length-append, length-drop, length-take-le, drop-append-le}
use Rattle.std.proofs.lemmas.Option.{IfSome_then}
use Rattle.std.proofs.Math.ListN.{length-replicate}
use Rattle.std.proofs.Math.Seq.{take-length}
use Rattle.plist_base.specs.Trees as trees
use Rattle.plist_base.specs.Events.{PlainEvent}
use Rattle.plist_base.specs.Object.{Array, Dictionary, Faulty, Object, Scalar, date_if_any, length_in, object_in}
use Rattle.plist_decode.specs.CountedContent.{content_means, counted_with, unit_size}
use Rattle.plist_decode.specs.Decoded.{DecodesAt, DecodesSeen, FitsBefore, IsDecodedAs, MeansDecoded, small_count}
use Rattle.plist_decode.specs.Decoding.{IsCollection, is_small_object}
use Rattle.plist_decode.specs.Reading.{IsFrontAt, object_with}
use Rattle.plist_decode.specs.declared.decoded.ContentKind.{ContentKind}
use Rattle.plist_decode.specs.declared.decoded.Decoded.{Decoded}
use Rattle.plist_decode.specs.declared.decoded.Decoded.TheVariants as decoded
use Rattle.plist_decode.specs.declared.head.Bounds.{Bounds}
use Rattle.plist_decode.proofs.Lengths.{content_seen}
use Rattle.plist_decode.proofs.ObjectFronts.{known_front, object_front}

-- ---- strings and data

-- a string or data of which only the length was read is decoded as such
pub long_decoded : (kind : ContentKind) (low count first : ℕ) (rest following more : List ℕ)
    → length_in low (rest ++ more) ≡ Some (count, following ++ more)
    → count * unit_size kind ≤ length (following ++ more) → length following ≤ length rest
    → drop (length rest - length following) rest ≡ following
    → is_small_object (content_means kind (take (count * unit_size kind) (following ++ more))) ≡ false
    → (width : ℕ) → IsDecodedAs width (first ∷ (rest ++ more)) (counted_with kind low (rest ++ more))
    (decoded.Long kind (1 + (length rest - length following)) count)
long_decoded kind low count first rest following more is fits short lies large width =
    let k = length rest - length following in
    let next : 1 + k ≡ suc k = omega arith in
    let there : drop (1 + k) (first ∷ (rest ++ more)) ≡ following ++ more =
    rw next (drop-append-le k rest more (omega arith) ∙ ap (λ xs. xs ++ more) lies) in
    let means : counted_with kind low (rest ++ more)
    ≡ content_means kind (take (count * unit_size kind) (following ++ more)) =
    rw (is, le-leb (count * unit_size kind) (length (following ++ more)) fits) refl in (
      omega (arith, length-append rest more, length-append following more, fits, short),
      means ∙ ap (λ xs. content_means kind (take (count * unit_size kind) xs)) (sym there),
      ap is_small_object means ∙ large,
    )

-- an object that is this scalar was decoded as it
pub means_small : {found scalar : trees.Scalar} {object : Object} (d : Decoded) → found ≡ scalar
    → object ≡ Scalar scalar → MeansDecoded (Scalar found) d → MeansDecoded object d
means_small d same is means width bytes =
    subst (λ object. IsDecodedAs width bytes object d) (ap Scalar same ∙ sym is)
    (means width bytes)

-- if the content is among the bytes that were read, the object means what the content means
pub few_bytes : (kind : ContentKind) (low count size first : ℕ) (rest following bytes more : List ℕ)
    (answer : Decoded)
    → length_in low (rest ++ more) ≡ Some (count, following ++ more) → size ≡ count * unit_size kind
    → size ≤ length following → bytes ≡ take size following
    → MeansDecoded (content_means kind bytes) answer → (width : ℕ)
    → IsDecodedAs width (first ∷ (rest ++ more)) (counted_with kind low (rest ++ more)) answer
few_bytes kind low count size first rest following bytes more answer is same seen cut means width =
    let e : counted_with kind low (rest ++ more) ≡ content_means kind bytes =
    content_seen low (unit_size kind) count rest following more is (rw same at seen)
    (content_means kind)
    ∙ ap (content_means kind) (ap (λ k. take k following) (sym same) ∙ sym cut) in
    subst (λ object. IsDecodedAs width (first ∷ (rest ++ more)) object answer) (sym e)
    (means width (first ∷ (rest ++ more)))

-- ---- what is counted

date_large : (found : Option (List ℕ)) → is_small_object (date_if_any found) ≡ false
date_large None = refl
date_large (Some bytes) = refl

collection_large : (object : Object) (start : PlainEvent) (count : ℕ)
    → IsCollection object start count → is_small_object object ≡ false
collection_large (Array items) start count is = refl
collection_large (Dictionary pairs) start count is = refl
collection_large (Scalar scalar) start count is = absurd is
collection_large (Faulty kind) start count is = absurd is

-- a small scalar is decoded as one, and so it is counted
pub small_counted : (width : ℕ) (bytes : List ℕ) (object : Object) (d : Decoded)
    → IsDecodedAs width bytes object d → is_small_object object ≡ true → small_count d ≡ 1
small_counted width bytes object (decoded.Small tag content) is small = refl
small_counted width bytes object (decoded.Date content) is small =
    absurd (false≢true (sym (ap is_small_object is ∙ date_large _) ∙ small))
small_counted width bytes object (decoded.Long kind start count) is small =
    absurd (false≢true (sym is.2 ∙ small))
small_counted width bytes object (decoded.Collection kind start count) is small =
    absurd (false≢true (sym (collection_large object _ _ is.0) ∙ small))
small_counted width bytes object (decoded.Faulty fault marker) is small =
    absurd (false≢true (sym (ap is_small_object is.0) ∙ small))

-- ---- the bytes that were read

-- if the content is short, all of its bytes are among those that were read
pub content_enough : (size to_trailer rest following : ℕ) → (rest < 25 → to_trailer ≤ rest)
    → rest - following + size ≤ to_trailer → following ≤ rest → rest ≤ following + 9 → size ≤ 16 → size ≤ following
content_enough size to_trailer rest following shown within short near few = elim (cases_lt rest 25) [
  | inl less ↦ let whole = shown less in omega arith
  | inr more ↦ omega arith
]

-- ---- the bytes that were read of an object

-- the bytes that were read are a marker and the bytes after it
pub seen_after : (w m to_trailer : ℕ) (seen rest : List ℕ) (answer : Decoded) → seen ≡ m ∷ rest
    → ((first : ℕ) (more : List ℕ) → length (rest ++ more) ≡ to_trailer - 1
    → IsDecodedAs w (first ∷ (rest ++ more)) (object_with w m (rest ++ more)) answer)
    → DecodesSeen to_trailer w seen answer
seen_after w m to_trailer seen rest answer is means = λ more whole.
    let e : seen ++ more ≡ m ∷ (rest ++ more) = ap (λ xs. xs ++ more) is in
    let n : length (rest ++ more) ≡ to_trailer - 1 = omega (arith, ap length e, whole) in
    let o : object_in w (seen ++ more) ≡ object_with w m (rest ++ more) =
    object_front w m (seen ++ more) (rest ++ more) e in
    subst (λ object. IsDecodedAs w (seen ++ more) object answer) (sym o)
    (subst (λ all. IsDecodedAs w all (object_with w m (rest ++ more)) answer) (sym e)
    (means m more n))

-- if the bytes are known, the object at the offset is the one that was decoded
pub seen_decodes : (known : Option (List ℕ)) (bounds : Bounds) (place : ℕ) (seen : List ℕ)
    (answer : Decoded) → IsFrontAt known bounds place seen
    → DecodesSeen (bounds.trailer - place) bounds.reference_width seen answer
    → DecodesAt known bounds place answer
seen_decodes known bounds place seen answer front means =
    IfSome_then known front.lies (λ bytes is fits.
    let cut = known_front (Some bytes) seen seen bounds.trailer place _ front.front.within (omega arith)
    (sym (take-length _)) is fits in
    let to_trailer = ap length (sym cut.1) ∙ length-drop place (take bounds.trailer bytes)
    ∙ ap (λ m. m - place) (length-take-le bounds.trailer bytes fits) in
    subst (λ all. IsDecodedAs bounds.reference_width all (object_in bounds.reference_width all)
    answer) (sym cut.1)
    (means cut.0 to_trailer))

-- what was decoded ends before the trailer, whatever the bytes are
decoded_fits : (trailer place width : ℕ) (all : List ℕ) (object : Object) (d : Decoded)
    → place + length all ≤ trailer → IsDecodedAs width all object d → FitsBefore trailer place d
decoded_fits trailer place width all object (decoded.Small tag content) h is = is.1
decoded_fits trailer place width all object (decoded.Date content) h is = tt
decoded_fits trailer place width all object (decoded.Long kind start count) h is =
    omega (arith, h, is.0)
decoded_fits trailer place width all object (decoded.Collection kind start count) h is =
    (omega (arith, h, is.1), is.2)
decoded_fits trailer place width all object (decoded.Faulty fault marker) h is = is.1

pub seen_fits : (bounds : Bounds) (place : ℕ) (seen : List ℕ) (answer : Decoded)
    → place + length seen ≤ bounds.trailer
    → DecodesSeen (bounds.trailer - place) bounds.reference_width seen answer
    → FitsBefore bounds.trailer place answer
seen_fits bounds place seen answer h means =
    let k = bounds.trailer - place - length seen in
    let more = replicate k 0 in
    let n : length (seen ++ more) ≡ bounds.trailer - place =
    omega (arith, length-append seen more, length-replicate {A = ℕ} k 0, h) in
    decoded_fits bounds.trailer place bounds.reference_width (seen ++ more) _ answer
    (omega (arith, n, h)) (means more n)
