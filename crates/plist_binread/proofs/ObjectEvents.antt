-- The event of an object that was decoded.
use Rattle.std.proofs.Common.{◌^◌, ◌-◌, ◌≡◌, ℕ, ◌+◌, ◌≤◌, Bool, true, false, List, length, take, drop, Option, None, Some, Result, Ok, Err, IfSome, refl, ap, sym, subst, ◌∙◌, arith}
use Rattle.std.specs.Prelude.{if◌then◌else◌, IsUtf8}
use Rattle.std.proofs.lemmas.List.{drop-drop}
use Rattle.std.proofs.lemmas.Option.{IfSome_then}
use Rattle.plist_base.specs.declared.error.Error.{Error}
use Rattle.plist_base.specs.Events.{PlainEvent, ScalarEvent, StartArray, StartDictionary}
use Rattle.plist_base.specs.Faults.{FaultKind}
use Rattle.plist_base.specs.Sources.{LiesAt}
use Rattle.plist_base.specs.Trees as trees
use Rattle.plist_base.specs.Object.{Object, Scalar, Array, Dictionary, Faulty, date, date_if_any, text}
use Rattle.plist_decode.specs.CountedContent.{content_means}
use Rattle.plist_decode.proofs.Contents.{text-utf8, text-not_utf8}
use Rattle.plist_decode.proofs.Decoding.{small_counted}
use Rattle.plist_decode.specs.Decoded.{FitsBefore, IsDecodedAs, content_size, small_count}
use Rattle.plist_binread.specs.ObjectEvents.{SetsContentAt, SetsDecoded, SetsEvent, SetsUnread, event_of_object}
use Rattle.plist_decode.specs.Decoding.{IsCollection, is_small_object, scalar_event_in}
use Rattle.plist_decode.specs.Packed.{is_small_event}
use Rattle.plist_decode.specs.declared.decoded.Content.{Content}
use Rattle.plist_decode.specs.declared.decoded.ContentKind.{ContentKind}
use Rattle.plist_decode.specs.declared.decoded.ContentKind.TheVariants as content_kind
use Rattle.plist_decode.specs.declared.decoded.Decoded.{Decoded}
use Rattle.plist_decode.specs.declared.decoded.Decoded.TheVariants as decoded
use Rattle.plist_decode.specs.declared.step_fault.StepFault.TheVariants as fault
use Rattle.plist_decode.specs.declared.head.Bounds.{Bounds}
use Rattle.plist_decode.proofs.NumberRuns.{take-drop-take}

pub fits_walk : (bounds : Bounds) (place : ℕ) (d : Decoded) → FitsBefore bounds.trailer place d
    → FitsBefore (2 ^ 64 - 1) 0 d
fits_walk bounds place (decoded.Small tag content) h = h
fits_walk bounds place (decoded.Date content) h = tt
fits_walk bounds place (decoded.Long kind start count) h = omega (arith, h, bounds.small)
fits_walk bounds place (decoded.Faulty fault marker) h = h
fits_walk bounds place (decoded.Collection kind start count) h =
    let small = bounds.small in (omega (arith, h.0, small), h.1)

-- ---- the event of an object

pub named-scalar : (object : Object) (scalar : trees.Scalar) (event : PlainEvent)
    → object ≡ Scalar scalar → event_of_object object ≡ Some event
    → scalar_event_in object ≡ Some event
named-scalar object scalar event is named =
    ap scalar_event_in is ∙ sym (ap event_of_object is) ∙ named

named-if : (b : Bool) (s : trees.Scalar) (k : FaultKind) (event : PlainEvent)
    → event_of_object (if b then Scalar s else Faulty k) ≡ Some event
    → scalar_event_in (if b then Scalar s else Faulty k) ≡ Some event
named-if true s k event h = h
named-if false s k event h = absurd (cc)

named-unless : (b : Bool) (s : trees.Scalar) (k : FaultKind) (event : PlainEvent)
    → event_of_object (if b then Faulty k else Scalar s) ≡ Some event
    → scalar_event_in (if b then Faulty k else Scalar s) ≡ Some event
named-unless true s k event h = absurd (cc)
named-unless false s k event h = h

named-content : (kind : ContentKind) (bytes : List ℕ) (event : PlainEvent)
    → event_of_object (content_means kind bytes) ≡ Some event
    → scalar_event_in (content_means kind bytes) ≡ Some event
named-content content_kind.Data bytes event h = h
named-content content_kind.Text bytes event h = named-if _ _ _ event h
named-content content_kind.WideText bytes event h = named-unless _ _ _ event h

pub named-long : (object : Object) (kind : ContentKind) (bytes : List ℕ) (event : PlainEvent)
    → object ≡ content_means kind bytes → event_of_object object ≡ Some event
    → scalar_event_in object ≡ Some event
named-long object kind bytes event is named =
    ap scalar_event_in is ∙ named-content kind bytes event (sym (ap event_of_object is) ∙ named)

pub named-date : (object : Object) (bytes : List ℕ) (event : PlainEvent) → object ≡ date bytes
    → event_of_object object ≡ Some event → scalar_event_in object ≡ Some event
named-date object bytes event is named =
    ap scalar_event_in is ∙ by _ (sym (ap event_of_object is) ∙ named)
  where
    by : (found : Option (List ℕ)) → event_of_object (date_if_any found) ≡ Some event
        → scalar_event_in (date_if_any found) ≡ Some event
    by None h = absurd (cc)
    by (Some bytes) h = h

pub collection-named : (object : Object) (start : PlainEvent) (count : ℕ)
    → IsCollection object start count → event_of_object object ≡ Some start
collection-named (Array items) start count h = ap Some (sym h.0)
collection-named (Dictionary pairs) start count h = ap Some (sym h.0)
collection-named (Scalar scalar) start count h = absurd h
collection-named (Faulty kind) start count h = absurd h

-- ---- a content

-- the event of a content that is borrowed is that of the content in the file
pub borrowed_sets : {A : Type 0} (known : Option (List ℕ)) (place : ℕ) (content : Content)
    (seen : List ℕ) (answer : Result A Error) (current : PlainEvent)
    → IfSome known (λ bytes. LiesAt bytes place seen)
    → content.start + content_size content ≤ length seen
    → SetsEvent (content_means content.kind (take (content_size content) (drop content.start seen)))
    place answer current
    → SetsContentAt known place content answer current
borrowed_sets known place content seen answer current lies within sets =
    IfSome_then known lies (λ bytes lies fits.
    let start = content.start in
    let size = content_size content in
    let e : take size (drop start seen) ≡ take size (drop (place + start) bytes) =
    ap (λ xs. take size (drop start xs)) lies
    ∙ take-drop-take start size (length seen) (drop place bytes) within
    ∙ ap (take size) (drop-drop start place bytes) in
    subst (λ xs. SetsEvent (content_means content.kind xs) place answer current) e sets)

-- a content's event is the event of the object that has this content
pub long_sets : {A : Type 0} (known : Option (List ℕ)) (bounds : Bounds) (place : ℕ)
    (content : Content) (answer : Result A Error) (current : PlainEvent)
    → place + content.start + content_size content ≤ bounds.trailer
    → SetsContentAt known place content answer current
    → SetsDecoded known bounds place (decoded.Long content.kind content.start content.count) answer
    current
long_sets known bounds place content answer current lies sets =
    IfSome_then known sets (λ bytes sets fits is.
    let n = content_size content in
    let there = is.1
    ∙ ap (λ xs. content_means content.kind (take n xs))
    (drop-drop content.start place (take bounds.trailer bytes))
    ∙ ap (content_means content.kind)
    (take-drop-take (place + content.start) n bounds.trailer bytes lies) in
    subst (λ object. SetsEvent object place answer current) (sym there)
    (sets (omega (arith, lies, fits))))

-- ---- a string

-- the event of a string in UTF-8
utf8_event : (bytes string : List ℕ) → string ≡ bytes → IsUtf8 bytes
    → event_of_object (text bytes) ≡ Some (ScalarEvent (trees.String string))
utf8_event bytes string same utf8 =
    ap event_of_object (text-utf8 bytes utf8)
    ∙ ap (λ content. Some (ScalarEvent (trees.String content))) (sym same)

-- bytes that are UTF-8 are set as a string
pub text_set : {A : Type 0} (bytes string : List ℕ) (value : A)
    → string ≡ bytes → IsUtf8 bytes
    → SetsUnread (text bytes) (Ok value) (ScalarEvent (trees.String string))
text_set bytes string value same utf8 = let is = utf8_event bytes string same utf8 in record {
  sets = λ details. is;
  fault = λ details start end. tt;
  never_io = λ details. tt;
}

-- bytes that aren't UTF-8 are a fault
pub text_refused : {A : Type 0} (bytes : List ℕ) (current : PlainEvent) → (IsUtf8 bytes → ⊥)
    → SetsUnread {A = A} (text bytes) (Err fault.NotUtf8) current
text_refused bytes current none = record {
  sets = λ details. (text-not_utf8 bytes none, refl);
  fault = λ details start end. record { placed = tt };
  never_io = λ details. tt;
}

-- ---- what is small

-- the event of an object is that of a small scalar only if the object is one
event_small : (object : Object) (event : PlainEvent) → event_of_object object ≡ Some event
    → is_small_event event ≡ is_small_object object
event_small (Scalar scalar) event is = let e : event ≡ ScalarEvent scalar = cc in ap is_small_event e
event_small (Array items) event is =
    let e : event ≡ StartArray (Some (length items)) = cc in ap is_small_event e
event_small (Dictionary pairs) event is =
    let e : event ≡ StartDictionary (Some (length pairs)) = cc in ap is_small_event e
event_small (Faulty kind) event is = absurd (cc)

-- if the event is that of a small scalar, the object was decoded as one
pub decoded_small : (width : ℕ) (bytes : List ℕ) (object : Object) (d : Decoded)
    (event : PlainEvent) → IsDecodedAs width bytes object d → event_of_object object ≡ Some event
    → is_small_event event ≡ true → small_count d ≡ 1
decoded_small width bytes object d event is named small =
    small_counted width bytes object d is (sym (event_small object event named) ∙ small)
