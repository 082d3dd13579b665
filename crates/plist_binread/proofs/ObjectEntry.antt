-- What is true when an object is entered.
use Rattle.std.proofs.Common.{cond, ◌≡◌, ℕ, ◌<◌, ◌≤◌, false, List, length, get_or, Option, Some, Result, Ok, Err, IfSome, ap, subst, sym, ◌∙◌}
use Rattle.std.specs.List.{slice_get}
use Rattle.std.specs.Option.{option_map}
use Rattle.plist_base.specs.Events.{PlainEvent, ScalarEvent}
use Rattle.plist_base.specs.declared.error.Error.{Error}
use Rattle.plist_decode.specs.Reading.{bytes_at, object_at}
use Rattle.plist_decode.specs.declared.decoded.ContentKind.{ContentKind}
use Rattle.plist_decode.specs.declared.decoded.Decoded.{Decoded}
use Rattle.plist_decode.specs.declared.decoded.Decoded.TheVariants as decoded
use Rattle.plist_decode.specs.declared.step_fault.FaultDetails.{FaultDetails}
use Rattle.plist_decode.specs.declared.step_fault.StepFault.{StepFault}
use Rattle.plist_decode.specs.StepFaults.{result_with}
use Rattle.std.specs.Prelude.{OnOk}
use Rattle.plist_decode.specs.declared.head.Bounds.{Bounds}
use Rattle.plist_binread.specs.declared.walk.Walk.{Walk}
use Rattle.plist_binread.specs.Walking.{IsCachedIfSmall, IsKnownWalk, IsWalkOf, remaining_entering, remaining_in, walk_objects}
use Rattle.plist_binread.specs.Remaining.{Explains, entries_of}
use Rattle.plist_decode.specs.Decoded.{DecodesAt, IsDecodedThere, RefusesObjectAt, small_count}
use Rattle.plist_binread.specs.ObjectEvents.{SetsDecoded, SetsEvent, event_of_object, is_refused}
use Rattle.plist_decode.specs.Decoding.{IsRefusedAs}
use Rattle.plist_binread.specs.Step.{YieldsResult, YieldsCurrent, OpensObject}
use Rattle.plist_base.specs.Unfolding.{until_fault}
use Rattle.plist_base.specs.Packing.{unpacked}
use Rattle.plist_decode.specs.Packed.{is_marked, unmarked}
use Rattle.plist_binread.proofs.ObjectEvents.{decoded_small, named-long}
use Rattle.plist_binread.proofs.OpenObjects.{not_open}
use Rattle.plist_binread.proofs.WalkSteps.{yields_scalar}
use Rattle.plist_binread.proofs.WalkInvariant.{IsPlaceIn, as_many, entry_of, entry_there, found_refused, found_scalar, held_scalar, place_is}
use Rattle.std.proofs.lemmas.Option.{IfSome_then}
use Rattle.plist_decode.proofs.UnknownBytes.{IfSome-all, IfSome-both, IfSome-three}

-- the object of this number, which lies at `place`, was decoded as `d`
pub record IsDecodedAt (bytes : List ℕ) (bounds : Bounds) (number place : ℕ) (d : Decoded) : Type 0
  where
    pub entry : slice_get (entries_of bytes bounds) number ≡ Some (entry_of bytes bounds number)
    pub at_place : place ≡ (entry_of bytes bounds number).place
    pub within : bounds.trailer ≤ length bytes
    pub decoded : IsDecodedThere bytes bounds place d

-- the object of this number was decoded
entered : (bytes : List ℕ) (bounds : Bounds) (number place : ℕ) (d : Decoded)
    → IsDecodedAt bytes bounds number place d
    → IsDecodedThere bytes bounds (entry_of bytes bounds number).place d
entered bytes bounds number place d t =
    subst (λ p. IsDecodedThere bytes bounds p d) t.at_place t.decoded

-- a string or data of which only the length was decoded is entered without a change of the walk
pub long_opens : (number start count : ℕ) (kind : ContentKind) (walk : Walk)
    → number < walk_objects walk → get_or walk.tags.items number 0 ≡ 0
    → OpensObject number (decoded.Long kind start count) walk walk
long_opens number start count kind walk below new bytes bounds entry k is found = (
  (λ at event _ named. yields_scalar _ _ (as_many k) _ at _ _ walk.path below is
      (not_open walk.path below new) event (named-long entry.object _ _ event found.1 named)),
  k,
)

-- the walk has stored this tag and this content for an object
pub record IsStoredAs (walk : Walk) (number tag content : ℕ) : Type 0 where
  pub below : number < walk_objects walk
  pub tag_is : tag ≡ get_or walk.tags.items number 0
  pub content_is : content ≡ get_or walk.contents.items number 0

-- an object with a tag is cached unless it is open
pub tagged : {walk : Walk} {number tag content : ℕ} → IsStoredAs walk number tag content → 0 < tag
    → is_marked tag ≡ false → (is_marked (get_or walk.tags.items number 0) ≡ false)
    × (0 < unmarked (get_or walk.tags.items number 0))
tagged {tag = tag} s some free =
    let same : unmarked tag ≡ tag = ap (λ b. cond {A = ℕ} b 0 tag) free in
    (ap is_marked (sym s.tag_is) ∙ free, subst (λ t. 0 < unmarked t) s.tag_is (rw same some))

-- an object without a tag lies at the offset that is stored for it
pub placed : {walk : Walk} {number tag content : ℕ} → IsStoredAs walk number tag content → tag ≡ 0
    → (number < walk_objects walk) × (is_marked (get_or walk.tags.items number 0) ≡ false)
    × IsPlaceIn walk number content
placed s none = (
  s.below,
  ap is_marked (sym s.tag_is ∙ none),
  (ap unmarked (sym s.tag_is ∙ none), s.content_is),
)

-- a true statement is true after `Ok`
pub always_ok : {A E : Type 0} (P : Type 0) (answer : Result A E) → P → OnOk answer P
always_ok P (Ok value) p = p
always_ok P (Err error) p = tt

-- what is true after `Ok` is true of the result with its error
pub on_answer : {A : Type 0} (P : Type 0) (answer : Result A StepFault) (details : FaultDetails)
    → OnOk answer P → OnOk (result_with answer details) P
on_answer P (Ok value) details h = h
on_answer P (Err fault) details h = tt

module _ (known : Option (List ℕ)) (bounds : Bounds) (walk : Walk) (number : ℕ)
    (k : IsKnownWalk known bounds walk) (h : number < walk_objects walk) where
  -- the event of a scalar that is cached is the first item that remains
  pub known_unpacked : (at : ℕ) → is_marked (get_or walk.tags.items number 0) ≡ false
      → 0 < unmarked (get_or walk.tags.items number 0)
      → IfSome known (λ bytes. YieldsCurrent (remaining_entering bytes bounds walk at number)
      (ScalarEvent (unpacked (get_or walk.tags.items number 0) (get_or walk.contents.items number 0)))
      (remaining_in bytes bounds walk))
  known_unpacked at free cached = IfSome_then known k (λ bytes k.
      found_scalar k walk.path at number h free _
      (ap (option_map ScalarEvent) (held_scalar k number h cached)))

  -- the error of an object is possible in place of its first item
  pub known_refused : (at place : ℕ) (e : Error)
      → is_marked (get_or walk.tags.items number 0) ≡ false → IsPlaceIn walk number place
      → RefusesObjectAt known bounds place e → IfSome known (λ bytes. Explains (until_fault (remaining_entering bytes bounds walk at number))
      e)
  known_refused at place e free is refused = IfSome-both known k refused (λ bytes k refused.
      found_refused k walk.path at number h free e
      (rw (place_is bytes bounds walk k number place h is) at (refused k.within)))

  -- the object of this number was decoded from the bytes at its offset
  pub known_decoded : (place : ℕ) (d : Decoded) → IsPlaceIn walk number place
      → DecodesAt known bounds place d → IfSome known (λ bytes. IsDecodedAt bytes bounds number place d)
  known_decoded place d is decodes = IfSome-both known k decodes (λ bytes k decodes. record {
    entry = entry_there k number h;
    at_place = place_is bytes bounds walk k number place h is;
    within = k.within;
    decoded = decodes k.within;
  })

  -- the event of the object is the first item that remains, or the result is the error of the
  -- object
  pub known_set : {A : Type 0} (at place : ℕ) (d : Decoded) (new : Walk) (now : Option (List ℕ))
      (answer : Result A Error) (current : PlainEvent) → now ≡ known
      → is_marked (get_or walk.tags.items number 0) ≡ false
      → IfSome known (λ bytes. IsDecodedAt bytes bounds number place d)
      → OpensObject number d walk new → SetsDecoded now bounds place d answer current
      → OnOk answer (is_refused d ≡ false)
      → IfSome known (λ bytes. YieldsResult (remaining_entering bytes bounds walk at number) answer
      current (remaining_in bytes bounds new))
  known_set {A = A} at place d new now answer current same free there opens sets found =
      IfSome-three known k there (rw same at sets) (λ bytes k t sets.
      by bytes k t (opens bytes bounds (entry_of bytes bounds number) k t.entry
      (entered bytes bounds number place d t)).0 answer found (sets t.within t.decoded))
    where
      by : (bytes : List ℕ) → IsWalkOf bytes bounds walk → IsDecodedAt bytes bounds number place d
          → ((at : ℕ) (event : PlainEvent) → is_refused d ≡ false
          → event_of_object (entry_of bytes bounds number).object ≡ Some event
          → YieldsCurrent (remaining_entering bytes bounds walk at number) event
          (remaining_in bytes bounds new))
          → (answer : Result A Error) → OnOk answer (is_refused d ≡ false)
          → SetsEvent (object_at bounds place bytes) place answer current
          → YieldsResult (remaining_entering bytes bounds walk at number) answer current
          (remaining_in bytes bounds new)
      by bytes k t yields (Ok value) found sets =
          yields at current found
          (subst (λ p. event_of_object (object_at bounds p bytes) ≡ Some current) t.at_place sets)
      by bytes k t yields (Err e) found sets =
          found_refused k walk.path at number h free e
          (subst (λ p. IsRefusedAs (object_at bounds p bytes) p e) t.at_place sets)

  -- the object is cached if the event is that of a small scalar
  pub known_cached : {A : Type 0} (place : ℕ) (d : Decoded) (now : Option (List ℕ))
      (answer : Result A Error) (current : PlainEvent) (tags : List ℕ) → now ≡ known
      → IfSome known (λ bytes. IsDecodedAt bytes bounds number place d)
      → SetsDecoded now bounds place d answer current
      → (small_count d ≡ 1 → 0 < unmarked (get_or tags number 0))
      → IfSome known (λ _. IsCachedIfSmall (λ _. current) (Some number) (Some answer) tags)
  known_cached place d now (Err error) current tags same there sets caches =
      IfSome-all known (λ _. tt)
  known_cached place d now (Ok value) current tags same there sets caches =
      IfSome-both known there (rw same at sets) (λ bytes t sets small. caches
      (decoded_small bounds.reference_width (bytes_at bounds place bytes)
      (object_at bounds place bytes) d current t.decoded (sets t.within t.decoded) small))

  -- after the object was entered, the walk is still one over the file
  pub known_opens : (place : ℕ) (d : Decoded) (new : Walk)
      → IfSome known (λ bytes. IsDecodedAt bytes bounds number place d)
      → OpensObject number d walk new → IfSome known (λ bytes. IsWalkOf bytes bounds new)
  known_opens place d new there opens = IfSome-both known k there (λ bytes k t.
      (opens bytes bounds (entry_of bytes bounds number) k t.entry
      (entered bytes bounds number place d t)).1)
