-- What a walk has stored about the file's objects, and how each step changes it.
use Rattle.std.proofs.Common.{◌≡◌, ℕ, ◌-◌, ◌<◌, ◌≤◌, inl, inr, true, false, nat_eq, List, [], ◌∷◌, ◌++◌, length, take, drop, get_or, slice_set, Option, Some, Ok, Err, IfSome, refl, ap, sym, subst, ◌∙◌, arith}
use Rattle.std.specs.Prelude.{⊤}
use Rattle.std.specs.List.{AllByRecursion, slice_get}
use Rattle.std.proofs.lemmas.Bool.Decides.{eqb_tells, nat_tests}
use Rattle.std.proofs.lemmas.List.{get_or-set_same, get_or-set_other}
use Rattle.plist_base.specs.declared.error.Error.{Error}
use Rattle.plist_base.specs.Faults.{Fault, FaultKind, OutOfMemory, ObjectReferenceTooLarge, RecursiveObject, MatchFault, fault_of, fault_at, fault_without_offset}
use Rattle.plist_base.specs.Events.{PlainEvent, Item}
use Rattle.plist_base.proofs.Refusals.{MatchFault-at, MatchFault-weaker}
use Rattle.plist_binread.specs.declared.frames.Frame.{Frame}
use Rattle.plist_decode.specs.Decoded.{DecodesAt, IsDecodedAs}
use Rattle.plist_decode.specs.Reading.{object_at, bytes_at}
use Rattle.plist_decode.specs.declared.decoded.Decoded.{Decoded}
use Rattle.plist_decode.specs.declared.decoded.Decoded.TheVariants as decoded
use Rattle.plist_binread.specs.Step.{IsCollectionStart}
use Rattle.plist_binread.specs.Walking.{IsWalkOf, walk_objects}
use Rattle.plist_binread.specs.declared.walk.Walk.{Walk}
use Rattle.plist_decode.specs.declared.head.Bounds.{Bounds}
use Rattle.plist_base.specs.Object.{Object, object_in}
use Rattle.plist_base.specs.Packing.{unpacked}
use Rattle.plist_decode.specs.Packed.{is_marked, open_tag, unmarked, KeepsOtherTags}
use Rattle.plist_decode.specs.declared.decoded.CollectionKind.{CollectionKind}
use Rattle.plist_binread.proofs.Tags.{cached_closed, open_tag-kind, open_tag-marked, open_tag-start, open_uncached}
use Rattle.plist_base.specs.Container.{head_of}
use Rattle.plist_base.specs.Unfolding.{TableEntry, unfolding_of, until_fault}
use Rattle.plist_binread.specs.Remaining.{children_at, place_at, scalar_at, path_of, MarksOpenPath, IsHeld, LocatesReferences, MatchesFile, places_with, entries_of, remaining_items, Explains}
use Rattle.plist_decode.specs.Decoding.{AreReferencesAt, IsCollection, IsRefusedAs, children_in, scalar_event_in, scalar_in}
use Rattle.plist_binread.proofs.WalkSteps.{collection_count, items_beyond, items_open, yields_refused, yields_scalar, refused_memory}
use Rattle.plist_base.proofs.Tables.{slice_get-within, slice_get-beyond, length-table_of}
use Rattle.std.proofs.lemmas.Option.{IfSome_then}
use Rattle.std.proofs.lemmas.Bool.{eqb-false, false≢true}

not_zero : (t : ℕ) → 0 < t → nat_eq t 0 ≡ false
not_zero t h = grind (arith, nat_tests)

module _ (bytes : List ℕ) (bounds : Bounds) where
  abbrev table : List TableEntry
  table = entries_of bytes bounds

  -- what is stored about an object is true of its entry
  abbrev IsStored : Option TableEntry → (tag content : ℕ) → Type 0
  IsStored entry tag content = IsHeld entry tag content × LocatesReferences bytes bounds entry tag

  -- the entry of a number: the object's offset, and the object there
  abbrev pub entry_of : ℕ → TableEntry
  entry_of number =
      record {
        place = get_or (places_with (head_of bytes)) number 0;
        object = object_in bounds.reference_width
            (drop (get_or (places_with (head_of bytes)) number 0) (take bounds.trailer bytes));
      }

  pub found : (number : ℕ) → number < length (places_with (head_of bytes))
      → slice_get table number ≡ Some (entry_of number)
  found number h =
      slice_get-within _ _ _ _ h

module _ {bytes : List ℕ} {bounds : Bounds} {tags contents : List ℕ} {fs : List Frame}
    (k : MatchesFile bytes bounds tags contents fs) where
  abbrev entries : List TableEntry
  entries = entries_of bytes bounds

  pub as_many : length entries ≡ length tags
  as_many = length-table_of _ _ _ ∙ k.size

  pub entry_there : (number : ℕ) → number < length tags
      → slice_get entries number ≡ Some (entry_of bytes bounds number)
  entry_there number h = found bytes bounds _ (rw k.size h)

  -- the content of an object that isn't cached is the object's offset
  pub held_place : (number : ℕ) → number < length tags → unmarked (get_or tags number 0) ≡ 0
      → get_or contents number 0 ≡ place_at (slice_get entries number)
  held_place number h none = rw none at (k.held _ h)

  -- the tag and the content of a cached object encode its scalar
  pub held_scalar : (number : ℕ) → number < length tags → 0 < unmarked (get_or tags number 0)
      → scalar_in (entry_of bytes bounds number).object
      ≡ Some (unpacked (get_or tags number 0) (get_or contents number 0))
  held_scalar number h some =
      sym (ap scalar_at (entry_there number h)) ∙ rw (not_zero _ some) at (k.held number h)

  -- a walk with other tags, contents and open collections is a walk over the file, if these
  -- are right
  pub known_with : (new others : List ℕ) (gs : List Frame) → length new ≡ length tags
      → ((q : ℕ) → q < length tags → IsStored bytes bounds (slice_get entries q) (get_or new q 0)
      (get_or others q 0))
      → AllByRecursion (λ f. length (children_at (slice_get entries f.object)) ≡ f.count) gs
      → MatchesFile bytes bounds new others gs
  known_with new others gs size stored counts = record {
    head = k.head;
    within = k.within;
    size = k.size ∙ sym size;
    held = λ q less. (stored q (rw size at less)).0;
    refers = λ q less. (stored q (rw size at less)).1;
    counts = counts;
  }

  -- the tags and contents of all other objects are right
  kept_others : (number : ℕ) (new others : List ℕ) → KeepsOtherTags number tags new
      → ((q : ℕ) → nat_eq q number ≡ false → get_or others q 0 ≡ get_or contents q 0)
      → IsStored bytes bounds (slice_get entries number) (get_or new number 0) (get_or others number 0)
      → (q : ℕ) → q < length tags
      → IsStored bytes bounds (slice_get entries q) (get_or new q 0) (get_or others q 0)
  kept_others number new others m same here q less = elim (eqb_tells q number) [
    | inl e ↦ rw e.1 here
    | inr e ↦ rw (m.others q e.0, same q e.0) (k.held q less, k.refers q less)
  ]

  -- after one more object was opened, the walk is still one over the file
  pub known_opened : (new : List ℕ) (f : Frame) (kind : CollectionKind) (first : ℕ)
      (start : PlainEvent) (entry : TableEntry) → f.object < length tags
      → unmarked (get_or tags f.object 0) ≡ 0 → KeepsOtherTags f.object tags new
      → get_or new f.object 0 ≡ open_tag kind first → first < 16
      → slice_get entries f.object ≡ Some entry → IsCollection entry.object start f.count
      → AreReferencesAt bounds.reference_width (bytes_at bounds entry.place bytes)
      (children_in entry.object) kind first
      → MatchesFile bytes bounds new contents (f ∷ fs)
  known_opened new f kind first start entry less none m tag small is collection refers =
      known_with new contents (f ∷ fs) m.size (kept_others f.object new contents m (λ q _. refl) (
        rw (open_uncached _ (ap is_marked tag ∙ open_tag-marked kind first))
            (held_place f.object less none),
        λ _. rw (is, tag, open_tag-kind kind first small, open_tag-start kind first small)
            refers,
      ))
      (rw is (collection_count entry.object start f.count collection), k.counts)

  -- after an object was closed, the walk is still one over the file
  pub known_closed : (new : List ℕ) (f : Frame) → f.object < length tags
      → is_marked (get_or tags f.object 0) ≡ true → KeepsOtherTags f.object tags new
      → get_or new f.object 0 ≡ 0
      → (gs : List Frame) → AllByRecursion
      (λ f. length (children_at (slice_get entries f.object)) ≡ f.count) gs
      → MatchesFile bytes bounds new contents gs
  known_closed new f less marked m tag gs counts =
      known_with new contents gs m.size (kept_others f.object new contents m (λ q _. refl) (
        rw (ap unmarked tag) (held_place f.object less (open_uncached _ marked)),
        λ marked. absurd (cc),
      )) counts

  -- after one more object was cached, the walk is still one over the file
  pub known_cached : (number tag content : ℕ) (new : List ℕ)
      → number < length tags → length contents ≡ length tags
      → KeepsOtherTags number tags new → get_or new number 0 ≡ tag → 0 < unmarked tag
      → scalar_at (slice_get entries number) ≡ Some (unpacked tag content)
      → MatchesFile bytes bounds new (slice_set contents number content) fs
  known_cached number tag content new h same m here some is =
      let others = slice_set contents number content in
      let entry = slice_get entries number in
      known_with new others fs m.size
      (kept_others number new others m
      (λ q e. get_or-set_other contents number q content 0 (eqb-false q number e)) (
        subst (λ t. IsHeld entry t (get_or others number 0)) (sym here)
            (subst (IsHeld entry tag)
            (sym (get_or-set_same contents number content 0 (rw same h)))
            (rw (not_zero _ some) is)),
        λ marked. absurd (false≢true
            (sym (cached_closed tag some) ∙ sym (ap is_marked here) ∙ marked)),
      )) k.counts

  -- ---- an object that isn't entered

  module _ (o : MarksOpenPath tags fs) (at number : ℕ) where
    abbrev before : List Item
    before = unfolding_of entries (length tags - length fs) (path_of fs) at number
        ++ remaining_items entries fs

    explained : (kind : FaultKind) (offset : Option ℕ) (e : Error)
        → fault_of e ≡ record { kind = kind; offset = offset } → MatchFault kind ⊥ ⊥ ⊤
        → unfolding_of entries (length tags - length fs) (path_of fs) at number
        ≡ Err (record { kind = kind; offset = offset }) ∷ [] → Explains (until_fault before) e
    explained kind offset e is inside only =
        MatchFault-at _ _ _ _ _ (ap (λ (f : Fault). f.kind) is)
        (MatchFault-weaker kind (λ none. absurd none) (λ none. absurd none)
        (λ _. ap (λ items. until_fault (items ++ remaining_items entries fs))
        (only ∙ ap (λ f. Err f ∷ []) (sym is))) inside)

    -- no object has this number
    pub unfound_beyond : (e : Error) → length tags ≤ number
        → fault_of e ≡ fault_at ObjectReferenceTooLarge at → Explains (until_fault before) e
    unfound_beyond e h is =
        explained _ _ e is tt
        (items_beyond _ _ _ at number
        (slice_get-beyond _ (places_with (head_of bytes)) _
        _ (rw k.size h)))

    -- the object of this number is open
    pub unfound_open : (e : Error) → number < length tags
        → is_marked (get_or tags number 0) ≡ true
        → fault_of e ≡ fault_at RecursiveObject (get_or contents number 0)
        → Explains (until_fault before) e
    unfound_open e h marked is =
        explained _ _ e is tt
        (items_open _ _ _ at number (entry_of bytes bounds _)
        (entry_there _ h) (cc (o.marks number h))
        ∙ ap (λ p. Err (fault_at RecursiveObject p) ∷ [])
        (sym (held_place _ h (open_uncached _ marked) ∙ ap place_at (entry_there _ h))))

    module _ (h : number < length tags) (free : is_marked (get_or tags number 0) ≡ false) where
      -- the object of this number is a scalar, whose event is the first item that remains
      pub found_scalar : (event : PlainEvent)
          → scalar_event_in (entry_of bytes bounds number).object ≡ Some event
          → until_fault before ≡ Ok event ∷ until_fault (remaining_items entries fs)
      found_scalar = yields_scalar entries tags as_many fs at number (entry_of bytes bounds number) o h
          (entry_there number h) (sym (o.marks number h) ∙ free)

      pub found_refused : (e : Error)
          → IsRefusedAs (entry_of bytes bounds number).object (entry_of bytes bounds number).place e
          → Explains (until_fault before) e
      found_refused = yields_refused entries tags as_many fs at number (entry_of bytes bounds number) o h
          (entry_there number h) (sym (o.marks number h) ∙ free)

-- ---- over bytes that may be unknown

-- the object isn't cached, and lies at this offset
abbrev pub IsPlaceIn : Walk → (number place : ℕ) → Type 0
IsPlaceIn walk number place = (unmarked (get_or walk.tags.items number 0) ≡ 0)
    × (place ≡ get_or walk.contents.items number 0)

pub place_is : (bytes : List ℕ) (bounds : Bounds) (walk : Walk) → IsWalkOf bytes bounds walk
    → (number place : ℕ) → number < walk_objects walk → IsPlaceIn walk number place
    → place ≡ (entry_of bytes bounds number).place
place_is bytes bounds walk k number place h is = cc (held_place k number h is.0, entry_there k number h)

-- an allocation for a collection failed
pub known_full : (known : Option (List ℕ)) (bounds : Bounds) (place : ℕ) (d : Decoded) (e : Error)
    → fault_of e ≡ fault_without_offset OutOfMemory → IsCollectionStart d
    → DecodesAt known bounds place d → IfSome known (λ bytes. bounds.trailer ≤ length bytes
    → IsRefusedAs (object_at bounds place bytes) place e)
known_full known bounds place d e memory wanted decodes =
    IfSome_then known decodes (λ bytes decodes fits. by _ _ _ d wanted (decodes fits))
  where
    by : (width : ℕ) (all : List ℕ) (object : Object) (d : Decoded) → IsCollectionStart d
        → IsDecodedAs width all object d → IsRefusedAs object place e
    by width all object (decoded.Collection kind start count) wanted h =
        refused_memory object place e _ _ memory h.0
    by width all object other wanted h = absurd wanted
