-- The first item of a file.
use Rattle.std.proofs.Common.{◌≡◌, ℕ, suc, ◌<◌, ◌≤◌, ◌-◌, get_or, replicate, List, [], ◌∷◌, ◌++◌, length, reverse, inl, inr, Option, Some, Result, Ok, Err, IfSome, MatchResult, refl, ap, sym, ◌∙◌, arith, append-nil}
use Rattle.std.specs.Prelude.{⊤}
use Rattle.std.specs.List.{slice_get}
use Rattle.std.proofs.lemmas.Bool.{cases_lt}
use Rattle.std.proofs.Math.ListN.{length-replicate}
use Rattle.plist_base.specs.declared.error.Error.{Error}
use Rattle.plist_base.specs.Visits.{Flow}
use Rattle.plist_base.specs.Faults.{Fault, OutOfMemory, MatchFault, fault_without_offset, kind_of, error_kind_of, fault_of}
use Rattle.plist_base.specs.Events.{PlainEvent, Item}
use Rattle.plist_base.proofs.Refusals.{MatchFault-all, MatchFault-at, MatchFault-weaker}
use Rattle.plist_binread.specs.declared.frames.Frame.{Frame}
use Rattle.plist_decode.specs.declared.head.Head as code
use Rattle.plist_base.specs.Container.{Head, head_of}
use Rattle.plist_base.specs.Object.{Object}
use Rattle.plist_base.specs.Unfolding.{table_of, items_of, unfolding_of, until_fault, items_with, items_of_file}
use Rattle.plist_decode.specs.declared.head.Bounds.{Bounds}
use Rattle.plist_binread.specs.Remaining.{path_of, remaining_items, entries_of, places_with, CountsObjects, IsHeld, MatchesFile, SomeRemain, AllocatesFirst}
use Rattle.plist_binread.specs.Step.{RefusesFirst, YieldsResult}
use Rattle.plist_decode.specs.declared.step_fault.FaultDetails.{FaultDetails}
use Rattle.plist_decode.specs.declared.step_fault.StepFault.{StepFault}
use Rattle.plist_binread.specs.Walking.{IsCachedIfSmall, root_with, walk_objects}
use Rattle.plist_binread.specs.declared.walk.Walk.{Walk}
use Rattle.plist_decode.specs.Packed.{is_marked}
use Rattle.plist_decode.specs.StepFaults.{error_of, result_with}
use Rattle.plist_decode.specs.inner.Heads.{head_seen}
use Rattle.plist_binread.proofs.WalkSteps.{items_beyond, items_step, remaining_at}
use Rattle.plist_base.proofs.Tables.{slice_get-within, slice_get-beyond}
use Rattle.plist_binread.proofs.OpenObjects.{get_or-zeros}
use Rattle.plist_binread.proofs.WalkInvariant.{found}
use Rattle.std.proofs.lemmas.Option.{IfSome_then}
use Rattle.plist_decode.proofs.UnknownBytes.{IfSome-all, IfSome-both}
use Rattle.std.proofs.lemmas.List.{nil_from_length}

-- if the first item may need memory, some items remain
pub remaining_if_wanted : (items : List Item) → AllocatesFirst items → SomeRemain items
remaining_if_wanted [] h = absurd h
remaining_if_wanted (item ∷ items) h = omega arith

remaining_alone : (object : Object) (place : ℕ) (child : ℕ → List Item)
    → SomeRemain (until_fault (items_of place object child))
remaining_alone object place child =
    rw (← append-nil (items_of place object child)) (remaining_at object place child [])

-- the items of a reference begin with some item
unfolding_remaining : (before places : List ℕ) (width at i : ℕ)
    → SomeRemain (until_fault (unfolding_of (table_of before width places) (length places) [] at i))
unfolding_remaining before [] width at i =
    rw (items_beyond (table_of before width []) 0 [] at i
    (slice_get-beyond before [] width i (omega arith))) (omega arith)
unfolding_remaining before (p ∷ places) width at i = elim (cases_lt i (length (p ∷ places))) [
  | inl low ↦ rw (items_step (table_of before width (p ∷ places)) (length places) [] at i _
      (slice_get-within before (p ∷ places) _ i low) refl) (remaining_alone _ _ _)
  | inr high ↦ rw (items_beyond (table_of before width (p ∷ places)) (suc (length places)) [] at i
      (slice_get-beyond before (p ∷ places) width i high)) (omega arith)
]

-- a file has some item
remaining_with : (bytes : List ℕ) (head : Result Head Fault) → SomeRemain (items_with bytes head)
remaining_with bytes (Err fault) = omega arith
remaining_with bytes (Ok head) =
    unfolding_remaining _ _ _ _ _

remaining_file : (bytes : List ℕ) → SomeRemain (items_of_file bytes)
unfolding items_of_file
remaining_file bytes = remaining_with _ _

-- if the head has a fault, this is the only item of the file
file_refused : (bytes : List ℕ) (fault : Fault) → head_of bytes ≡ Err fault
    → items_of_file bytes ≡ Err fault ∷ []
unfolding items_of_file
file_refused bytes fault is = rw is refl

module _ (bytes : List ℕ) (head : code.Head) (bounds : Bounds)
    (is : head_of bytes ≡ Ok (head_seen head)) (trailer : bounds.trailer ≡ head.trailer)
    (width : bounds.reference_width ≡ head.reference_width) where
  file_walked : items_of_file bytes
      ≡ until_fault (unfolding_of (entries_of bytes bounds) (length head.places.items) []
      head.trailer head.root)
  unfolding items_of_file
  file_walked = rw (is, trailer, width) refl

  -- after the head was read, the walk stores the offset of each object
  known_first : (tags : List ℕ) (n : ℕ) → tags ≡ replicate n 0 → n ≡ length head.places.items
      → head.trailer ≤ length bytes → MatchesFile bytes bounds tags head.places.items []
  known_first tags n zeros count within = record {
    head = rw is (trailer, width);
    within = rw trailer within;
    size = ap (λ head. length (places_with head)) is
        ∙ sym (ap length zeros ∙ length-replicate n 0 ∙ count);
    held = λ number less. held number (rw (zeros, length-replicate, count) at less);
    refers = λ number less marked. absurd
        (cc (ap (λ ts. is_marked (get_or ts number 0)) zeros ∙ ap is_marked (get_or-zeros n number)));
    counts = tt;
  }
    where
      held : (number : ℕ) → number < length head.places.items
          → IsHeld (slice_get (entries_of bytes bounds) number) (get_or tags number 0)
          (get_or head.places.items number 0)
      held number less =
          let there = found bytes bounds number (rw is less) in
          rw (zeros, get_or-zeros n number, there, is) refl

-- the result of the first step
abbrev Begins : List ℕ → Result Flow Error → PlainEvent → List Item → Type 0
Begins bytes answer current after = MatchResult answer
    (λ _. items_of_file bytes ≡ Ok current ∷ until_fault after) (RefusesFirst bytes)

pub known_unread : (known : Option (List ℕ)) (e : Error)
    → IfSome known (λ bytes. MatchFault (kind_of (error_kind_of e)) ⊤ ⊤
    (head_of bytes ≡ Err (fault_of e))) → IfSome known (λ bytes. RefusesFirst bytes e)
known_unread known e refused = IfSome_then known refused (λ bytes.
    MatchFault-weaker (kind_of (error_kind_of e)) (λ _. remaining_file bytes)
    (λ _. remaining_file bytes)
    (λ is. file_refused bytes (fault_of e) is))

begins_with : (bytes : List ℕ) (before after : List Item) (answer : Result Flow Error)
    (current : PlainEvent) → items_of_file bytes ≡ until_fault before
    → YieldsResult before answer current after → Begins bytes answer current after
begins_with bytes before after (Ok _) current is yields = is ∙ yields
begins_with bytes before after (Err e) current is yields =
    MatchFault-weaker (kind_of (error_kind_of e)) (λ remaining. rw is remaining)
    (λ wanted. rw is (remaining_if_wanted (until_fault before) wanted)) (λ only. is ∙ only) yields

pub known_wanted : (known : Option (List ℕ)) (e : Error) → fault_of e ≡ fault_without_offset OutOfMemory
    → IfSome known (λ bytes. RefusesFirst bytes e)
known_wanted known e memory = IfSome-all known (λ bytes.
    MatchFault-at (kind_of (error_kind_of e)) OutOfMemory _ _ _ (ap (λ (f : Fault). f.kind) memory)
    (remaining_file bytes))

pub known_opens : (known now : Option (List ℕ)) (head : code.Head) (bounds : Bounds) (tags : List ℕ)
    (n : ℕ) (fs : List Frame) → now ≡ known
    → IfSome known (λ bytes. head_of bytes ≡ Ok (head_seen head))
    → IfSome known (λ bytes. head.trailer ≤ length bytes) → bounds.trailer ≡ head.trailer
    → bounds.reference_width ≡ head.reference_width
    → tags ≡ replicate n 0 → n ≡ length head.places.items → length fs ≡ 0
    → IfSome now (λ bytes. MatchesFile bytes bounds tags head.places.items (reverse fs))
known_opens known now head bounds tags n fs same value within trailer width zeros count len =
    rw (same, nil_from_length fs len) (IfSome-both known value within (λ bytes value within.
    known_first bytes head bounds value trailer width tags n zeros count within))

pub known_begun : (known now : Option (List ℕ)) (head : code.Head) (bounds : Bounds) (tags : List ℕ)
    (fs gs : List Frame) (answer : Result Flow Error) (current : PlainEvent) → now ≡ known
    → length fs ≡ 0
    → length tags ≡ length head.places.items → bounds.trailer ≡ head.trailer
    → bounds.reference_width ≡ head.reference_width
    → IfSome known (λ bytes. head_of bytes ≡ Ok (head_seen head))
    → IfSome now (λ bytes. YieldsResult (unfolding_of (entries_of bytes bounds)
    (length tags - length (reverse fs)) (path_of (reverse fs)) head.trailer head.root
    ++ remaining_items (entries_of bytes bounds) (reverse fs)) answer current
    (remaining_items (entries_of bytes bounds) (reverse gs)))
    → IfSome known (λ bytes. Begins bytes answer current
    (remaining_items (entries_of bytes bounds) (reverse gs)))
known_begun known now head bounds tags fs gs answer current same len count trailer width value
    yields =
    let whole : length tags - 0 ≡ length head.places.items = omega arith in
    let yields' = rw (same, nil_from_length fs len, whole) at yields in
    IfSome-both known value yields' (λ bytes value yields. begins_with bytes _ _ answer current
    (file_walked bytes head bounds value trailer width
    ∙ ap until_fault (sym (append-nil
    (unfolding_of (entries_of bytes bounds) (length head.places.items) [] head.trailer
    head.root)))) yields)

-- ---- the number of objects

pub known_counted : (known : Option (List ℕ)) (head : code.Head)
    (answer : Result Flow StepFault) (details : FaultDetails) (walk : Walk)
    → walk_objects walk ≡ length head.places.items
    → IfSome known (λ bytes. head_of bytes ≡ Ok (head_seen head))
    → IfSome known (λ bytes. CountsObjects bytes (result_with answer details) (walk_objects walk))
known_counted known head (Ok value) details walk count read = IfSome_then known read (λ bytes is.
    count ∙ sym (ap (λ head. length (places_with head)) is))
known_counted known head (Err fault) details walk count read = IfSome_then known read (λ bytes is.
    let counted = count ∙ sym (ap (λ head. length (places_with head)) is) in
    MatchFault-all (kind_of (error_kind_of (error_of fault details))) (inl counted) (inl counted) counted)

-- if the head isn't read, the reader counts no objects
pub known_uncounted : (known : Option (List ℕ)) (e : Error) (count : ℕ) → count ≡ 0
    → IfSome known (λ bytes. MatchFault (kind_of (error_kind_of e)) ⊤ ⊤
    (head_of bytes ≡ Err (fault_of e)))
    → IfSome known (λ bytes. CountsObjects {A = Flow} bytes (Err e) count)
known_uncounted known e count none refused = IfSome_then known refused (λ bytes.
    MatchFault-weaker (kind_of (error_kind_of e)) (λ _. inr none) (λ _. inr none)
    (λ is. none ∙ sym (ap (λ head. length (places_with head)) is)))

-- if no memory is left for the tags, the reader counts no objects
pub known_hidden : (known : Option (List ℕ)) (e : Error) (count : ℕ) → count ≡ 0
    → fault_of e ≡ fault_without_offset OutOfMemory
    → IfSome known (λ bytes. CountsObjects {A = Flow} bytes (Err e) count)
known_hidden known e count none memory = IfSome-all known (λ bytes.
    MatchFault-at (kind_of (error_kind_of e)) OutOfMemory _ _ _ (ap (λ (f : Fault). f.kind) memory)
    (inr none))

pub known_few : (known : Option (List ℕ)) (tags : List ℕ) → length tags ≡ 0
    → IfSome known (λ bytes. length tags ≤ length (places_with (head_of bytes)))
known_few known tags count = IfSome-all known (λ bytes. omega arith)

-- the root is cached if it is small
pub known_cached : (known now : Option (List ℕ)) (head : code.Head) (number : ℕ)
    (answer : Result Flow Error) (event : PlainEvent) (tags : List ℕ) → now ≡ known
    → head.root ≡ number
    → IfSome known (λ bytes. head_of bytes ≡ Ok (head_seen head))
    → IfSome now (λ _. IsCachedIfSmall (λ _. event) (Some number) (Some answer) tags)
    → IfSome known (λ bytes. IsCachedIfSmall (λ _. event) (root_with (head_of bytes)) (Some answer) tags)
known_cached known now head number answer event tags same root value caches =
    IfSome-both known value (rw same at caches) (λ bytes is caches. rw (is, root) caches)
