-- What a step does to the walk, to the current event and to the remaining items.
use Rattle.std.specs.Prelude.{◌≡◌, ℕ, ◌+◌, ◌-◌, ◌<◌, true, false, List, [], ◌∷◌, ◌++◌, length, slice_index, Option, Some, Result, Ok, Err, IfSome, OnOk, MatchOption, MatchResult, ⊤}
use Rattle.std.specs.List.{slice_get}
use Rattle.plist_base.specs.declared.error.Error.{Error}
use Rattle.plist_base.specs.Events.{PlainEvent, EndCollection, Item}
use Rattle.plist_base.specs.Faults.{MatchFault, kind_of, error_kind_of, fault_of}
use Rattle.plist_base.specs.Container.{head_of}
use Rattle.plist_base.specs.Unfolding.{TableEntry, items_of_file, unfolding_of, until_fault}
use Rattle.plist_decode.specs.Decoded.{IsDecodedAs}
use Rattle.plist_decode.specs.Packed.{is_marked, open_kind, open_start}
use Rattle.plist_decode.specs.Reading.{bytes_at}
use Rattle.plist_decode.specs.declared.decoded.Decoded.{Decoded}
use Rattle.plist_decode.specs.declared.decoded.Decoded.TheVariants as decoded
use Rattle.plist_decode.specs.declared.head.Bounds.{Bounds}
use Rattle.plist_binread.specs.declared.frames.Frame.{Frame}
use Rattle.plist_binread.specs.declared.frames.NextChild.{NextChild}
use Rattle.plist_binread.specs.declared.frames.NextChild.TheVariants as child
use Rattle.plist_binread.specs.declared.references.Reference.{Reference}
use Rattle.plist_binread.specs.declared.references.References.{References}
use Rattle.plist_binread.specs.declared.walk.Walk.{Walk}
use Rattle.plist_binread.specs.ObjectEvents.{event_of_object, is_refused}
use Rattle.plist_binread.specs.Remaining.{Explains, SomeRemain, children_at, entries_of, next_number, path_of, place_at, walk_steps, walk_weight}
use Rattle.plist_binread.specs.Walking.{IsCachedIfSmall, IsWalkOf, fuel_in, open_in, remaining_entering, remaining_in, root_with, walk_objects, weight_in}

-- ---- the remaining items

-- the current event is the first item that remained, and the others remain
abbrev pub YieldsCurrent : List Item → (current : PlainEvent) → List Item → Type 0
YieldsCurrent before current after = until_fault before ≡ Ok current ∷ until_fault after

-- like `YieldsCurrent`, or the result is an error that may replace the first item
abbrev pub YieldsResult : {A : Type 0} → List Item → Result A Error → (current : PlainEvent)
    → List Item → Type 0
YieldsResult before answer current after = MatchResult answer
    (λ _. YieldsCurrent before current after) (Explains (until_fault before))

-- like `YieldsResult`, or there is no item because none remained
abbrev pub YieldsNext : {A : Type 0} → List Item → Option (Result A Error) → (current : PlainEvent)
    → List Item → Type 0
YieldsNext before item current after = MatchOption item ((before ≡ []) × (after ≡ []))
    (λ answer. YieldsResult before answer current after)

-- ---- the next child

-- the items of the next child, or an end, are the first of those that remained
abbrev pub TakesChild : List ℕ → Bounds → (old : Walk) → NextChild → (new : Walk) → Type 0
TakesChild bytes bounds old child.Nothing new = (open_in old ≡ []) × (open_in new ≡ [])
TakesChild bytes bounds old (child.End object) new =
    remaining_in bytes bounds old ≡ Ok EndCollection ∷ remaining_in bytes bounds new
TakesChild bytes bounds old (child.Child frame) new =
    let table = entries_of bytes bounds in
    let entry = slice_get table frame.object in
    let number = slice_index (children_at entry) frame.next in
    (remaining_in bytes bounds old ≡ unfolding_of table (length table - length (open_in new))
    (path_of (open_in new)) (place_at entry) number ++ remaining_in bytes bounds new)
    × (length (children_at entry) ≡ frame.count)
    × SomeRemain (until_fault (remaining_in bytes bounds old))
    × (next_number table (open_in old) ≡ Some number)

-- the collection that contains the next child is open, and it has this child
abbrev pub ParentIsOpen : Walk → NextChild → Type 0
ParentIsOpen walk (child.Child frame) = (frame.object < walk_objects walk)
    × (is_marked (slice_index walk.tags.items frame.object) ≡ true) × (frame.next < frame.count)
ParentIsOpen walk other = ⊤

-- the weight falls by 1 at an end, and at a child by the greatest number of steps below it
abbrev pub WeightFalls : (count : ℕ) → (old : Walk) → NextChild → (new : Walk) → Type 0
WeightFalls count old child.Nothing new = ⊤
WeightFalls count old (child.End object) new =
    walk_weight count (open_in old) ≡ walk_weight count (open_in new) + 1
WeightFalls count old (child.Child frame) new = walk_weight count (open_in old)
    ≡ walk_weight count (open_in new) + walk_steps (count - length (open_in new))

-- where the references of an open collection lie
abbrev pub stored_references : Walk → Frame → References
stored_references walk frame = record {
  place = slice_index walk.contents.items frame.object;
  kind = open_kind (slice_index walk.tags.items frame.object);
  start = open_start (slice_index walk.tags.items frame.object);
  count = frame.count;
}

-- ---- an object that is entered

-- the object's first event is the first item that remained, and the walk has entered the object
abbrev pub OpensObject : (number : ℕ) → Decoded → (old new : Walk) → Type 0
OpensObject number decoded old new = (bytes : List ℕ) (bounds : Bounds) (entry : TableEntry)
    → IsWalkOf bytes bounds old → slice_get (entries_of bytes bounds) number ≡ Some entry
    → IsDecodedAs bounds.reference_width (bytes_at bounds entry.place bytes) entry.object decoded
    → ((at : ℕ) (event : PlainEvent) → is_refused decoded ≡ false
    → event_of_object entry.object ≡ Some event
    → YieldsCurrent (remaining_entering bytes bounds old at number) event
    (remaining_in bytes bounds new))
    × IsWalkOf bytes bounds new

-- the start of a collection was decoded
abbrev pub IsCollectionStart : Decoded → Type 0
IsCollectionStart (decoded.Collection kind start count) = ⊤
IsCollectionStart other = ⊥

-- fewer steps remain than when the object was about to be entered
abbrev pub IsLighterEntered : (old new : Walk) → Type 0
IsLighterEntered old new =
    walk_weight (walk_objects old) (open_in new) < weight_in old + walk_steps (fuel_in old)

-- ---- a whole step

-- the error is the only item of the file, or that of a failed read or allocation
abbrev pub RefusesFirst : List ℕ → Error → Type 0
RefusesFirst bytes e = MatchFault (kind_of (error_kind_of e)) (SomeRemain (items_of_file bytes))
    (SomeRemain (items_of_file bytes)) (items_of_file bytes ≡ Err (fault_of e) ∷ [])

-- over known bytes, the event is the first item of the file and the others remain, or the first
-- step failed; the root is cached if it is small
pub record YieldsRoot {A : Type 0} (known : Option (List ℕ)) (bounds : Bounds)
    (answer : Result A Error) (event : PlainEvent) (new : Walk) : Type 0 where
  pub first : IfSome known (λ bytes. MatchResult answer
      (λ _. items_of_file bytes ≡ Ok event ∷ until_fault (remaining_in bytes bounds new))
      (RefusesFirst bytes))
  pub cached : IfSome known (λ bytes.
      IsCachedIfSmall (λ _. event) (root_with (head_of bytes)) (Some answer) new.tags.items)

-- over known bytes, the event is the first item that remained when the object of this reference was
-- about to be entered, and the others remain, or the step failed; the object is cached if it is small
pub record YieldsEntered {A : Type 0} (known : Option (List ℕ)) (bounds : Bounds)
    (old : Reference × Walk) (answer : Result A Error) (event : PlainEvent) (new : Walk) : Type 0 where
  pub first : IfSome known (λ bytes. YieldsResult
      (remaining_entering bytes bounds old.1 old.0.at old.0.number) answer event
      (remaining_in bytes bounds new))
  pub cached : IfSome known (λ _. IsCachedIfSmall (λ _. event) (Some old.0.number) (Some answer)
      new.tags.items)

-- over known bytes, the item is the first that remained and the others remain, and the object that
-- was entered is cached if it is small
pub record YieldsItem {A : Type 0} (known : Option (List ℕ)) (bounds : Bounds) (old : Walk)
    (item : Option (Result A Error)) (event : PlainEvent) (new : Walk) : Type 0 where
  pub first : IfSome known (λ bytes.
      YieldsNext (remaining_in bytes bounds old) item event (remaining_in bytes bounds new))
  pub cached : IfSome known (λ bytes. IsCachedIfSmall (λ _. event)
      (next_number (entries_of bytes bounds) (open_in old)) item new.tags.items)

-- an item is yielded only if some steps remained, and fewer steps remain after an event
abbrev pub LightensNext : {A E : Type 0} → (old : Walk) → Option (Result A E) → Walk → Type 0
LightensNext old item new = IfSome item (λ answer. (0 < weight_in old)
    × OnOk answer (walk_weight (walk_objects old) (open_in new) < weight_in old))
