-- A walk over a file's objects: what it stores, what remains of it, and what it caches.
use Rattle.std.specs.Prelude.{◌≡◌, ℕ, ◌-◌, ◌<◌, ◌≤◌, true, List, ◌++◌, length, reverse, slice_index, Option, None, Some, Result, Ok, Err, IfOk, IfSome}
use Rattle.plist_base.specs.declared.error.Error.{Error}
use Rattle.plist_base.specs.Events.{Item, PlainEvent}
use Rattle.plist_base.specs.Faults.{Fault}
use Rattle.plist_base.specs.Container.{Head}
use Rattle.plist_base.specs.Unfolding.{unfolding_of}
use Rattle.plist_decode.specs.Packed.{is_small_event, unmarked}
use Rattle.plist_decode.specs.declared.object.Decoder.{Decoder}
use Rattle.plist_decode.specs.declared.head.Bounds.{Bounds}
use Rattle.plist_binread.specs.declared.frames.Frame.{Frame}
use Rattle.plist_binread.specs.declared.walk.Walk.{Walk}
use Rattle.plist_binread.specs.Remaining.{MatchesFile, cached_count, entries_of, objects_in_head, path_of, remaining_items, walk_weight}

-- ---- what a walk stores

-- the number of objects
abbrev pub walk_objects : Walk → ℕ
walk_objects walk = length walk.tags.items

-- the number of cached objects
abbrev pub cached_in : Walk → ℕ
cached_in walk = cached_count walk.tags.items

-- the open collections, of which the innermost one is the first
abbrev pub open_in : Walk → List Frame
open_in walk = reverse walk.frames

-- the number of objects that aren't open
abbrev pub fuel_in : Walk → ℕ
fuel_in walk = length walk.tags.items - length (open_in walk)

-- the walk has no objects, and no collection is open
abbrev pub IsEmptyWalk : Walk → Type 0
IsEmptyWalk walk = (length walk.tags.items ≡ 0) × (length walk.frames ≡ 0)

-- the walk has no more objects than the file
abbrev pub IsBounded : Walk → List ℕ → Type 0
IsBounded walk bytes = walk_objects walk ≤ objects_in_head bytes

-- this is a walk over the file with these bytes
abbrev pub IsWalkOf : (bytes : List ℕ) → Bounds → Walk → Type 0
IsWalkOf bytes bounds walk =
    MatchesFile bytes bounds walk.tags.items walk.contents.items (open_in walk)

-- if the bytes are known, this is a walk over their file
abbrev pub IsKnownWalk : (known : Option (List ℕ)) → Bounds → Walk → Type 0
IsKnownWalk known bounds walk = IfSome known (λ bytes. IsWalkOf bytes bounds walk)

-- ---- what remains

-- the items that remain of the open collections
abbrev pub remaining_in : (bytes : List ℕ) → Bounds → Walk → List Item
remaining_in bytes bounds walk = remaining_items (entries_of bytes bounds) (open_in walk)

-- the items that remain when object `number` is about to be entered; if there is no such object,
-- the fault has the offset `at`
abbrev pub remaining_entering : (bytes : List ℕ) → Bounds → Walk → (at number : ℕ) → List Item
remaining_entering bytes bounds walk at number =
    unfolding_of (entries_of bytes bounds) (fuel_in walk) (path_of (open_in walk)) at number
    ++ remaining_in bytes bounds walk

-- an upper bound on the steps that remain
abbrev pub weight_in : Walk → ℕ
weight_in walk = walk_weight (walk_objects walk) (open_in walk)

-- ---- what a step caches

-- the number of the root in a file with this head, or `None` if the head is invalid
abbrev pub root_with : Result Head Fault → Option ℕ
root_with (Ok head) = Some head.root
root_with (Err fault) = None

-- the object of this number is cached if the item is the event of a small scalar
abbrev pub IsCachedIfSmall : {A : Type 0} → (shown : A → PlainEvent) → Option ℕ
    → Option (Result A Error) → (tags : List ℕ) → Type 0
IsCachedIfSmall shown number item tags = IfSome item (λ answer. IfOk answer (λ value. IfSome number
    (λ number. is_small_event (shown value) ≡ true → 0 < unmarked (slice_index tags number))))

-- What a step keeps of the source, the decoder and the walk. The number of objects, the bounds and
-- the known bytes are unchanged, and the walk is still one over the file. If decodings are counted,
-- as many are counted as objects are cached.
pub record KeepsWalk {S C : Type 0} (known : S → Option (List ℕ)) (counts : Type 0)
    (count : C → ℕ) (old new : S × Decoder C × Walk) : Type 0 where
  pub size : walk_objects new.2 ≡ walk_objects old.2
  pub known_walk : IsKnownWalk (known old.0) old.1.bounds new.2
  pub bounds : new.1.bounds ≡ old.1.bounds
  pub counted : counts → count new.1.counter ≡ cached_in new.2
  pub unchanged : known new.0 ≡ known old.0
