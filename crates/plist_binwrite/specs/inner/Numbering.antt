-- The numbers of objects, and their size. `by_class` has 1 more than the number of each class's
-- object, or 0 if that has no number yet. `count` objects have numbers, which are those below
-- `count`. There is one object for each class, so the bound of the classes gives the width of a
-- reference.
use Rattle.std.specs.Prelude.{◌≡◌, ℕ, zero, suc, ◌+◌, ◌-◌, ◌^◌, ◌<◌, ◌≤◌, List, length, min, slice_index}
use Rattle.std.specs.List.{AllByRecursion}
use Rattle.plist_base.specs.Events.{ScalarEvent}
use Rattle.plist_base.specs.Trees.{Scalar, Tree}
use Rattle.plist_buffer.specs.EventTable.{HasItem, IsBracketed, event_at}
use Rattle.plist_buffer.specs.Occurrences.{OccursAt}
use Rattle.plist_binwrite.specs.Classes.{IsClassed, bound_in, class_in, events_in}
use Rattle.plist_binwrite.specs.Forms.{IsWritableScalar, reference_width}
use Rattle.plist_binwrite.specs.Sizes.{object_size}
use Rattle.plist_binwrite.specs.declared.classes.Classed.{Classed}
use Rattle.plist_binwrite.specs.declared.plan.Numbering.{Numbering}

-- the sum of the weights of the numbers below a count
abbrev pub total_below : (weight : ℕ → ℕ) → (count : ℕ) → ℕ
total_below weight zero = 0
total_below weight (suc count) = weight count + total_below weight count

-- the number of bytes of the objects with the numbers below a count, given their trees
abbrev pub size_below : (width : ℕ) → (first : ℕ → ℕ × Tree) → (count : ℕ) → ℕ
size_below width first count = total_below (λ k. object_size width (first k).1) count

-- the number is a size, or 2^64 - 1 if the size is greater
abbrev pub IsCapped : (number size : ℕ) → Type 0
IsCapped number size = number ≡ min size (2 ^ 64 - 1)

-- ---- numbers

module _ (given : Classed) (numbering : Numbering) where
  -- 1 more than the number of an event's object, or 0 if that has no number yet
  abbrev pub stored_number : (index : ℕ) → ℕ
  stored_number index = slice_index numbering.by_class (class_in given index)

  -- the number of an event's object
  abbrev pub object_number : (index : ℕ) → ℕ
  object_number index = stored_number index - 1

  -- the object of the event at an index has a number
  abbrev pub IsNumbered : (index : ℕ) → Type 0
  IsNumbered index = 0 < stored_number index

  -- each class has the number of one object, or no number yet, and the size is that of the objects
  -- that have numbers; `first` has an index of each object, and its tree; ends have no class
  pub record IsNumberedSoFar : Type 0 where
    pub whole : IsBracketed (events_in given)
    pub classed : IsClassed given
    pub first : ℕ → ℕ × Tree
    pub below : (p : ℕ) → HasItem (events_in given) p
        → class_in given p < length numbering.by_class
    pub small : numbering.count < 2 ^ 64
    pub known : (k : ℕ) → k < numbering.count
        → OccursAt (events_in given) (first k).1 (first k).0 × (stored_number (first k).0 ≡ k + 1)
    pub same : (p : ℕ) → HasItem (events_in given) p → IsNumbered p
        → class_in given (first (object_number p)).0 ≡ class_in given p
    pub few : (p : ℕ) → HasItem (events_in given) p → stored_number p ≤ numbering.count
    pub size : IsCapped numbering.size
        (size_below (reference_width (bound_in given)) first numbering.count)
    pub writable : (k : ℕ) → k < numbering.count → (x : Scalar)
        → event_at (events_in given) (first k).0 ≡ ScalarEvent x → IsWritableScalar x

  -- all objects have numbers
  pub record IsNumberingOfEvents : Type 0 where
    pub so_far : IsNumberedSoFar
    pub all : (p : ℕ) → HasItem (events_in given) p → IsNumbered p
    pub root : object_number 0 ≡ 0

-- the objects of the events at these indices have numbers now, and each object that had a number
-- keeps it
pub record Numbers (given : Classed) (indices : List ℕ) (old new : Numbering) : Type 0 where
  pub so_far : IsNumberedSoFar given new
  pub keeps : (p : ℕ) → IsNumbered given old p
      → stored_number given new p ≡ stored_number given old p
  pub numbered : AllByRecursion (IsNumbered given new) indices
