-- A planned file, the order of its objects, and their offsets.
use Rattle.std.specs.Prelude.{◌≡◌, ◌≢◌, ◌↔◌, ℕ, ◌^◌, ◌<◌, ◌≤◌, true, eqb, List, ◌++◌, length, slice_index, map, Option}
use Rattle.std.specs.List.{list_any, IsDistinct}
use Rattle.plist_base.specs.Sinks.{HasPut, Puts, is_open}
use Rattle.plist_base.specs.Trees.{Tree}
use Rattle.plist_base.specs.declared.sink.Sink.{Sink}
use Rattle.plist_base.specs.Object.{Object}
use Rattle.plist_buffer.specs.Children.{half_of}
use Rattle.plist_buffer.specs.Occurrences.{OccursAt}
use Rattle.plist_buffer.specs.declared.children.Half.{Half}
use Rattle.plist_buffer.specs.declared.children.Half.TheVariants.{Keys, Values}
use Rattle.plist_base.specs.declared.marker.CountedKind.{CountedKind}
use Rattle.plist_binwrite.specs.Classes.{Describes, object_of, events_in}
use Rattle.plist_binwrite.specs.Forms.{form, length_form, reference_width, table_form}
use Rattle.plist_binwrite.specs.Sizes.{size_with}
use Rattle.plist_binwrite.specs.Written.{Laid, laid_out}
use Rattle.plist_binwrite.specs.declared.plan.FilePlan.{FilePlan}
use Rattle.plist_binwrite.specs.inner.Numbering.{IsNumberingOfEvents, object_number, size_below}

module _ (plan : FilePlan) where
  -- the number of the object of the event at an index
  abbrev pub number_of_event : (index : ℕ) → ℕ
  number_of_event = object_number plan.given plan.numbering

  -- the file of the tree with these events is planned; it has less than 2^64 bytes
  pub record IsFilePlan : Type 0 where
    pub numbered : IsNumberingOfEvents plan.given plan.numbering
    pub width : plan.width ≡ reference_width plan.numbering.count
    pub narrow : plan.width ≤ 8
    pub small : size_with plan.numbering.count
        (size_below plan.width numbered.so_far.first plan.numbering.count) < 2 ^ 64

  -- the references to a half of the children of the collection that begins at an index
  abbrev pub references_of : Half → (index : ℕ) → List ℕ
  references_of half index =
      table_form plan.width (map number_of_event (half_of (events_in plan.given) half index))

  -- the bytes of a collection: its length, and the references to its keys and its items or values
  abbrev pub collection_form : CountedKind → (index : ℕ) → List ℕ
  collection_form kind index =
      length_form kind (length (half_of (events_in plan.given) Values index))
      ++ (references_of Keys index ++ references_of Values index)

  -- the object of the event at this index has an offset
  abbrev pub HasStoredOffset : (offsets : List ℕ) → (index : ℕ) → Type 0
  HasStoredOffset offsets index = slice_index offsets (number_of_event index) ≢ 0

  -- these are the objects of a planned file; those in the order lie back to back, and exactly these
  -- have an offset other than 0
  pub record IsLayout (objects : ℕ → Object) (order offsets : List ℕ) : Type 0 where
    pub described : Describes (events_in plan.given) number_of_event objects
    pub long : length offsets ≡ plan.numbering.count
    pub distinct : IsDistinct eqb order
    pub marked : (k : ℕ) → (list_any (eqb k) order ≡ true) ↔ (slice_index offsets k ≢ 0)
    pub laid : Laid plan.width objects offsets order 8

  module _ {W : Type 0} (contents : W → Option (List ℕ)) where
    -- the magic and some of the objects are put
    pub record ArePut (start : Sink W) (offsets : List ℕ) (sink : Sink W) : Type 0 where
      pub objects : ℕ → Object
      pub order : List ℕ
      pub layout : IsLayout objects order offsets
      pub put : Puts contents start (laid_out plan.width objects order) sink

    -- a call puts the object of the tree that begins at an index
    abbrev pub PutsObject : (index : ℕ) (old new : Sink W) → Type 0
    PutsObject index old new =
        (tree : Tree) → OccursAt (events_in plan.given) tree index
        → Puts contents old (form plan.width (object_of number_of_event tree index)) new

    -- The objects of the events at the asked indices, and maybe others, are put, unless they were
    -- put before or a write fails, and each object that had an offset has one. `old` and `new` are
    -- the offsets and the sink before and after.
    pub record PutsObjects (asked : ℕ → Type 0) (old new : List ℕ × Sink W) : Type 0 where
      pub long : length new.0 ≡ length old.0
      pub was_open : is_open new.1 ≡ true → is_open old.1 ≡ true
      pub step : (start : Sink W) → HasPut start 0 → ArePut start old.0 old.1
          → ArePut start new.0 new.1
          × ((k : ℕ) → slice_index old.0 k ≢ 0 → slice_index new.0 k ≢ 0)
          × (is_open new.1 ≡ true → (p : ℕ) → asked p → HasStoredOffset new.0 p)
