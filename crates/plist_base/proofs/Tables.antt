-- The contents of a table of objects.
use Rattle.std.proofs.Common.{◌≡◌, ℕ, ◌<◌, ◌≤◌, List, length, drop, get_or, Some, None}
use Rattle.std.specs.List.{slice_get}
use Rattle.std.proofs.lemmas.List.{length-map}
use Rattle.std.proofs.lemmas.Option.{slice_get-map, slice_get-get_or, slice_get_past}
use Rattle.plist_base.specs.Object.{object_in}
use Rattle.plist_base.specs.Unfolding.{table_of}

pub slice_get-within : (before places : List ℕ) (width i : ℕ) → i < length places
    → slice_get (table_of before width places) i
    ≡ Some (record {
      place = get_or places i 0;
      object = object_in width
          (drop (get_or places i 0) before);
    })
slice_get-within before places width i h =
    cc (slice_get-map _ places i, slice_get-get_or places i 0 h)

pub slice_get-beyond : (before places : List ℕ) (width i : ℕ) → length places ≤ i
    → slice_get (table_of before width places) i ≡ None
slice_get-beyond before places width i h =
    cc (slice_get-map _ places i, slice_get_past places i h)

pub length-table_of : (before places : List ℕ) (width : ℕ)
    → length (table_of before width places) ≡ length places
length-table_of before places width = length-map _ _
