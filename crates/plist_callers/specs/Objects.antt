-- The object to which a key of an archive refers.
use Rattle.std.specs.Prelude.{◌≡◌, ℕ, List, None, Some, slice_get}
use Rattle.plist.specs.declared.value.Value.{Value}
use Rattle.plist_keyed.specs.declared.archive.Archive.{Archive}
use Rattle.plist_keyed.specs.Archives.{IsUidAt, names_of, objects_of}

-- the key's Uid is that of this object
abbrev pub IsObjectAt : (key : List ℕ) → Archive → (object : Value) → Type 0
IsObjectAt key archive object =
    (uid : ℕ) × IsUidAt key (names_of archive) uid
    × (slice_get (objects_of archive) uid ≡ Some object)

-- the key's Uid refers to no object
abbrev pub HasNoObjectAt : (key : List ℕ) → Archive → Type 0
HasNoObjectAt key archive =
    (uid : ℕ) → IsUidAt key (names_of archive) uid → slice_get (objects_of archive) uid ≡ None
