-- The root of an archive.
use Rattle.std.specs.Prelude.{◌≡◌, ◌⊎◌, ℕ, List, Result, Ok, Some, codes, map}
use Rattle.plist_base.specs.Trees.{Tree}
use Rattle.plist_keyed.specs.Archives.{ArchiveFault, IsArchiveOf, IsFaultOf, IsNoArchive, IsUidAt, resolved_tree}
use Rattle.plist_keyed.specs.declared.error.KeyedError.{KeyedError}
use Rattle.plist.specs.declared.value.Value.{Value}
use Rattle.plist.specs.Accessors.{text_in}
use Rattle.plist.specs.ValueTrees.{tree_of}

-- the archive has a Uid at `root` among its names, and `P` is true of the tree that the Uid has, or
-- of the fault in its place
abbrev pub IfRoot : (archive : Value) → (P : Result Tree ArchiveFault → Type 0) → Type 0
IfRoot archive P =
    (objects : List Value) × (names : List (List ℕ × Value)) × (uid : ℕ)
    × IsArchiveOf archive objects names × IsUidAt (codes "root") names uid
    × P (resolved_tree (map tree_of objects) uid)

-- this is the tree of the Uid at `root` among the names of the archive
abbrev pub IsRootOf : (archive : Value) → (root : Tree) → Type 0
IsRootOf archive root = IfRoot archive (λ answer. answer ≡ Ok root)

-- the archive has no Uid at `root` among its names
abbrev pub HasNoRoot : (archive : Value) → Type 0
HasNoRoot archive = (objects : List Value) × (names : List (List ℕ × Value))
    × IsArchiveOf archive objects names × ((uid : ℕ) → IsUidAt (codes "root") names uid → ⊥)

-- the error says that the value isn't an archive, or is that of resolving its root
abbrev pub RefusesRoot : (archive : Value) → KeyedError → Type 0
RefusesRoot archive error =
    IsNoArchive archive error ⊎ IfRoot archive (λ answer. IsFaultOf answer error)

-- the archive's root is this string
abbrev pub IsRootText : (archive : Value) → (text : List ℕ) → Type 0
IsRootText archive text =
    (root : Tree) × IsRootOf archive root × (text_in root ≡ Some text)
