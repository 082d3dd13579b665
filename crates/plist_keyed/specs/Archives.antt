-- Keyed archives: their contents, their errors, and the tree of each object, in which each Uid is
-- replaced by the tree of the object that it names.
use Rattle.std.specs.Prelude.{◌≡◌, ℕ, zero, suc, Bool, true, false, List, [], ◌∷◌, ◌++◌, length, Option, Some, None, Result, Ok, Err, codes, decimal, nat_eq, slice_get, bytes_eq, Vec, ⊤}
use Rattle.std.specs.List.{list_any}
use Rattle.std.specs.Map.{lookup}
use Rattle.std.specs.Option.{option_map_or}
use Rattle.std.specs.declared.alloc.Global.{Global}
use Rattle.plist_base.specs.Trees.{Tree, Leaf, Array, Dictionary, Trees, NoTrees, TreeAnd, Members, NoMembers, MemberAnd}
use Rattle.plist.specs.declared.value.Value.{Value}
use Rattle.plist.specs.declared.value.Value.TheVariants as value
use Rattle.plist.specs.declared.dictionary.Dictionary as plist
use Rattle.plist.specs.Accessors.{uid_in}
use Rattle.plist.specs.ValueTrees.{pairs_of}
use Rattle.plist_keyed.specs.declared.archive.Archive.{Archive}
use Rattle.plist_keyed.specs.declared.error.KeyedError.{KeyedError}
use Rattle.plist_keyed.specs.declared.error.KeyedError.TheVariants as error

-- the objects, by index
abbrev pub objects_of : Archive → List Value
objects_of archive = archive.objects.now.items

-- the pairs of a name and a value, which names an object if it is a Uid
abbrev pub names_of : Archive → List (List ℕ × Value)
names_of archive = pairs_of archive.names.now

-- the key's value is this Uid
abbrev pub IsUidAt : (key : List ℕ) → (pairs : List (List ℕ × Value)) → (uid : ℕ) → Type 0
IsUidAt key pairs uid = lookup (bytes_eq key) pairs ≡ Some (value.Uid uid)

-- the property list is a dictionary with these objects in the array at `$objects`, and these names
-- in the dictionary at `$top`
abbrev pub IsArchiveOf : (root : Value) → (objects : List Value) → (names : List (List ℕ × Value))
    → Type 0
IsArchiveOf root objects names =
    (dictionary : plist.Dictionary) × (array : Vec Value Global) × (top : plist.Dictionary)
    × (root ≡ value.Dictionary dictionary)
    × (lookup (bytes_eq (codes "$objects")) (pairs_of dictionary) ≡ Some (value.Array array))
    × (array.items ≡ objects)
    × (lookup (bytes_eq (codes "$top")) (pairs_of dictionary) ≡ Some (value.Dictionary top))
    × (pairs_of top ≡ names)

-- the property list isn't an archive, and the error is `NotAnArchive`
abbrev pub IsNoArchive : (root : Value) → KeyedError → Type 0
IsNoArchive root answer = (answer ≡ error.NotAnArchive)
    × ¬ ((objects : List Value) × (names : List (List ℕ × Value)) × IsArchiveOf root objects names)

-- ---- the tree of an object

-- why a Uid has no tree: the archive has no such object, or that object's tree would contain itself
pub data ArchiveFault : Type 0 where
  UidOutOfRange : ℕ → ArchiveFault
  RecursiveUid : ℕ → ArchiveFault

-- the result of the second step if the first one succeeds, or else the fault of the first
abbrev pub and_then : {A B : Type 0} → Result A ArchiveFault → (A → Result B ArchiveFault)
    → Result B ArchiveFault
and_then (Ok a) f = f a
and_then (Err fault) f = Err fault

module _ (follow : ℕ → Result Tree ArchiveFault) where
  -- the tree in which each Uid is replaced, in order
  abbrev mutual
    pub replaced : Tree → Result Tree ArchiveFault
    replaced (Leaf scalar) = option_map_or follow (uid_in (Leaf scalar)) (Ok (Leaf scalar))
    replaced (Array items) = and_then (replaced_items items) (λ done. Ok (Array done))
    replaced (Dictionary pairs) = and_then (replaced_pairs pairs) (λ done. Ok (Dictionary done))

    -- the items in which each Uid is replaced, in order
    pub replaced_items : Trees → Result Trees ArchiveFault
    replaced_items NoTrees = Ok NoTrees
    replaced_items (TreeAnd tree items) =
        and_then (replaced tree)
        (λ first. and_then (replaced_items items) (λ done. Ok (TreeAnd first done)))

    -- the pairs in whose values each Uid is replaced, in order
    pub replaced_pairs : Members → Result Members ArchiveFault
    replaced_pairs NoMembers = Ok NoMembers
    replaced_pairs (MemberAnd key tree pairs) =
        and_then (replaced tree)
        (λ first. and_then (replaced_pairs pairs) (λ done. Ok (MemberAnd key first done)))

-- the object that was found for a Uid, unless it is open already
abbrev pub object_found : (found : Option Tree) (is_open : Bool) (uid : ℕ)
    → Result Tree ArchiveFault
object_found None is_open uid = Err (UidOutOfRange uid)
object_found (Some object) true uid = Err (RecursiveUid uid)
object_found (Some object) false uid = Ok object

module _ (objects : List Tree) where
  -- The tree of a Uid while the objects on the path are open. `fuel` is the number of objects that
  -- aren't on the path: if it is 0, each object is open.
  unfoldable pub resolved : (fuel : ℕ) (path : List ℕ) (uid : ℕ) → Result Tree ArchiveFault
  resolved zero path uid = object_found (slice_get objects uid) true uid
  resolved (suc fuel) path uid =
      and_then (object_found (slice_get objects uid) (list_any (nat_eq uid) path) uid)
      (replaced (resolved fuel (uid ∷ path)))

  -- the tree of a Uid
  abbrev pub resolved_tree : (uid : ℕ) → Result Tree ArchiveFault
  resolved_tree uid = resolved (length objects) [] uid

-- ---- errors

-- the printed form of an error: its name, and its number in parentheses, if it has one
abbrev pub text_of_error : KeyedError → List ℕ
text_of_error error.NotAnArchive = codes "NotAnArchive"
text_of_error (error.UidOutOfRange uid) = codes "UidOutOfRange(" ++ decimal uid ++ codes ")"
text_of_error (error.RecursiveUid uid) = codes "RecursiveUid(" ++ decimal uid ++ codes ")"
text_of_error error.OutOfMemory = codes "OutOfMemory"

-- a fact for `NotAnArchive`, one for `OutOfMemory`, and one for a fault of the archive
abbrev pub MatchError : KeyedError → (closed memory : Type 0) → (ArchiveFault → Type 0) → Type 0
MatchError error.NotAnArchive closed memory fault = closed
MatchError (error.UidOutOfRange uid) closed memory fault = fault (UidOutOfRange uid)
MatchError (error.RecursiveUid uid) closed memory fault = fault (RecursiveUid uid)
MatchError error.OutOfMemory closed memory fault = memory

-- the error is the fault of this result, or `OutOfMemory`
abbrev pub IsFaultOf : {A : Type 0} → Result A ArchiveFault → KeyedError → Type 0
IsFaultOf answer e = MatchError e ⊥ ⊤ (λ fault. answer ≡ Err fault)
