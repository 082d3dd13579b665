-- The tree that an archive has under a key, and why there is none.
use Rattle.std.specs.Prelude.{◌≡◌, ℕ, List, Option, None, Result, Ok, Err, map, ⊤}
use Rattle.std.specs.Io.KnownBytes.{Appends}
use Rattle.plist_base.specs.Bracketing.{bracketing}
use Rattle.plist_base.specs.Faults.{IsIoOrMemory}
use Rattle.plist_base.specs.Prefixes.{AppendsPrefix}
use Rattle.plist_base.specs.Trees.{Tree}
use Rattle.plist.specs.declared.value.Value.{Value}
use Rattle.plist.specs.ValueTrees.{tree_of}
use Rattle.plist_keyed.specs.Archives.{ArchiveFault, IsArchiveOf, IsNoArchive, IsUidAt, MatchError, resolved_tree}
use Rattle.plist_print.specs.EscapedLines.{lines_of_events}
use Rattle.plist_commands.specs.Commands.{PlainFailure, OfPlist, OfArchive, NoSuchTop}

-- the property list is an archive, in which the key names an object with this tree, or this fault
abbrev pub IsResolvedAt : (root : Value) → (key : List ℕ) → Result Tree ArchiveFault → Type 0
IsResolvedAt root key answer =
    (objects : List Value) × (names : List (List ℕ × Value)) × (uid : ℕ)
    × IsArchiveOf root objects names × IsUidAt key names uid
    × (resolved_tree (map tree_of objects) uid ≡ answer)

-- the failure says why there is no tree, and `NoSuchTop` that the key names no object of the
-- archive; `OutOfMemory` is always possible
abbrev pub IsRefusedAt : (root : Value) → (key : List ℕ) → PlainFailure → Type 0
IsRefusedAt root key (OfPlist fault) = ⊥
IsRefusedAt root key (OfArchive error) =
    MatchError error (IsNoArchive root error) ⊤ (λ fault. IsResolvedAt root key (Err fault))
IsRefusedAt root key NoSuchTop =
    (objects : List Value) × (names : List (List ℕ × Value)) × IsArchiveOf root objects names
    × ((uid : ℕ) → ¬ (IsUidAt key names uid))

-- the lines of the tree at the key were written
abbrev pub PrintsTreeAt : {W : Type 0} → (contents : W → Option (List ℕ)) → (root : Value)
    → (key : List ℕ) → (old new : W) → Type 0
PrintsTreeAt contents root key old new =
    (tree : Tree) × IsResolvedAt root key (Ok tree)
    × Appends (contents old) (contents new) (lines_of_events (bracketing tree))

-- the failure says why the lines weren't written: there is no tree at the key, and nothing was
-- written; or a write or an allocation failed, and a prefix of the lines was written
abbrev pub IsUnprintedAt : {W : Type 0} → (contents : W → Option (List ℕ)) → (root : Value)
    → (key : List ℕ) → PlainFailure → (old new : W) → Type 0
IsUnprintedAt contents root key (OfPlist fault) old new =
    (fault.offset ≡ None) × IsIoOrMemory fault.kind
    × ((tree : Tree) × IsResolvedAt root key (Ok tree)
    × AppendsPrefix (contents old) (contents new) (lines_of_events (bracketing tree)))
IsUnprintedAt contents root key failure old new = IsRefusedAt root key failure × (new ≡ old)
