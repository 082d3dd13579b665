-- Why an archive has no tree under a key.
use Rattle.std.proofs.Common.{ℕ, List, map}
use Rattle.plist.specs.declared.value.Value.{Value}
use Rattle.plist.specs.ValueTrees.{tree_of}
use Rattle.plist_keyed.specs.declared.error.KeyedError.{KeyedError}
use Rattle.plist_keyed.specs.declared.error.KeyedError.TheVariants as error
use Rattle.plist_keyed.specs.Archives.{IsArchiveOf, IsFaultOf, IsUidAt, resolved_tree}
use Rattle.plist_commands.specs.Archives.{IsRefusedAt}
use Rattle.plist_commands.specs.Commands.{OfArchive}

pub refused : (root : Value) (key : List ℕ) (objects : List Value) (names : List (List ℕ × Value))
    (uid : ℕ) (e : KeyedError) → IsArchiveOf root objects names → IsUidAt key names uid
    → IsFaultOf (resolved_tree (map tree_of objects) uid) e
    → IsRefusedAt root key (OfArchive e)
refused root key objects names uid error.NotAnArchive archive at h = absurd h
refused root key objects names uid (error.UidOutOfRange n) archive at h =
    (objects, names, uid, archive, at, h)
refused root key objects names uid (error.RecursiveUid n) archive at h =
    (objects, names, uid, archive, at, h)
refused root key objects names uid error.OutOfMemory archive at h = tt
