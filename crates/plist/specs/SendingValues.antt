-- What is written when a value is written as a binary property list, and why it isn't stored.
use Rattle.std.specs.Prelude.{◌≡◌, ℕ, ◌^◌, ◌≤◌, List, Option, None, Some, Result, Ok, Err, IfSome, ⊤}
use Rattle.std.specs.Io.KnownBytes.{Appends, WriteAppends}
use Rattle.plist_base.specs.declared.error.Error.{Error}
use Rattle.plist_base.specs.Faults.{Fault, FaultKind, Io, MatchFault, OutOfMemory, PlistTooLarge}
use Rattle.plist_base.specs.Trees.{Tree}
use Rattle.plist_base.specs.Writing.{Answer, answer_of}
use Rattle.plist_binwrite.specs.Files.{IsFileOf}
use Rattle.plist_base.specs.Prefixes.{AppendsPrefix}
use Rattle.plist_binwrite.specs.Sizes.{file_size}
use Rattle.plist.specs.declared.value.Value.{Value}
use Rattle.plist.specs.ValueTrees.{tree_of}

-- why no file of the tree is made: its size is 2^64 or more, or an allocation fails
abbrev pub StopsFile : FaultKind → Tree → Type 0
StopsFile PlistTooLarge tree = 2 ^ 64 ≤ file_size tree
StopsFile OutOfMemory tree = ⊤
StopsFile kind tree = ⊥

-- the fault says why a file of the tree isn't stored: its kind is `Io`, or one for which no file is
-- made; nothing is said of what is stored then, since the contents of files aren't modelled
abbrev pub IsUnstored : Tree → Fault → Type 0
IsUnstored tree fault =
    (fault.offset ≡ None) × MatchFault fault.kind ⊤ ⊤ (StopsFile fault.kind tree)

module _ {W : Type 0} (contents : W → Option (List ℕ)) where
  -- the only errors are `Io`, after a prefix of a file of the tree was written, and those for which
  -- no file is made and the writer is unchanged
  abbrev pub StopsSending : FaultKind → Tree → (old new : W) → Type 0
  StopsSending Io tree old new =
      (file : List ℕ) × IsFileOf tree file × AppendsPrefix (contents old) (contents new) file
  StopsSending kind tree old new = StopsFile kind tree × (new ≡ old)

  -- a file of the tree is written, or an error stops it
  abbrev pub SendsTree : Tree → Answer → (old new : W) → Type 0
  SendsTree tree (Ok done) old new =
      (file : List ℕ) × IsFileOf tree file × Appends (contents old) (contents new) file
  SendsTree tree (Err fault) old new = (fault.offset ≡ None) × StopsSending fault.kind tree old new

  -- a file of the value's tree is written, or an error stops it
  abbrev pub SendsValue : Value → Result (Unit {0}) Error → (old new : W) → Type 0
  SendsValue value answer old new = SendsTree (tree_of value) (answer_of answer) old new

-- the contents of a file that is created at its first write
module _ {F : Type 0} (contents : F → Option (List ℕ)) where
  -- the bytes of the file, if they are known; `None` before the file is created
  abbrev pub contents_of : Option F → Option (List ℕ)
  contents_of None = None
  contents_of (Some file) = contents file

  -- if a file is open afterwards, it was created, and as many of the bytes as the call returned
  -- were appended to it
  abbrev pub WritesFirst : {E : Type 0} → Result ℕ E → (bytes : List ℕ) → (now : Option F) → Type 0
  WritesFirst answer bytes now = IfSome now (λ file.
      (made : F) × WriteAppends (contents made) (contents file) answer bytes)
