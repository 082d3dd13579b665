-- What a conversion reads, and what it writes.
use Rattle.std.specs.Prelude.{◌≡◌, ◌⊎◌, ℕ, List, Option, Ok, Err}
use Rattle.plist_base.specs.declared.error.Error.{Error}
use Rattle.plist_base.specs.Faults.{fault_of}
use Rattle.plist_base.specs.Trees.{Tree}
use Rattle.plist_binwrite.specs.Files.{IsFileOf}
use Rattle.plist_reader.specs.Reader.{items_of_input}
use Rattle.plist.specs.declared.value.Value.{Value}
use Rattle.plist.specs.ValueOfItems.{IsValueOf}
use Rattle.plist.specs.SendingValues.{SendsValue}
use Rattle.plist.specs.ValueTrees.{tree_of}
use Rattle.plist_uses.specs.Settings.{IsReadOf}

-- the source was rejected, and the writer is unchanged; or it was read, and writing the value's
-- file failed
abbrev pub RefusesConverting : {W : Type 0} → (known : Option (List ℕ))
    → (contents : W → Option (List ℕ)) → (old new : W) → Error → Type 0
RefusesConverting known contents old new error =
    (IsReadOf known (Err (fault_of error)) × (new ≡ old))
    ⊎ ((value : Value) × IsReadOf known (Ok (tree_of value))
    × SendsValue contents value (Err error) old new)

-- the bytes are a file of the value of an input
abbrev pub IsFileOfInput : (input bytes : List ℕ) → Type 0
IsFileOfInput input bytes =
    (tree : Tree) × IsValueOf (items_of_input input) (Ok tree) × IsFileOf tree bytes
