-- Why a value isn't read back from its own file.
use Rattle.std.specs.Prelude.{◌^◌, ◌≤◌, ⊤}
use Rattle.plist_base.specs.Faults.{FaultKind, Io, OutOfMemory, PlistTooLarge}
use Rattle.plist_base.specs.Trees.{Tree}
use Rattle.plist_binwrite.specs.Sizes.{file_size}

-- the file would have 2^64 bytes or more, or memory runs out, which is `Io` if the vector can't
-- grow
abbrev pub PreventsReadBack : FaultKind → Tree → Type 0
PreventsReadBack PlistTooLarge tree = 2 ^ 64 ≤ file_size tree
PreventsReadBack OutOfMemory tree = ⊤
PreventsReadBack Io tree = ⊤
PreventsReadBack kind tree = ⊥
