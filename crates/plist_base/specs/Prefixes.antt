-- A writer's bytes after a prefix of some bytes was written.
use Rattle.std.specs.Prelude.{◌≡◌, ℕ, List, ◌++◌, Option}
use Rattle.std.specs.Io.KnownBytes.{Appends}

-- a prefix of `all` was appended to the known bytes
abbrev pub AppendsPrefix : Option (List ℕ) → Option (List ℕ) → (all : List ℕ) → Type 0
AppendsPrefix old new all =
    (sent : List ℕ) × (more : List ℕ) × Appends old new sent × (all ≡ sent ++ more)
