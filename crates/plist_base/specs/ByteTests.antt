-- Properties that all bytes of a list have.
use Rattle.std.specs.Prelude.{◌≡◌, ℕ, ◌<◌, List, length, slice_index, take}

-- each byte of the list has the property
abbrev pub EachByte : (ℕ → Type 0) → List ℕ → Type 0
EachByte passes bytes = (i : ℕ) → i < length bytes → passes (slice_index bytes i)

-- the first `n` bytes were copied to the target, and each of them has the property
pub record CopiesPassing (passes : ℕ → Type 0) (n : ℕ) (bytes target : List ℕ) : Type 0 where
  pub copied : take n target ≡ take n bytes
  pub passed : EachByte passes (take n bytes)
