-- Pairs by their keys, and what contracts see of the items of iterators over them. Two keys are
-- equal if their bytes are.
use Rattle.std.specs.Prelude.{◌≡◌, ◌<◌, ℕ, List, Option, None, Some, IfSome, String, false, is_some, length, position, string_bytes, swap_remove, bytes_eq}
use Rattle.std.specs.Borrow.{Bor}
use Rattle.std.specs.Iterator.{at_most, UpTo}
use Rattle.std.specs.Iterator.SizeHint.{IsWithinCount}
use Rattle.std.specs.Map.{keys_of, lookup}
use Rattle.std.specs.declared.alloc.Global.{Global}
use Rattle.indexmap.specs.IndexMap.{insert_entry, swap_remove_entry}

module _ {V : Type 0} where
  -- the key isn't among the pairs
  abbrev pub IsAbsent : (key : List ℕ) → List (List ℕ × V) → Type 0
  IsAbsent key pairs = is_some (lookup (bytes_eq key) pairs) ≡ false

  -- the new pairs are the old ones with this value at this key
  abbrev pub IsSetAt : (old : List (List ℕ × V)) → List ℕ → V → (new : List (List ℕ × V)) → Type 0
  IsSetAt old key value new = new ≡ insert_entry bytes_eq old key value

  -- the new pairs are the old ones without this key, to whose index the last pair moves
  abbrev pub IsTakenAt : (old : List (List ℕ × V)) → List ℕ → (new : List (List ℕ × V)) → Type 0
  IsTakenAt old key new = new ≡ swap_remove_entry (bytes_eq key) old

module _ {V : Type 0} (key : List ℕ) (pairs : List (List ℕ × V)) where
  -- the key has no value
  abbrev pub HasNone : Type 0
  HasNone = lookup (bytes_eq key) pairs ≡ None

  -- this is the key's index
  abbrev pub IsIndexOf : ℕ → Type 0
  IsIndexOf index = (index < length pairs) × (Some index ≡ position (bytes_eq key) (keys_of pairs))

-- the pair at the index is removed, and the last pair moves there
abbrev pub IsRemovedAt : {X : Type 0} → List X → ℕ → List X → Type 0
IsRemovedAt {X} old index new = (d : X) → new ≡ swap_remove old index d

-- what contracts see of a borrowed key
abbrev pub shown_key : Bor (String Global) → List ℕ
shown_key key = string_bytes key.now

-- what contracts see of a borrowed pair
abbrev pub shown_pair : {V : Type 0} → Bor (String Global) × Bor V → List ℕ × V
shown_pair pair = (string_bytes pair.0.now, pair.1.now)

-- what contracts see of an owned pair
abbrev pub shown_owned_pair : {V : Type 0} → String Global × V → List ℕ × V
shown_owned_pair pair = (string_bytes pair.0, pair.1)

-- an iterator with this many remaining items says so; the first two facts are the trait's
abbrev pub HintsExactly : (count : ℕ) → (hint : ℕ × Option ℕ) → Type 0
HintsExactly count hint =
    IsWithinCount hint.0 (at_most count) × IfSome hint.1 (UpTo (at_most count))
    × (hint ≡ (count, Some count))
