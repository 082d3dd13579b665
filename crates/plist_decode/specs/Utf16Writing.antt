-- The characters of a string in UTF-16 that are written to memory in UTF-8.
use Rattle.std.specs.Prelude.{◌≡◌, ℕ, ◌+◌, ◌≤◌, List, ◌++◌, length, take}
use Rattle.std.specs.Str.{encode_utf8_all}

-- some of the next characters are written after the first bytes; `old` and `new` are the number of
-- these bytes, the memory, and the characters that remain
pub record WritesChars (old new : ℕ × List ℕ × List ℕ) : Type 0 where
  pub written : take new.0 new.1 ++ encode_utf8_all new.2
      ≡ take old.0 old.1 ++ encode_utf8_all old.2
  pub room : new.0 + length (encode_utf8_all new.2) ≡ length new.1
  pub left : length new.2 ≤ length old.2
