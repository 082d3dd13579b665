-- How many bytes are taken from the front of a list, and what they mean.
use Rattle.std.specs.Prelude.{ℕ, suc, zero, ◌+◌, Bool, not, ◌==◌, codes, List, [], ◌∷◌, drop, slice_index, Result, Ok, Err}
use Prim.Native.String.{String}
use Rattle.std.specs.List.{list_any, prefix_len}
use Rattle.plist_base.specs.Faults.{FaultKind, UnclosedString}

-- the number of bytes taken, and their meaning or fault
pub record Taken (A : Type 0) : Type 0 where
  pub bytes : ℕ
  pub gives : Result A FaultKind

-- n bytes are taken, with this meaning or fault
abbrev pub taken : {A : Type 0} → ℕ → Result A FaultKind → Taken A
taken n outcome = record { bytes = n; gives = outcome }

-- one byte more is taken, before the others
abbrev pub past_one : {A : Type 0} → Taken A → Taken A
past_one t = record { bytes = suc t.bytes; gives = t.gives }

-- n bytes more are taken, before the others
abbrev pub past : {A : Type 0} → ℕ → Taken A → Taken A
past n t = record { bytes = n + t.bytes; gives = t.gives }

-- n bytes are taken, and then, given their meaning, what `next` takes; after a fault nothing more
-- is taken
abbrev pub followed : {A B : Type 0} → List ℕ → ℕ → Result A FaultKind → (A → List ℕ → Taken B)
    → Taken B
followed bytes n (Ok a) next = past n (next a (drop n bytes))
followed bytes n (Err fault) next = taken n (Err fault)

-- what `first` takes, and then, given its meaning, what `next` takes; after a fault nothing more is
-- taken
abbrev pub in_sequence : {A B : Type 0} → (first : List ℕ → Taken A)
    → (next : A → List ℕ → Taken B) → List ℕ → Taken B
in_sequence first next bytes = followed bytes (first bytes).bytes (first bytes).gives next

-- one byte is taken, and then what `next` takes; if there is no byte, the string is unclosed
abbrev pub after_byte : {A : Type 0} → (ℕ → List ℕ → Taken A) → List ℕ → Taken A
after_byte next [] = taken 0 (Err UnclosedString)
after_byte next (c ∷ rest) = past_one (next c rest)

-- `count` bytes are taken with their meaning; if there are fewer, all are taken, and the string is
-- unclosed
abbrev pub needs : {A : Type 0} → (count : ℕ) → (List ℕ → Result A FaultKind) → List ℕ → Taken A
needs zero meaning = λ rest. taken 0 (meaning [])
needs (suc count) meaning = after_byte (λ c. needs count (λ bytes. meaning (c ∷ bytes)))

-- the byte of an ASCII character, which is given as a string
abbrev pub code_of : String → ℕ
code_of character = slice_index (codes character) 0

-- is the byte one of these characters?
abbrev pub is_one_of : String → ℕ → Bool
is_one_of characters c = list_any (λ d. c == d) (codes characters)

-- the number of bytes before the first stop
abbrev pub run : (stops : ℕ → Bool) → List ℕ → ℕ
run stops bytes = prefix_len (λ c. not (stops c)) bytes
