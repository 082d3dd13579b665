-- Characters in UTF-16.
use Rattle.std.proofs.Common.{◌≡◌, ℕ, ◌+◌, ◌*◌, ◌/◌, ◌<◌, ◌≤◌, ◌⊎◌, inl, inr, Bool, true, false, List, ◌∷◌, length, get_or, drop, ap, sym, refl, subst, ◌∙◌, arith, cond, nat_lt, Some, zero-add}
use Rattle.std.proofs.Math.Utf8.{low_scalar}
use Rattle.std.proofs.Math.ListN.{get_or-eq_default}
use Rattle.std.proofs.lemmas.Str.{len_utf8_bounds}
use Rattle.std.proofs.lemmas.Bool.{le-leb, lt-ltb, le-ltb}
use Rattle.std.proofs.lemmas.List.FromFn.{get_or-map-range_with_len, length-map-range_with_len}
use Rattle.std.proofs.str.Utf16.{IsPair, lone_unit_char_high, lone_unit_char_low, lone_unit_char_surrogate, utf16_chars-drop_all, utf16_chars-drop_lone, utf16_chars-drop_pair}
use Rattle.std.specs.Char.{IsScalar, len_utf8}
use Rattle.std.specs.Char.Utf16.{lone_unit_char, surrogate_pair_char, utf16_chars}
use Rattle.plist_base.specs.Container.{number_at, numbers_spelled}
use Rattle.plist_base.specs.Utf16.{IsNextChar, IsUnpaired, unit_at}

-- the code of a character that isn't below the surrogates
high_scalar : (c : ℕ) → 57344 ≤ c → c < 1114112 → IsScalar c
high_scalar c from below =
    rw (le-ltb c 55296 (omega arith), le-leb 57344 c from, lt-ltb c 1114112 below) refl

-- a code that isn't a surrogate is that of a character
pub scalar_of : (c : ℕ) → c < 1114112 → (c < 55296) ⊎ (57344 ≤ c) → IsScalar c
scalar_of c below (inl low) = low_scalar c low
scalar_of c below (inr high) = high_scalar c high below

at_most_three : (x y : Bool) → cond x 1 (cond y 2 3) ≤ 3
at_most_three true y = omega arith
at_most_three false true = omega arith
at_most_three false false = omega arith

-- a character of one unit has at most three bytes in UTF-8
pub len_of_unit : (c : ℕ) → c < 65536 → len_utf8 c ≤ 3
len_of_unit c below = rw (lt-ltb c 65536 below) (at_most_three (nat_lt c 128) (nat_lt c 2048))

-- a unit that isn't a surrogate encodes a character by itself
pub lone_char : (u : ℕ) → (u < 55296) ⊎ (57344 ≤ u) → lone_unit_char u ≡ Some u
lone_char u (inl low) = lone_unit_char_low u low
lone_char u (inr high) = lone_unit_char_high u high

module _ (bytes : List ℕ) where
  pub units_length : length (numbers_spelled 2 bytes) ≡ length bytes / 2
  units_length = length-map-range_with_len (λ i. number_at bytes (i * 2) 2) 0 (length bytes / 2)

  pub nth_unit : (i : ℕ) → i < length bytes / 2
      → get_or (numbers_spelled 2 bytes) i 0 ≡ unit_at bytes i
  nth_unit i within = get_or-map-range_with_len (λ i. number_at bytes (i * 2) 2) 0
      (length bytes / 2) i i 0 within (zero-add i)

  module _ (at : ℕ) (within : 2 * at + 2 ≤ length bytes) where
    abbrev units : List ℕ
    units = numbers_spelled 2 bytes

    inside : at < length units
    inside = omega (arith, units_length, within)

    here : get_or units at 0 ≡ unit_at bytes at
    here = nth_unit at (omega (arith, within))

    -- the units from the index on, if the first one isn't one of a pair
    alone : (IsPair (unit_at bytes at) (get_or units (at + 1) 0) → ⊥)
        → utf16_chars (drop at units) ≡ lone_unit_char (unit_at bytes at) ∷ utf16_chars (drop (at + 1) units)
    alone apart = subst (λ u. (IsPair u (get_or units (at + 1) 0) → ⊥)
        → utf16_chars (drop at units) ≡ lone_unit_char u ∷ utf16_chars (drop (at + 1) units)) here
        (utf16_chars-drop_lone units at inside) apart

    pub unpaired : 55296 ≤ unit_at bytes at → unit_at bytes at < 57344
        → (IsPair (unit_at bytes at) (get_or units (at + 1) 0) → ⊥) → IsUnpaired bytes at
    unpaired from below apart = alone apart
        ∙ ap (λ o. o ∷ utf16_chars (drop (at + 1) units)) (lone_unit_char_surrogate _ from below)

    -- the last unit isn't the first one of a pair
    pub last_unpaired : 55296 ≤ unit_at bytes at → unit_at bytes at < 57344
        → length bytes < 2 * at + 4 → IsUnpaired bytes at
    last_unpaired from below last = unpaired from below (λ pair.
        omega (arith, pair.2, get_or-eq_default units 0 {n = at + 1} (omega (arith, units_length, last))))

    pub next_lone : unit_at bytes at < 65536
        → (unit_at bytes at < 55296) ⊎ (57344 ≤ unit_at bytes at)
        → IsNextChar bytes at (unit_at bytes at, at + 1)
    next_lone small outside = record {
      after = omega arith;
      within = omega (arith, within);
      size = let three = len_of_unit _ small in omega (arith, three);
      scalar = scalar_of _ (omega (arith, small)) outside;
      chars = alone (λ pair. elim outside as (λ _. ⊥) [ inl low ↦ omega (arith, pair.0, low) | inr high ↦ omega (arith, pair.1, high) ])
          ∙ ap (λ o. o ∷ utf16_chars (drop (at + 1) units)) (lone_char _ outside);
    }

    pub next_pair : (code : ℕ) → 2 * at + 4 ≤ length bytes
        → IsPair (unit_at bytes at) (unit_at bytes (at + 1))
        → code ≡ surrogate_pair_char (unit_at bytes at) (unit_at bytes (at + 1))
        → IsNextChar bytes at (code, at + 2)
    next_pair code more pair is =
        let next = nth_unit (at + 1) (omega (arith, more)) in
        let two = utf16_chars-drop_pair units at (omega (arith, units_length, more)) in
        record {
          after = omega arith;
          within = omega (arith, more);
          size = let four = len_utf8_bounds code in omega (arith, four.1);
          scalar = scalar_of code (omega (arith, is, pair.1, pair.3)) (inr (omega (arith, is)));
          chars = rw (here, next) at two pair
              ∙ ap (λ c. Some c ∷ utf16_chars (drop (at + 2) units)) (sym is);
        }

-- rules for the end of the units
pub ruleset at_end = (utf16_chars-drop_all, units_length)

-- rules for surrogates
pub ruleset surrogates = (last_unpaired, next_pair, unpaired)
