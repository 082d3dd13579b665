-- A string that begins with neither a digit nor a sign spells no number.
use Rattle.std.proofs.Common.{◌≡◌, ℕ, Bool, true, false, None, List, [], ◌∷◌, length, arith, rules}
use Rattle.std.specs.Prelude.{◌==◌, ◌||◌, slice_index_or}
use Rattle.std.specs.Char.{is_digit}
use Rattle.std.proofs.lemmas.Grind.{common_steps}
use Rattle.plist_ascii.specs.TokenPrefixes.{code_of, is_one_of}
use Rattle.plist_base.specs.IntegerText.{integer_of_text}

pub nothing_spelled : (bytes : List ℕ) → (length bytes == 0) ≡ true → integer_of_text bytes ≡ None
unfolding integer_of_text
nothing_spelled bytes e = search rules

-- is the byte a sign or a decimal digit?
abbrev pub begins_number : ℕ → Bool
begins_number c = is_one_of "+-" c || is_digit c 10

begins_none : (c : ℕ) → begins_number c ≡ false → ((c == code_of "0") ≡ false)
    × ((c == code_of "+") ≡ false) × ((c == code_of "-") ≡ false) × (is_digit c 10 ≡ false)
begins_none c e = grind (arith, common_steps)

pub first_spells : (bytes : List ℕ) → begins_number (slice_index_or bytes 0 0) ≡ false
    → integer_of_text bytes ≡ None
unfolding integer_of_text
first_spells [] e = search rules
first_spells (c ∷ []) e = search rules
first_spells (c ∷ b ∷ cs) e =
    let none = begins_none c e in rw (none.0, none.1, none.2, none.3) (search rules)

pub ruleset no_number = (nothing_spelled, first_spells)
