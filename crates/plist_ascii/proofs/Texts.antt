-- The meaning of strings, which tokens are strings, and what a slash begins.
use Rattle.std.proofs.Common.{rules, ◌≡◌, ℕ, ◌≤◌, List, Option, Some, Ok, Err, refl, ◌<◌, None, ap, arith, zero, suc, Bool, [], ◌∷◌, ◌++◌, Result, ◌≢◌}
use Rattle.plist_base.specs.declared.event.Event.{Event}
use Rattle.plist_ascii.specs.inner.Inputs.{GivesBy, Means, TakesRun}
use Rattle.plist_ascii.specs.declared.input.Input.{Input}
use Rattle.plist_ascii.specs.declared.stop.Stop.{Stop}
use Rattle.std.specs.Str.{is_utf8}
use Rattle.plist_ascii.specs.declared.fault.TokenFault.{TokenFault}
use Rattle.plist_base.specs.Faults.{InvalidUtf16String, InvalidUtf8AsciiStream, FaultKind}
use Rattle.plist_base.specs.Events.{ScalarEvent, event_of}
use Rattle.plist_base.specs.Trees.{Integer, Scalar, String}
use Rattle.std.specs.Option.{option_map_or}
use Rattle.std.specs.Result.{result_flatten, result_map_both}
use Rattle.std.specs.Prelude.{ℤ, SomeIff, ⊤, ◌==◌}
use Rattle.plist_ascii.specs.Texts.{utf8_or_fault, bare, bare_event, quoted_event, quoted_in, quoted, quoted_token, slash}
use Rattle.plist_ascii.specs.Ascii.{IsTextEvent, IsTextFault, IsTextToken}
use lib.Utf8.{low_scalar}
use Rattle.std.specs.Char.{IsScalar, is_digit}
use Rattle.plist_ascii.specs.TokenPrefixes.{code_of, Taken, needs}
use Rattle.plist_ascii.specs.Escapes.{octal_escape, escape, simple_escape, octal_text, code_unit, unit_of, low_half, unicode_escape}
use Rattle.plist_ascii.specs.Unread.{stops}
use Rattle.std.proofs.lemmas.Grind.{common_steps}
use Rattle.std.proofs.lemmas.Bool.{cond_both, ne_eqb}

pub number_is_text : (text : List ℕ) (o : Option ℤ) → IsTextEvent (ScalarEvent
    (option_map_or Integer o (String text)))
number_is_text text None = tt
number_is_text text (Some number) = tt

pub to_char : (r : Option ℕ) (n : ℕ) → n < 512 → SomeIff r (IsScalar n) n → r ≡ Some n
to_char None n l h = absurd (h (low_scalar n (omega arith)))
to_char (Some x) n l h = ap Some h.1

-- if the result is a fault, it is one that a string can have
abbrev pub InText : {A : Type 0} → Result A FaultKind → Type 0
InText (Ok a) = ⊤
InText (Err kind) = IsTextFault kind

utf8_wants : (text : List ℕ) (scalar : Scalar) → IsTextEvent (ScalarEvent scalar)
    → IsTextToken (utf8_or_fault text scalar)
utf8_wants text scalar h = cond_both (is_utf8 text) _ _ IsTextToken (λ e. h) (λ e. tt)

pub bare_wants : (stops : ℕ → Bool) (c : ℕ) (xs : List ℕ) → IsTextToken (bare stops c xs).gives
unfolding bare_event
bare_wants stops c xs = utf8_wants _ _ (number_is_text _ _)

-- ---- the parts of a quoted string

needs_in : {A : Type 0} (n : ℕ) (meaning : List ℕ → Result A FaultKind) (xs : List ℕ)
    → ((ds : List ℕ) → InText (meaning ds)) → InText (needs n meaning xs).gives
needs_in zero meaning xs h = h []
needs_in (suc n) meaning [] h = tt
needs_in (suc n) meaning (c ∷ xs) h = needs_in n _ xs (λ ds. h (c ∷ ds))

unit_in : (xs : List ℕ) → InText (code_unit xs).gives
unit_in xs = needs_in 4 (λ ds. option_map_or Ok (unit_of ds) (Err InvalidUtf16String)) xs
    (λ ds. search rules)

half_in : (xs : List ℕ) → InText (low_half xs).gives
half_in [] = tt
half_in (c ∷ []) = tt
half_in (c ∷ letter ∷ xs) = search (rules, unit_in)

unicode_in : (xs : List ℕ) → InText (unicode_escape xs).gives
unicode_in xs = search (rules, unit_in, half_in)

octal_in : (c : ℕ) (xs : List ℕ) → InText (octal_escape c xs).gives
unfolding octal_text
octal_in c xs = needs_in 2 (λ ds. octal_text (c ∷ ds)) xs (λ ds. search rules)

simple_in : (o : Option ℕ)
    → InText (option_map_or (λ byte. Ok (byte ∷ [])) o (Err InvalidUtf8AsciiStream))
simple_in o = search rules

escape_in : (xs : List ℕ) → InText (escape xs).gives
unfolding escape
escape_in [] = tt
escape_in (c ∷ xs) =
    let P : Taken (List ℕ) → Type 0 = λ t. InText t.gives in
    cond_both (c == code_of "U") _ _ P (λ e. unicode_in xs) (λ e. cond_both (is_digit c 8) _ _ P
    (λ e. octal_in c xs) (λ e. simple_in (simple_escape c)))

quoted_in_text : (quote fuel : ℕ) (xs : List ℕ) → InText (quoted_in quote fuel xs).gives
unfolding quoted_in
quoted_in_text quote zero xs = tt
quoted_in_text quote (suc fuel) [] = tt
quoted_in_text quote (suc fuel) (c ∷ xs) = search (rules, escape_in, quoted_in_text quote fuel)

outcome_wants : (r : Result (List ℕ) FaultKind) → InText r → IsTextToken (result_flatten
    (result_map_both quoted_event (λ fault. fault) r))
unfolding quoted_event
outcome_wants (Ok text) h = utf8_wants text (String text) tt
outcome_wants (Err fault) h = h

pub quoted_wants : (quote : ℕ) (xs : List ℕ) → IsTextToken (quoted_token quote xs).gives
quoted_wants quote xs = outcome_wants (quoted quote xs).gives (quoted_in_text _ _ xs)

-- a slash begins a bare string, unless the next byte is a slash or a star
pub slash_bare : (stops : ℕ → Bool) (c : ℕ) → c ≢ code_of "/" → c ≢ code_of "*" → (xs : List ℕ)
    → slash stops (c ∷ xs) ≡ bare stops (code_of "/") (c ∷ xs)
slash_bare stops c a b xs = rw (ne_eqb _ _ a, ne_eqb _ _ b) refl

pub ruleset text_tokens = (bare_wants, quoted_wants)

-- ---- how the parts of a string determine its meaning

-- the token of a bare string is the event or the fault of its bytes
pub bare_becomes : {R : Type 0} {known : R → Option (List ℕ)} {stop : Stop} (c : ℕ)
    {none text : List ℕ} {old new : Input R} {r : Result Event TokenFault} → none ≡ []
    → Means r (bare_event text)
    → (old.taken ≤ new.taken) × TakesRun known stop (λ run. text ≡ (none ++ c ∷ []) ++ run) old new
    → GivesBy known (λ e. Some (event_of e)) (bare (stops stop) c) old r new
bare_becomes c {r} e m t = grind (arith, common_steps)
