-- A quoted string, part by part.
use Rattle.std.proofs.Common.{◌≡◌, ℕ, zero, suc, ◌+◌, ◌≤◌, ◌≢◌, true, cond, List, [], ◌∷◌, ◌++◌, length, take, drop, Option, None, Some, Result, Ok, Err, refl, arith, rules, append_assoc, append-nil, length-drop}
use Rattle.std.specs.Prelude.{◌==◌, IfSome, vec_items}
use Rattle.std.proofs.lemmas.Bool.{eq-eqb, ne_eqb}
use Rattle.std.specs.declared.alloc.Global.{Global}
use Rattle.std.specs.declared.vec.Vec.{Vec}
use Rattle.std.proofs.lemmas.Grind.{common_steps}
use Rattle.plist_base.specs.Faults.{UnclosedString}
use Rattle.plist_ascii.specs.declared.fault.TokenFault.{TokenFault}
use Rattle.plist_ascii.specs.declared.input.Input.{Input}
use Rattle.plist_ascii.specs.declared.stop.Stop.TheVariants as stop
use Rattle.plist_ascii.specs.declared.unescape.Escaped.{Escaped}
use Rattle.plist_ascii.specs.TokenPrefixes.{code_of, Taken, taken, past, past_one, after_byte, followed, in_sequence, run}
use Rattle.plist_ascii.specs.Escapes.{escape}
use Rattle.plist_ascii.specs.Texts.{prepended, ends_run, quoted_in, quoted}
use Rattle.plist_ascii.specs.inner.Inputs.{GivesBy, TakesNext, TakesOneMore, TakesRun, escaped_bytes, kind_in_bytes}
use Rattle.plist_ascii.proofs.Runs.{run_elim}
use Rattle.plist_ascii.proofs.TokenOutcomes.{gives_after, past_more}

-- ---- the first byte

-- what the byte c begins, given how the rest of the string is taken
abbrev step : (quote : ℕ) → (more : List ℕ → Taken (List ℕ)) → ℕ → List ℕ → Taken (List ℕ)
step quote more c rest =
    cond (c == quote) (taken 0 (Ok [])) (cond (c == code_of "\\")
    (followed rest (escape rest).bytes (escape rest).gives
    (λ text left. prepended text (more left))) (prepended (c ∷ []) (more rest)))

-- the meaning doesn't depend on the fuel, if that is at least the number of bytes
quoted_fuel : (quote r s : ℕ) (xs : List ℕ) → length xs ≤ r → length xs ≤ s
    → quoted_in quote r xs ≡ quoted_in quote s xs
unfolding quoted_in
quoted_fuel quote zero zero xs l m = refl
quoted_fuel quote zero (suc s) [] l m = refl
quoted_fuel quote zero (suc s) (c ∷ xs) l m = absurd (let none : ⊥ = omega arith in none)
quoted_fuel quote (suc r) zero [] l m = refl
quoted_fuel quote (suc r) zero (c ∷ xs) l m = absurd (let none : ⊥ = omega arith in none)
quoted_fuel quote (suc r) (suc s) [] l m = refl
quoted_fuel quote (suc r) (suc s) (c ∷ xs) l m =
    let left = drop (escape xs).bytes xs in
    let less : length left ≤ length xs = rw length-drop (omega arith) in
    let same = quoted_fuel quote r s left (omega arith) (omega arith) in
    let next = quoted_fuel quote r s xs (omega arith) (omega arith) in
    search rules

quoted_opens : (quote c : ℕ) (xs : List ℕ)
    → quoted quote (c ∷ xs) ≡ past_one (step quote (quoted quote) c xs)
unfolding quoted_in
quoted_opens quote c xs =
    let left = drop (escape xs).bytes xs in
    let less : length left ≤ length xs = rw length-drop (omega arith) in
    let same = quoted_fuel quote (length xs) (length left) left less (omega arith) in
    search rules

-- ---- a run of plain bytes

-- the rest of a string, after what stands for `text`
abbrev pub rest_of : (quote : ℕ) (text : List ℕ) → List ℕ → Taken (List ℕ)
rest_of quote text xs = prepended text (quoted quote xs)

-- the rest of a string, which begins with its closing quote or an escape
abbrev pub rest_from_stop : (quote : ℕ) (text : List ℕ) → List ℕ → Taken (List ℕ)
rest_from_stop quote text = after_byte (λ c rest. cond (c == quote) (taken 0 (Ok text))
    (in_sequence escape (λ part. rest_of quote (text ++ part)) rest))

at_end : (quote : ℕ) (text : List ℕ)
    → rest_of quote text [] ≡ past 0 (rest_from_stop quote (text ++ []) [])
unfolding quoted_in
at_end quote text = refl

at_stop : (quote c : ℕ) (cs : List ℕ) → ends_run quote c ≡ true → (text : List ℕ)
    → rest_of quote text (c ∷ cs) ≡ past 0 (rest_from_stop quote (text ++ []) (c ∷ cs))
at_stop quote c cs e text =
    rw (append-nil text, quoted_opens quote c cs) (search (rules, append_assoc))

-- the bytes of a run stand for themselves
quoted_runs : (quote : ℕ) (text xs : List ℕ) → let m = run (ends_run quote) xs in
    rest_of quote text xs ≡ past m (rest_from_stop quote (text ++ take m xs) (drop m xs))
quoted_runs quote text xs = run_elim (ends_run quote) (λ xs m. (text : List ℕ)
    → rest_of quote text xs ≡ past m (rest_from_stop quote (text ++ take m xs) (drop m xs)))
    (at_end quote) (at_stop quote) (λ c cs e h text.
    let on = h (text ++ c ∷ []) in
    rw (quoted_opens quote c cs) (search (rules, append_assoc))) xs text

-- a string without escapes
pub quoted_plain : (quote : ℕ) (xs zs : List ℕ) → let m = run (ends_run quote) xs in
    drop m xs ≡ quote ∷ zs → quoted quote xs ≡ taken (m + 1) (Ok (take m xs))
quoted_plain quote xs zs e =
    let on = quoted_runs quote [] xs in
    let closed = eq-eqb quote quote refl in
    search rules

-- ---- the parts of a string

module _ {R : Type 0} {known : R → Option (List ℕ)} (quote : ℕ) (text : List ℕ)
    {old mid new : Input R} where
  module _ {X : Type 0} {view : X → List ℕ} {answer : Result X TokenFault} {longer : List ℕ} where
    -- a run was taken, and then the rest of the string
    pub run_quoted : TakesRun known (stop.Quoted quote) (λ run. longer ≡ text ++ run) old mid
        → old.taken ≤ mid.taken
        → GivesBy known view (rest_from_stop quote longer) mid answer new
        → GivesBy known view (rest_of quote text) old answer new
    run_quoted took le a = gives_after a le (λ xs e.
        let k = took.bytes xs e in (_, k.1, k.2, rw k.0 (quoted_runs quote text xs)))

    -- a backslash and an escape were taken, and then the rest of the string
    pub escape_quoted : {c : ℕ} {piece : Escaped} {left : Input R}
        → TakesNext known old (Some c) left → TakesOneMore old left → c ≢ quote
        → GivesBy known escaped_bytes escape left (Ok piece) mid
        → longer ≡ text ++ escaped_bytes piece
        → GivesBy known view (rest_of quote longer) mid answer new
        → GivesBy known view (rest_from_stop quote text) old answer new
    escape_quoted next one other a is b = gives_after b (omega (arith, one.0, a.rises)) (λ xs e.
        let k = next xs e in
        let r = a.gives k.0 k.2 in (
          suc (escape (drop 1 xs)).bytes,
          rw k.1 r.1,
          rw k.1 (omega (arith, r.2, one.0)),
          rw (k.1, ne_eqb _ _ other, r.0, is) (past_more _ _),
        ))

  -- the escape has a fault
  pub escape_fails : {X : Type 0} {view : X → List ℕ} {c : ℕ} {f : TokenFault}
      → TakesNext known old (Some c) mid → TakesOneMore old mid → c ≢ quote
      → GivesBy known escaped_bytes escape mid (Err f) new
      → GivesBy known view (rest_from_stop quote text) old (Err f) new
  escape_fails next one other a = grind (arith, common_steps)

-- the input ends before the closing quote
pub quote_misses : {R : Type 0} {known : R → Option (List ℕ)} {X : Type 0} {view : X → List ℕ}
    (quote : ℕ) (text : List ℕ) {old new : Input R} (f : TokenFault)
    → IfSome (kind_in_bytes f) (λ kind. (kind ≡ UnclosedString) × TakesNext known old None new)
    → new.taken ≡ old.taken → GivesBy known view (rest_from_stop quote text) old (Err f) new
quote_misses quote text f h same = grind (arith, common_steps)

-- the closing quote ends a string
pub quote_closes : {R : Type 0} {known : R → Option (List ℕ)} (quote c : ℕ) (text : Vec ℕ Global)
    {old new : Input R} → TakesNext known old (Some c) new → TakesOneMore old new → c ≡ quote
    → GivesBy known vec_items (rest_from_stop quote text.items) old (Ok text) new
quote_closes quote c text next one is = grind (arith, common_steps)
