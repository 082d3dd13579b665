-- How the outcomes of a token's parts determine the outcome of the token.
use Rattle.std.proofs.Common.{rules, ◌≡◌, ℕ, suc, ◌+◌, ◌≤◌, Some, ap, ◌∙◌, List, ◌∷◌, drop, Option, Result, Ok, Err, arith}
use Rattle.std.specs.Result.{IsErrAnd, IfErr}
use Rattle.std.proofs.lemmas.Grind.{common_steps}
use Rattle.std.proofs.lemmas.List.{drop-drop}
use Rattle.std.proofs.lemmas.Option.{IfSome_then}
use Rattle.plist_ascii.specs.declared.fault.TokenFault.{TokenFault}
use Rattle.plist_ascii.specs.declared.input.Input.{Input}
use Rattle.plist_ascii.specs.Unread.{IfKnown, unread}
use Rattle.plist_ascii.specs.TokenPrefixes.{Taken, past, past_one, taken}
use Rattle.plist_ascii.specs.inner.Inputs.{GivesBy, LooksAhead, said, TakesNext, TakesOneMore}

pub past_none : {A : Type 0} (t : Taken A) → t ≡ past 0 t
past_none t = let n : t.bytes ≡ 0 + t.bytes = omega arith in ap (λ n. taken n t.gives) n

pub past_more : {A : Type 0} (n : ℕ) (t : Taken A) → past_one (past n t) ≡ past (suc n) t
past_more n t =
    let e : suc (n + t.bytes) ≡ suc n + t.bytes = omega arith in ap (λ n. taken n t.gives) e

module _ {R : Type 0} {known : R → Option (List ℕ)} {X A : Type 0} {view : X → A}
    {front : List ℕ → Taken A} {old mid new : Input R} where
  module _ {answer : Result X TokenFault} {back : List ℕ → Taken A}
      (a : GivesBy known view back mid answer new) where
    -- some bytes were taken, and then what is at the front of the others
    pub gives_after : old.taken ≤ mid.taken → IfKnown (unread known old) (λ xs. (n : ℕ)
        × (unread known mid ≡ Some (drop n xs)) × (mid.taken ≡ old.taken + n)
        × (front xs ≡ past n (back (drop n xs)))) → GivesBy known view front old answer new
    gives_after le h = record {
      rises = omega (arith, a.rises);
      gives = IfSome_then (said view answer) a.gives (λ outcome f xs e.
          let k = h xs e in
          let r = f (drop k.0 xs) k.1 in
          rw k.3 (r.0, r.1 ∙ ap Some (drop-drop _ k.0 xs), omega (arith, r.2, k.2)));
    }

    -- a byte was taken, and then what follows it
    pub gives_next : (c : ℕ) → TakesNext known old (Some c) mid → TakesOneMore old mid
        → ((rest : List ℕ) → front (c ∷ rest) ≡ past_one (back rest))
        → GivesBy known view front old answer new
    gives_next c next one h = grind (arith, common_steps)

    -- the next byte was looked at and not taken
    pub gives_looked : {window : R → List ℕ} {failed : R → Option ℕ} {c : ℕ}
        → LooksAhead known window failed old (Ok (Some c)) mid
        → ((rest : List ℕ) → front (c ∷ rest) ≡ back (c ∷ rest))
        → GivesBy known view front old answer new
    gives_looked l h = grind (arith, common_steps)

-- the fault of a part is passed on as the fault of the whole
pub gives_passed : {R : Type 0} {known : R → Option (List ℕ)} {X Y A : Type 0} {view : X → A}
    {shown : Y → A} {front : List ℕ → Taken A} {old new : Input R} {r : Result X TokenFault}
    {f : TokenFault} → GivesBy known shown front old (Err f) new → IsErrAnd r (λ e. e ≡ f)
    → GivesBy known view front old r new
gives_passed a h = grind (arith, common_steps)

-- what is true of a fault that is passed on is true of the result
pub passed_on : {X : Type 0} (P : TokenFault → Type 0) (r : Result X TokenFault) (f : TokenFault)
    → IsErrAnd r (λ e. e ≡ f) → P f → IfErr r P
passed_on P r f h k = search rules
