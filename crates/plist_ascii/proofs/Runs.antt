-- Runs of bytes without a stop, which are taken part by part.
use Rattle.std.proofs.Common.{◌≡◌, ℕ, zero, suc, ◌+◌, ◌<◌, ◌≤◌, Bool, true, false, List, [], ◌∷◌, ◌++◌, length, take, drop, Option, None, Some, Ok, refl, arith}
use Rattle.std.specs.Prelude.{nat_eq}
use Rattle.std.proofs.lemmas.Bool.{cond_both, eqb-true, ne_eqb}
use Rattle.std.proofs.lemmas.Grind.{common_steps}
use Rattle.std.proofs.lemmas.List.{drop-drop, take-append-le}
use Rattle.std.proofs.lemmas.List.Folds.{prefix_len-append}
use Rattle.std.proofs.Math.Seq.{take-add}
use Rattle.plist_ascii.specs.TokenPrefixes.{run}
use Rattle.plist_ascii.specs.Unread.{IfKnown, stops, unread}
use Rattle.plist_ascii.specs.declared.input.Input.{Input}
use Rattle.plist_ascii.specs.declared.stop.Stop.{Stop}
use Rattle.plist_ascii.specs.inner.Inputs.{LooksAhead, TakesPart, TakesRun}

module _ (stop : ℕ → Bool) where
  -- what is true of no bytes and at a stop, and of one byte more before a run of which it is true,
  -- is true of every run
  pub run_elim : (P : List ℕ → ℕ → Type 0) → P [] 0
      → ((c : ℕ) (cs : List ℕ) → stop c ≡ true → P (c ∷ cs) 0)
      → ((c : ℕ) (cs : List ℕ) → stop c ≡ false → P cs (run stop cs)
      → P (c ∷ cs) (suc (run stop cs)))
      → (xs : List ℕ) → P xs (run stop xs)
  run_elim P none here more [] = none
  run_elim P none here more (c ∷ cs) = by (stop c) refl (run_elim P none here more cs)
    where
      by : (b : Bool) → stop c ≡ b → P cs (run stop cs) → P (c ∷ cs) (run stop (c ∷ cs))
      by true e h = rw e (here c cs e)
      by false e h =
          let one : 1 + run stop cs ≡ suc (run stop cs) = omega arith in rw (e, one) (more c cs e h)

  -- after the first bytes of a run, the rest of the run follows
  pub run_on : (n : ℕ) (xs : List ℕ) → n ≤ run stop xs → run stop xs ≡ n + run stop (drop n xs)
  run_on zero xs l = omega arith
  run_on (suc n) [] l = absurd (let none : ⊥ = omega arith in none)
  run_on (suc n) (c ∷ cs) l = grind (arith, run_on n cs)

  -- the byte at which a run ends is a stop
  pub stop_next : (xs : List ℕ) {c : ℕ} {zs : List ℕ} → drop (run stop xs) xs ≡ c ∷ zs
      → stop c ≡ true
  stop_next xs {c} {zs} = run_elim (λ xs n. drop n xs ≡ c ∷ zs → stop c ≡ true) (λ e. cc)
      (λ b bs t e. let same : b ≡ c = cc in rw same at t) (λ b bs t h. h) xs

  -- a run that ends among the first bytes has the same length in all bytes
  pub run_front : (front rest : List ℕ) → run stop front < length front
      → run stop (front ++ rest) ≡ run stop front
  run_front front rest less =
      rw (prefix_len-append, ne_eqb (run stop front) (length front) (λ e. omega arith)) refl

  -- the run of the bytes at hand is the first part of the run of all bytes, or all of it
  pub run_at : (hand rest : List ℕ) → let n = run stop hand in (n ≤ run stop (hand ++ rest))
      × (nat_eq n (length hand) ≡ false → n ≡ run stop (hand ++ rest))
  run_at hand rest = (
    rw prefix_len-append (cond_both (nat_eq n (length hand)) _ n (λ m. n ≤ m)
        (λ e. let all = eqb-true n (length hand) e in omega arith) (λ e. omega arith)),
    λ e. rw (prefix_len-append, e) refl,
  )
    where
      n : ℕ
      n = run stop hand

module _ {R : Type 0} {known : R → Option (List ℕ)} {stop : Stop} {P : List ℕ → Type 0}
    {old mid : Input R} where
  -- the bytes at hand before a stop were taken
  pub part_at : (bytes : List ℕ) (n : ℕ) {hand : List ℕ} → P (take n bytes) → bytes ≡ hand
      → IfKnown (unread known old) (λ xs. (rest : List ℕ) × (xs ≡ hand ++ rest))
      → n ≡ run (stops stop) bytes → n ≤ length bytes
      → IfKnown (unread known old) (λ xs. unread known mid ≡ Some (drop n xs))
      → mid.taken ≡ old.taken + n
      → TakesPart known stop P old (nat_eq n (length bytes)) mid
  part_at bytes n is same next size le left place = record {
    bytes = λ xs e.
        let h = next xs e in
        let all : xs ≡ bytes ++ h.0 = rw (← same) at h.1 in
        let k = rw (← size) at (run_at (stops stop) bytes h.0) in
        (n, rw (all, take-append-le n bytes h.0 le) is, left xs e, place, rw all k.0, rw all k.1);
  }

  -- no bytes remain, and the run has ended
  pub none_ends : {window : R → List ℕ} {failed : R → Option ℕ}
      → LooksAhead known window failed old (Ok None) mid → P [] → TakesRun known stop P old mid
  none_ends l h = grind (arith, common_steps)

  module _ {more : Bool} (part : TakesPart known stop P old more mid) where
    -- before the part was taken, a byte was looked at
    pub looked_part : {window : R → List ℕ} {failed : R → Option ℕ} {first : Input R} {c : ℕ}
        → LooksAhead known window failed first (Ok (Some c)) old
        → TakesPart known stop P first more mid
    looked_part l = grind (arith, common_steps)

    -- after the part the rest of the run was taken
    pub runs_on : {Q S : List ℕ → Type 0} {new : Input R}
        → ((a b : List ℕ) → P a → Q b → S (a ++ b)) → TakesRun known stop Q mid new
        → TakesRun known stop S old new
    runs_on join rest = record {
      bytes = λ xs e.
          let k = part.bytes xs e in
          let r = rest.bytes (drop k.0 xs) k.2 in
          let m = run (stops stop) (drop k.0 xs) in
          rw (run_on (stops stop) k.0 xs k.4, take-add k.0 m xs, ← drop-drop m k.0 xs)
          (join _ _ k.1 r.0, r.1, omega (arith, r.2, k.3));
    }

    -- the part is the whole run
    pub part_ends : {Q : List ℕ → Type 0} → more ≡ false → ((a : List ℕ) → P a → Q a)
        → TakesRun known stop Q old mid
    part_ends none on = grind (arith, common_steps)
