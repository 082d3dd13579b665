-- Block comments, up to the star that a slash follows.
use Rattle.std.proofs.Common.{◌≡◌, ℕ, suc, ◌+◌, Bool, false, List, [], ◌∷◌, drop, None, Ok, Err, refl, ap, ◌∙◌, arith, rules}
use Rattle.std.specs.Prelude.{◌==◌}
use Rattle.std.proofs.lemmas.List.{drop-drop}
use Rattle.plist_base.specs.Faults.{IncompleteComment}
use Rattle.plist_ascii.specs.TokenPrefixes.{code_of, past, past_one, run, taken}
use Rattle.plist_ascii.specs.Texts.{begins_with, block_comment}
use Rattle.plist_ascii.proofs.Runs.{run_elim, stop_next}
use Rattle.plist_ascii.proofs.TokenOutcomes.{past_none}

abbrev pub is_star : ℕ → Bool
is_star c = c == code_of "*"

-- a comment isn't closed before its first star
plain_run : (xs : List ℕ) → let n = run is_star xs in
    block_comment xs ≡ past n (block_comment (drop n xs))
plain_run = run_elim is_star (λ xs n. block_comment xs ≡ past n (block_comment (drop n xs)))
    (past_none _) (λ c cs e. past_none _) (λ c cs e h. search rules)

module _ (xs : List ℕ) {c : ℕ} {zs : List ℕ} (e : drop (run is_star xs) xs ≡ c ∷ zs) where
  -- a slash after the star closes the comment
  pub star_closes : {ws : List ℕ} → zs ≡ code_of "/" ∷ ws
      → (block_comment xs ≡ taken (run is_star xs + 2) (Ok None))
      × (ws ≡ drop (run is_star xs + 2) xs)
  star_closes s = (
    plain_run xs ∙ rw (e, s, stop_next is_star xs e) refl,
    rw (← drop-drop 2 (run is_star xs) xs, e, s) refl,
  )

  -- without a slash after the star, the comment isn't closed
  pub star_opens : begins_with (code_of "/") zs ≡ false
      → (zs ≡ drop (run is_star xs + 1) xs)
      × (block_comment xs ≡ past (run is_star xs + 1) (block_comment zs))
  star_opens s =
      let t = block_comment zs in
      let n : run is_star xs + suc t.bytes ≡ run is_star xs + 1 + t.bytes = omega arith in
      let star = stop_next is_star xs e in
      let opens : block_comment (c ∷ zs) ≡ past_one t = search rules in (
        rw (← drop-drop 1 (run is_star xs) xs, e) refl,
        plain_run xs ∙ rw (e, opens) (ap (λ n. taken n t.gives) n),
      )

-- if no star is left, the comment isn't complete
pub star_misses : (xs : List ℕ) → drop (run is_star xs) xs ≡ []
    → block_comment xs ≡ taken (run is_star xs) (Err IncompleteComment)
star_misses xs e = let on = rw e at (plain_run xs) in search rules
