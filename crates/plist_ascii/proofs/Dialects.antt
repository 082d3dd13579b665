-- Only bare strings depend on what ends a bare string.
use Rattle.std.proofs.Common.{◌≡◌, ◌⊎◌, inl, inr, ℕ, Bool, true, false, List, [], ◌∷◌, refl, rules}
use Rattle.std.specs.Prelude.{◌==◌}
use Rattle.plist_ascii.specs.declared.token.Lead.{Lead}
use Rattle.plist_ascii.specs.declared.token.Lead.TheVariants as lead
use Rattle.plist_ascii.specs.TokenPrefixes.{code_of, past_one}
use Rattle.plist_ascii.specs.Texts.{bare, lax_stops}
use Rattle.plist_ascii.specs.Ascii.{lead_of, token, token_by, OnlyBareTextsDiffer}

-- the token that c begins doesn't depend on the stops, or is a bare string
abbrev Alike : Lead → ℕ → List ℕ → Type 0
Alike l c rest =
    ((stops : ℕ → Bool) → past_one (token_by stops l c rest) ≡ past_one
    (token_by lax_stops l c rest))
    ⊎ ((stops : ℕ → Bool) → past_one (token_by stops l c rest) ≡ past_one (bare stops c rest))

-- a slash begins a comment, which doesn't depend on the stops, or a bare string
after_slash : (rest : List ℕ) → Alike lead.Slash (code_of "/") rest
after_slash [] = inl (λ stops. refl)
after_slash (c ∷ rest) = by_test _ _ refl refl
  where
    by_test : (a b : Bool) → (c == code_of "/") ≡ a → (c == code_of "*") ≡ b
        → Alike lead.Slash (code_of "/") (c ∷ rest)
    by_test true b e f = inl (λ stops. rw e refl)
    by_test false true e f = inl (λ stops. rw (e, f) refl)
    by_test false false e f = inr (λ stops. rw (e, f) refl)

by_lead : (l : Lead) (c : ℕ) (rest : List ℕ) → (l ≡ lead.Slash → c ≡ code_of "/") → Alike l c rest
by_lead lead.Slash c rest h = rw (h refl) (after_slash _)
by_lead lead.Bare c rest h = inr (λ stops. refl)
by_lead l c rest h = inl (λ stops. refl)

slash_is : (c : ℕ) → lead_of c ≡ lead.Slash → c ≡ code_of "/"
slash_is c e = search rules

pub only_bare_texts_differ : OnlyBareTextsDiffer
unfolding token
only_bare_texts_differ c rest = by_lead _ c _ (slash_is c)
