-- What the status of a run says of its arguments.
use Rattle.std.proofs.Common.{◌≡◌, ◌≢◌, ◌↔◌, ◌⊎◌, ℕ, Bool, true, false, eqb, List, inl, inr}
use Rattle.std.proofs.lemmas.Bool.Decides.{eqb_tells}
use Rattle.plist_commands.specs.Commands.{CommandOutcome, IsNoCommand, IsStatusAfter, PlainCommand, PlainMessage, Usage, words_for}
use Rattle.plist_tool.specs.Exits.{RunsWords}

pub runs : {O E : Type 0} (reports : E → PlainMessage → Bool → E → Type 0)
    (words : List (List ℕ)) (status : ℕ) (old new : O) (err told : E)
    → (status ≡ 2) ↔ IsNoCommand words → (status ≡ 2 → new ≡ old)
    → (status ≡ 2 → (whole : Bool) × reports err Usage whole told)
    → (status ≢ 2 → (answer : CommandOutcome)
    × ((asked : PlainCommand) × (words ≡ words_for asked) × Unit {0})
    × IsStatusAfter reports answer status err told)
    → RunsWords reports status old new err told
runs reports words status old new err told wrong silent usage ends = by (eqb_tells status 2)
  where
    by : ((eqb status 2 ≡ true) × (status ≡ 2)) ⊎ ((eqb status 2 ≡ false) × (status ≢ 2))
        → RunsWords reports status old new err told
    by (inl (test, is)) = (words, inl (wrong.0 is, is, silent is, usage is))
    by (inr (test, other)) =
        let (answer, (asked, same, any), ended) = ends other in
        (words, inr (asked, same, (answer, ended)))
