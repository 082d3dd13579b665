-- How a run of the program ends.
use Rattle.std.specs.Prelude.{◌≡◌, ◌⊎◌, ℕ, Bool, List, Result, MatchResult}
use Rattle.plist_base.specs.declared.error.Error.{Error}
use Rattle.plist_base.specs.Faults.{fault_of}
use Rattle.plist_commands.specs.Commands.{CommandOutcome, IsNoCommand, IsStatusAfter, OfPlist, PlainCommand, PlainMessage, Fault, Usage, words_for}

-- this is the status of a run with some arguments: either they ask for no command, nothing is
-- printed, and the usage is reported; or they ask for one, and the status follows from its outcome
abbrev pub RunsWords : {O E : Type 0} → (reports : E → PlainMessage → Bool → E → Type 0)
    → (status : ℕ) → (old new : O) → (err told : E) → Type 0
RunsWords reports status old new err told =
    (words : List (List ℕ))
    × ((IsNoCommand words × (status ≡ 2) × (new ≡ old)
    × ((whole : Bool) × reports err Usage whole told))
    ⊎ ((asked : PlainCommand) × (words ≡ words_for asked)
    × ((answer : CommandOutcome) × IsStatusAfter reports answer status err told)))

-- the exit code is the status, or 1 after an error
abbrev pub IsStatusOf : Result ℕ Error → (code : ℕ) → Type 0
IsStatusOf answer code = MatchResult answer (λ status. code ≡ status) (λ _. code ≡ 1)

-- the error was reported; or the result isn't an error, and nothing was reported
abbrev pub ReportsFault : {E : Type 0} → (reports : E → PlainMessage → Bool → E → Type 0)
    → Result ℕ Error → (old new : E) → Type 0
ReportsFault reports answer old new = MatchResult answer (λ _. new ≡ old)
    (λ error. (whole : Bool) × reports old (Fault (OfPlist (fault_of error))) whole new)
