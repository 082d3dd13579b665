use Rattle.std.proofs.Common.{◌≡◌, Result, Ok, Err, Some, ap, refl, ◌∙◌}
use Rattle.std.proofs.lemmas.Bool.{false≢true}
use Rattle.std.specs.Prelude.{IfErr, IsErr}
use Rattle.std.specs.Result.{result_err}
use Rattle.plist_base.specs.Date.{real_exponent, second_of_bits}
use Rattle.plist_callers.proofs.dates.infinite_date.Goals as goal

-- a result that is an error is this error if no other one is possible
one_error : {A E : Type 0} {error : E} (r : Result A E) → IsErr r → IfErr r (λ e. e ≡ error)
    → result_err r ≡ Some error
one_error (Ok x) h is = absurd (false≢true h)
one_error (Err e) h is = ap Some is

pub returns : goal.returns
unfolding second_of_bits real_exponent
returns c =
    c.err.ensures.value
    ∙ one_error c.from_plist_real.result (c.from_plist_real.ensures.refused.1 refl)
    c.from_plist_real.ensures.error
