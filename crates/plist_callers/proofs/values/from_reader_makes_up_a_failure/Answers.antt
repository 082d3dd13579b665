use Rattle.std.proofs.Common.{◌≡◌, Bool, true, false, refl, subst, ◌∙◌}
use Rattle.std.specs.Prelude.{IsTrue}
use Rattle.plist_base.specs.Faults.{IsNotIo}
use Rattle.plist_callers.proofs.Failures.{never-collects-io}
use Rattle.plist_callers.proofs.values.from_reader_makes_up_a_failure.Goals as goal
use Rattle.plist_callers.proofs.values.from_reader_makes_up_a_failure.Goals.{in-Ok, in-Err}

not_true : (b : Bool) → (IsTrue b → ⊥) → b ≡ false
not_true true never = absurd (never refl)
not_true false never = refl

pub returns : goal.returns
returns c = elim c.match-from_reader.branch [
  | in-Ok w ↦ w.result-is
  | in-Err w ↦ w.result-is ∙ not_true _ (λ yes. subst IsNotIo (w.is_io.ensures.0 yes)
      (never-collects-io _ w.in-Err.ensures.read.0 _ w.in-Err.ensures.read.2))
]
