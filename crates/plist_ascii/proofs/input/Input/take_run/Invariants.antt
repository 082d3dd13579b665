use Rattle.std.proofs.Common.{◌≡◌, ℕ, List, ◌++◌, ◌≤◌, ◌-◌, ◌^◌}
use Rattle.plist_ascii.specs.declared.input.Input.{Input}
use Rattle.plist_ascii.specs.inner.Inputs.{TakesRun}
use Rattle.plist_ascii.proofs.input.Input.take_run.Given as goal

-- a run that is taken from here on is one from the start on
abbrev pub invariant-run : goal.invariant-run
invariant-run g l =
    let known = g.R.ByteReader.remaining in
    record {
      value : (new : Input g.row.R.Denot) (text : List ℕ)
          → TakesRun known l.stop (λ run. text ≡ l.text.items ++ run) l.self new
          → TakesRun known l.stop (λ run. text ≡ l.initial.text.items ++ run) l.initial.self new;
      place : l.initial.self.taken ≤ l.self.taken;
      failures : g.R.ByteReader.failures l.self.inner
          ≡ g.R.ByteReader.failures l.initial.self.inner;
    }

abbrev pub decreases-run : goal.decreases-run
decreases-run g l = 2 ^ 64 - l.self.taken
