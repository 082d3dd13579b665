use Rattle.std.proofs.Common.{◌≡◌, ◌≤◌, ◌-◌, ◌^◌}
use Rattle.std.specs.Prelude.{⊤}
use Rattle.plist_ascii.specs.declared.input.Input.{Input}
use Rattle.plist_ascii.specs.inner.Inputs.{TakesRun}
use Rattle.plist_ascii.proofs.input.Input.skip_run.Given as goal

-- a run that is taken from here on is one from the start on
abbrev pub invariant-run : goal.invariant-run
invariant-run g l =
    let known = g.R.ByteReader.remaining in
    record {
      value : (new : Input g.row.R.Denot) → TakesRun known l.stop (λ _. ⊤) l.self new
          → TakesRun known l.stop (λ _. ⊤) l.fn.self new;
      place : l.fn.self.taken ≤ l.self.taken;
      failures : g.R.ByteReader.failures l.self.inner ≡ g.R.ByteReader.failures l.fn.self.inner;
    }

abbrev pub decreases-run : goal.decreases-run
decreases-run g l = 2 ^ 64 - l.self.taken
