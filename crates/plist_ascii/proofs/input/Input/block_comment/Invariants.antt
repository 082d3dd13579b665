use Rattle.std.proofs.Common.{◌≡◌, ◌≤◌, ◌-◌, ◌^◌, None, Result}
use Rattle.plist_ascii.specs.declared.fault.TokenFault.{TokenFault}
use Rattle.plist_ascii.specs.declared.input.Input.{Input}
use Rattle.plist_ascii.specs.Texts.{block_comment}
use Rattle.plist_ascii.specs.inner.Inputs.{GivesBy}
use Rattle.plist_ascii.proofs.input.Input.block_comment.Given as goal

-- what ends the comment from here on ends it from its start on
abbrev pub invariant-stars : goal.invariant-stars
invariant-stars g l =
    let known = g.R.ByteReader.remaining in
    record {
      answers : (answer : Result Unit TokenFault) (new : Input g.row.R.Denot)
          → GivesBy known (λ _. None) block_comment l.self answer new
          → GivesBy known (λ _. None) block_comment l.fn.self answer new;
      place : l.fn.self.taken ≤ l.self.taken;
      failures : g.R.ByteReader.failures l.self.inner ≡ g.R.ByteReader.failures l.fn.self.inner;
    }

abbrev pub decreases-stars : goal.decreases-stars
decreases-stars g l = 2 ^ 64 - l.self.taken
