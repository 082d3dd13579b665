use Rattle.std.proofs.Common.{◌≡◌, ℕ, ◌≤◌, ◌-◌, ◌^◌, Result}
use Rattle.std.specs.Prelude.{vec_items}
use Rattle.std.specs.declared.alloc.Global.{Global}
use Rattle.std.specs.declared.vec.Vec.{Vec}
use Rattle.plist_ascii.specs.declared.fault.TokenFault.{TokenFault}
use Rattle.plist_ascii.specs.declared.input.Input.{Input}
use Rattle.plist_ascii.specs.Texts.{quoted}
use Rattle.plist_ascii.specs.inner.Inputs.{GivesBy}
use Rattle.plist_ascii.proofs.Quotes.{rest_of}
use Rattle.plist_ascii.proofs.input.Input.quoted.Given as goal

-- what ends the string from here on ends it from its start on
abbrev pub invariant-parts : goal.invariant-parts
invariant-parts g l =
    let known = g.R.ByteReader.remaining in
    record {
      answers : (answer : Result (Vec ℕ Global) TokenFault) (new : Input g.row.R.Denot)
          → GivesBy known vec_items (rest_of l.quote l.text.items) l.self answer new
          → GivesBy known vec_items (quoted l.quote) l.fn.self answer new;
      place : l.fn.self.taken ≤ l.self.taken;
      failures : g.R.ByteReader.failures l.self.inner ≡ g.R.ByteReader.failures l.fn.self.inner;
    }

abbrev pub decreases-parts : goal.decreases-parts
decreases-parts g l = 2 ^ 64 - l.self.taken
