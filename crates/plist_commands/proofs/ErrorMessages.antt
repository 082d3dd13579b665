-- What is written to standard error.
use Rattle.std.proofs.Common.{◌≡◌, List, [], ◌++◌, ℕ, Option, Result, Ok, Err, OnOk, is_ok, ◌∙◌, ap}
use Rattle.std.specs.Fmt.{WritesInCalls}
use Rattle.std.specs.Io.KnownBytes.{Appends}
use Rattle.std.proofs.lemmas.Fmt.{contents_after_writes}
use Rattle.arrayvec.specs.ArrayString.{ArrayString}
use Rattle.plist_base.specs.declared.error.Error.{Error}
use Rattle.plist_base.specs.Prefixes.{AppendsPrefix}
use Rattle.plist_commands.specs.Commands.{PlainMessage, TakesMessage, message_text}

-- a line that was empty consists of what was written to it
pub line_written : (old new : ArrayString) (text : List ℕ) → old.bytes ≡ []
    → WritesInCalls (λ from bytes to. to.bytes ≡ from.bytes ++ bytes) old text new
    → new.bytes ≡ text
line_written old new text none wrote =
    contents_after_writes (λ from bytes to. to.bytes ≡ from.bytes ++ bytes) (λ line. line.bytes)
    (λ from bytes to is. is) old text new wrote
    ∙ ap (λ bytes. bytes ++ text) none

-- the whole message or a prefix of it was written
pub takes_sent : (said : PlainMessage) (answer : Result (Unit {0}) Error)
    (old new : Option (List ℕ)) → OnOk answer (Appends old new (message_text said))
    → AppendsPrefix old new (message_text said) → TakesMessage said (is_ok answer) old new
takes_sent said (Ok done) old new sent prefix = sent
takes_sent said (Err error) old new sent prefix = prefix
