use Rattle.std.proofs.Common.{inr}
use Rattle.plist.proofs.value.Value.from_file_within.Goals as goal

pub returns-clause-read : goal.returns-clause-read
returns-clause-read g c = inr (
  c.in_ok-source.source,
  c.in_ok-source.ensures.failures,
  c.from_reader_within.ensures.read,
)
