use Rattle.std.proofs.Common.{◌∙◌, ap, sym}
use Rattle.plist_base.specs.Limits.{items_within}
use Rattle.plist_reader.proofs.reader.binary_reader.Goals as goal

pub returns-in-Some-clause-limits : goal.returns-in-Some-clause-limits
returns-in-Some-clause-limits g c =
    c.with_limits.ensures.limits ∙ ap items_within (sym c.in-Some.is)
