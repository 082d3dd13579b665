use Rattle.std.proofs.Common.{refl}
use Rattle.plist_keyed.specs.Archives.{names_of, objects_of}
use Rattle.plist_commands.proofs.print.tree_at.Goals as goal

pub returns-in_default-clause-refused : goal.returns-in_default-clause-refused
returns-in_default-clause-refused c = (
  objects_of c.in-Ok.archive,
  names_of c.in-Ok.archive,
  c.in-Ok.ensures.archive,
  c.in_default.ensures.missing refl,
)
