use Rattle.std.proofs.Common.{refl}
use Rattle.plist_keyed.specs.Archives.{names_of, objects_of}
use Rattle.plist_uses.proofs.archive.root_of.Goals as goal

pub returns-in-None-clause-none : goal.returns-in-None-clause-none
returns-in-None-clause-none c = (
  objects_of c.in_ok-opened.opened,
  names_of c.in_ok-opened.opened,
  c.in_ok-opened.ensures.archive,
  c.in-None.ensures.missing refl,
)
