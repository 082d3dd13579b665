use Rattle.std.proofs.Common.{◌∙◌, ap, sym, Some}
use Rattle.std.specs.declared.alloc.Global.{Global}
use Rattle.std.specs.declared.vec.Vec.{Vec}
use Rattle.plist.specs.ValueTrees.{pairs_of}
use Rattle.plist.specs.declared.value.Value.{Value}
use Rattle.plist_keyed.proofs.archive.Archive.open.Goals as goal

pub returns-clause-archive : goal.returns-clause-archive
returns-clause-archive c =
    let objects = c.in-Some-Array in
    let names = c.in-Some-Dictionary in (
      c.in-Dictionary.pairs,
      objects.objects,
      names.names,
      c.in-Dictionary.is,
      sym objects.ensures.value ∙ ap Some objects.field-0-is,
      ap (λ (v : Vec Value Global). v.items) (sym objects.objects-is),
      sym names.ensures.value ∙ ap Some names.field-0-is,
      ap pairs_of (sym names.names-is),
    )
