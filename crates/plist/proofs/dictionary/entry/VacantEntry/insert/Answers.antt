use Rattle.std.proofs.Common.{◌∷◌, [], ◌∙◌, ap, arith, length, length-append, string_bytes}
use Rattle.plist_pairs.proofs.EntrySteps.{comes_last, none_of}
use Rattle.plist.specs.ValueTrees.{pairs_of}
use Rattle.plist.proofs.dictionary.entry.VacantEntry.insert.Goals as goal

pub value_at-requires : goal.value_at-requires
value_at-requires c =
    let ps = pairs_of c.args.self.pairs.now in
    let k = string_bytes c.args.self.key in
    let added = c.in_ok-insert.ensures.pairs
    ∙ comes_last k c.args.value ps (none_of _ c.args.self.absent) in
    omega (
      arith,
      c.len-at.ensures.count,
      ap length added,
      length-append ps ((k, c.args.value) ∷ []),
    )
