use Rattle.std.proofs.Common.{position, ap, ◌∙◌, bytes_eq}
use Rattle.std.specs.Map.{keys_of}
use Rattle.plist_pairs.proofs.EntrySteps.{taken-there}
use Rattle.plist.specs.ValueTrees.{pairs_of}
use Rattle.plist.proofs.dictionary.Dictionary.entry.Goals as goal

pub returns-in-Some-clause-removes : goal.returns-in-Some-clause-removes
returns-in-Some-clause-removes c =
    let ps = pairs_of c.args.self.now in
    let at = c.in-Some.ensures.1 ∙ ap (λ b. position (bytes_eq b) (keys_of ps))
    c.as_str.ensures.value in
    λ after is. taken-there _ ps _ _ at is
