use Rattle.plist.specs.Collecting.{built_tree}
use Rattle.plist.proofs.RemainingItems.{binary-shows, of-binary}
use Rattle.plist_binread.specs.BinaryReader.{file_items}
use Rattle.plist_callers.proofs.lemmas.value_of_binary.Goals as goal

pub returns : goal.returns
returns g c =
    let (iter, is, seen) = c.from_events.ensures.shown in
    record {
      value = of-binary g.R.Source.known c.args.source iter c.new.result
          (built_tree c.from_events.result) is c.new.ensures.items
          (seen (file_items g.R.Source.known)
          (λ old item new gives. binary-shows old new item gives));
    }
