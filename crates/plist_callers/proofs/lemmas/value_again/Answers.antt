use Rattle.std.proofs.Common.{Ok, map, ap, ◌∙◌}
use Rattle.plist.specs.Collecting.{built_tree}
use Rattle.plist.specs.Events.{remaining_events}
use Rattle.plist.specs.ValueTrees.{tree_of}
use Rattle.plist.proofs.PredictedItems.{back}
use Rattle.plist.proofs.ValueLastWins.{itself}
use Rattle.plist.proofs.RemainingItems.{events_coming, events-show, memory-alone}
use Rattle.plist_callers.proofs.lemmas.value_again.Goals as goal

pub returns-clause-value : goal.returns-clause-value
returns-clause-value c =
    let (iter, is, seen) = c.from_events.ensures.shown in
    let tree = tree_of c.args.value.now in
    back tree (map Ok (remaining_events iter)) (built_tree c.from_events.result)
    (itself c.args.value.now)
    (ap (λ e. map Ok (remaining_events e)) is ∙ ap (map Ok) c.events.ensures.items)
    (seen events_coming (λ old item new gives. events-show old new item gives))

pub returns-clause-memory : goal.returns-clause-memory
returns-clause-memory c =
    let (iter, is, collected) = c.from_events.ensures.value in
    memory-alone (tree_of c.args.value.now) iter c.from_events.result
    (ap remaining_events is ∙ c.events.ensures.items) collected
