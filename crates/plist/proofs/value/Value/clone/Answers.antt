use Rattle.std.proofs.Common.{◌≡◌, Ok, Err, Result, IfOk, map, ap}
use Rattle.plist_base.specs.declared.error.Error.{Error}
use Rattle.plist_base.specs.Trees.{Tree}
use Rattle.plist.specs.declared.value.Value.{Value}
use Rattle.plist.specs.Collecting.{built_tree}
use Rattle.plist.specs.ValueOfItems.{IsReadBack}
use Rattle.plist.specs.Events.{remaining_events}
use Rattle.plist.specs.ValueTrees.{tree_of}
use Rattle.plist.proofs.PredictedItems.{back}
use Rattle.plist.proofs.ValueLastWins.{itself}
use Rattle.plist.proofs.RemainingItems.{events_coming, events-show, memory-alone}
use Rattle.plist.proofs.value.Value.clone.Goals as goal

built-back : (tree : Tree) (answer : Result Value Error) → IsReadBack tree (built_tree answer)
    → IfOk answer (λ value. tree_of value ≡ tree)
built-back tree (Ok value) is = is
built-back tree (Err error) is = tt

pub returns-clause-copy : goal.returns-clause-copy
returns-clause-copy c =
    let tree = tree_of c.args.self.now in
    built-back tree c.collect.result
    (back tree (map Ok (remaining_events c.events.result)) (built_tree c.collect.result)
    (itself c.args.self.now) (ap (map Ok) c.events.ensures.items)
    (c.collect.ensures.shown events_coming
    (λ old item new gives. events-show old new item gives)))

pub returns-clause-memory : goal.returns-clause-memory
returns-clause-memory c =
    memory-alone (tree_of c.args.self.now) c.events.result c.collect.result
    c.events.ensures.items c.collect.ensures.value
