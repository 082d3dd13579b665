use Rattle.std.proofs.Common.{◌≡◌, ◌∙◌, ap, map, refl, subst, sym, Ok, Some}
use Rattle.std.specs.Borrow.{Bor}
use Rattle.plist.specs.ValueOfItems.{IsValueOf}
use Rattle.plist.specs.ValueTrees.{tree_of}
use Rattle.std.specs.Bool.{⊤}
use Rattle.plist_base.specs.Events.{event_of}
use Rattle.plist.proofs.PredictedItems.{predicted}
use Rattle.plist_keyed.specs.Archives.{resolved_tree}
use Rattle.plist_keyed.specs.inner.Walks.{IsWalk, end_in, events_at, events_left, objects_in, settled_in}
use Rattle.plist_keyed.proofs.WalkSteps.{left-at-first, settled-top}
use Rattle.plist_keyed.proofs.WalkValues.{tree-read}
use Rattle.plist_keyed.proofs.walk.value_at.Goals as goal

pub enter-requires-clause-walk : goal.enter-requires-clause-walk
enter-requires-clause-walk c =
    (c.in_ok-check.ensures.settled, rw c.in_ok-check.ensures.levels tt)

pub from_events-requires : goal.from_events-requires
from_events-requires c = record {
  asked = λ walk is. (subst IsWalk (sym is) c.enter.ensures.walk, tt);
}

pub returns-in-Ok-clause-value : goal.returns-in-Ok-clause-value
returns-in-Ok-clause-value c =
    let walk = c.check.new.self in
    let tree = tree_of c.in-Ok.value in
    let (iter, is, seen) = c.in-Ok.ensures.shown in
    let left : events_left iter ≡ events_at (objects_in walk) c.args.uid =
    ap events_left is ∙ c.in_ok-enter.ensures.entered
    ∙ left-at-first walk c.args.uid c.in_ok-check.ensures.levels in
    let read = subst (λ events. IsValueOf (map Ok events) (Ok tree)) left
    (seen (λ w. Some (map Ok (events_left w)))
    (λ old item new gives. predicted event_of (λ _ _. ⊤) (λ _ _. ⊤) (Some (map Ok (events_left old)))
    (Some (map Ok (events_left new))) item (map Ok (events_left new), refl, gives))) in
    let all = settled-top (objects_in walk) (end_in walk.ends) (settled_in walk.ends) c.args.uid
    c.in_ok-check.ensures.settled c.in_ok-check.ensures.reached in
    subst (λ (objects : Bor _). resolved_tree (map tree_of objects.now) c.args.uid ≡ Ok tree)
    c.in_ok-check.ensures.objects
    (tree-read walk.objects.now c.args.uid tree c.from_events.ensures.itself all read)
