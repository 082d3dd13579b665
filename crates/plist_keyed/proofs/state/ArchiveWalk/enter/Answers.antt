use Rattle.std.proofs.Common.{◌≡◌, refl, rules, subst, Some}
use Rattle.std.specs.Prelude.{slice_get}
use Rattle.plist.specs.ValueTrees.{tree_of}
use Rattle.plist_keyed.specs.inner.Walks.{objects_in}
use Rattle.plist_keyed.proofs.StoredChecks.{seen_at}
use Rattle.plist_keyed.proofs.WalkSteps.{end-of, enters, seen-within}
use Rattle.plist_keyed.proofs.state.ArchiveWalk.enter.Goals as goal

pub object_at-object-requires : goal.object_at-object-requires
object_at-object-requires c =
    let (object, at, named, plain, same) =
    end-of c.args.self.now c.args.uid c.requires.walk c.requires.settled in
    rw (c.end_of.ensures) (seen-within c.args.self.now.objects.now _ object at)

pub returns : goal.returns
returns c =
    let walk = c.args.self.now in
    let object = tree_of c.object_at-object.result.now in
    let (entered, first, named, plain) = enters walk c.args.uid c.requires.walk c.requires.settled
    c.push.new.self.items c.events.result object (subst (λ n. slice_get (objects_in walk) n
    ≡ Some object) c.end_of.ensures (seen_at walk.objects.now c.end_of.result _
    (Some c.object_at-object.result.now) refl c.object_at-object.ensures))
    c.in_ok-push.ensures.items c.events.ensures.items in
    record {
      entered = entered;
      first = (object, plain, first);
      levels = search rules;
      walk = (c.requires.walk.0, named);
      memory = tt;
      unchanged = tt;
    }
