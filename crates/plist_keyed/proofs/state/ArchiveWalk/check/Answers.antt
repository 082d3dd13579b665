use Rattle.std.proofs.Common.{◌∙◌, ◌<◌, map, refl, reverse, subst, sym}
use Rattle.std.specs.Borrow.{Bor}
use Rattle.std.proofs.lemmas.Result.{err_from_is_err_and}
use Rattle.plist_base.specs.Events.{event_of}
use Rattle.plist.proofs.GivenEvents.{none_comes}
use Rattle.plist.specs.ValueTrees.{tree_of}
use Rattle.plist_keyed.specs.Archives.{IsFaultOf, resolved_tree}
use Rattle.plist_keyed.proofs.StoredChecks.{Checks, begins, distance_in, event_taken, first-refused, follows, later-refused, levels_of, popped, settles, skips}
use Rattle.plist_keyed.proofs.state.ArchiveWalk.check.Goals as goal

pub returns-in_err-follow-clause-refused : goal.returns-in_err-follow-clause-refused
returns-in_err-follow-clause-refused c =
    let f = err_from_is_err_and c.from_residual.result c.from_residual.ensures.1 in
    rw (f.1, f.2) (first-refused c.args.self.now c.new-path.result.keys c.args.uid
    c.in_err-follow.field-0.0 c.new-path.ensures.empty c.in_err-follow.ensures.refused)

pub loop-left-init : goal.loop-left-init
loop-left-init c = record {
  checks = begins c.args.self.now c.follow.new.self c.new-path.result.keys c.follow.new.path.keys
      c.args.uid c.new-path.ensures.empty c.requires.levels c.requires.ends
      c.in_ok-follow.ensures.objects c.in_ok-follow.ensures.ends c.in_ok-follow.ensures.followed;
  objects = refl;
}

pub loop-left-preserved-in_default-next : goal.loop-left-preserved-in_default-next
loop-left-preserved-in_default-next c =
    let walk = c.loop-left.self in
    let head = popped c.args.uid walk (reverse c.loop-left.path.keys) c.pop.new.self.items
    c.in-Some.left c.in-Some.ensures.items c.loop-left.invariant.checks in
    record {
      checks = rw c.in_ok-settle.ensures.levels (settles walk c.settle.new.self
          c.loop-left.path.keys c.pop-in_default-next.new.self.keys c.args.uid
          c.in-Some-pop.walked c.in-Some.left c.pop.new.self.items c.in-Some-pop.ensures.keys
          (none_comes c.in_default-next.ensures.steps) head c.in_ok-settle.ensures.objects
          c.in_ok-settle.ensures.settled c.in_ok-settle.ensures.end c.in_ok-settle.ensures.kept);
      objects = c.in_ok-settle.ensures.objects ∙ c.loop-left.invariant.objects;
    }

pub loop-left-preserved-in_default-uid_of : goal.loop-left-preserved-in_default-uid_of
loop-left-preserved-in_default-uid_of c =
    let walk = c.loop-left.self in
    let below = c.pop.new.self.items in
    let path = reverse c.loop-left.path.keys in
    let taken = event_taken walk below c.in-Some.left c.next.new.self c.in-Some-next.item
    c.in-Ok.event c.in-Some.ensures.items c.in-Some-next.ensures.steps c.in-Ok.is in
    let head = rw taken at c.loop-left.invariant.checks in
    record {
      checks = skips walk path c.args.uid (event_of c.in-Ok.event) below
          c.push_reserved.new.self.items c.next.new.self c.push_reserved.ensures.items head
          (sym c.uid_of.ensures ∙ c.in_default-uid_of.is);
      objects = c.loop-left.invariant.objects;
    }

-- the state in which a Uid is followed
followed : (c : goal.In-StartArray-3)
    → Checks c.args.uid c.follow-in-Some.new.self
    (levels_of c.follow-in-Some.new.self.levels.items) (reverse c.follow-in-Some.new.path.keys)
    × (distance_in c.follow-in-Some.new.self (levels_of c.follow-in-Some.new.self.levels.items)
    (reverse c.follow-in-Some.new.path.keys)
    < distance_in c.loop-left.self (levels_of c.loop-left.self.levels.items)
    (reverse c.loop-left.path.keys))
followed c =
    let walk = c.loop-left.self in
    let below = c.pop.new.self.items in
    let path = reverse c.loop-left.path.keys in
    let now = record walk { levels = c.push_reserved.new.self } in
    let taken = event_taken walk below c.in-Some.left c.next.new.self c.in-Some-next.item
    c.in-Ok.event c.in-Some.ensures.items c.in-Some-next.ensures.steps c.in-Ok.is in
    let head = rw taken at c.loop-left.invariant.checks in
    let (checks, nearer) = follows now c.follow-in-Some.new.self c.loop-left.path.keys
    c.follow-in-Some.new.path.keys c.args.uid (event_of c.in-Ok.event) below c.next.new.self
    c.in-Some-uid_of.found c.push_reserved.ensures.items head c.in_ok-follow-2.ensures.objects
    c.in_ok-follow-2.ensures.ends (sym c.uid_of.ensures ∙ c.in-Some-uid_of.is)
    c.in_ok-follow-2.ensures.followed in
    (checks, rw taken nearer)

pub loop-left-smaller : goal.loop-left-smaller
loop-left-smaller c = (followed c).1

pub loop-left-preserved : goal.loop-left-preserved
loop-left-preserved c = record {
  checks = (followed c).0;
  objects = c.in_ok-follow-2.ensures.objects ∙ c.loop-left.invariant.objects;
}

pub returns-in_err-follow-2-clause-refused : goal.returns-in_err-follow-2-clause-refused
returns-in_err-follow-2-clause-refused c =
    let walk = c.loop-left.self in
    let below = c.pop.new.self.items in
    let path = reverse c.loop-left.path.keys in
    let error = c.in_err-follow-2.field-0.0 in
    let f = err_from_is_err_and c.from_residual-in_err-follow-2.result
    c.from_residual-in_err-follow-2.ensures.1 in
    let taken = event_taken walk below c.in-Some.left c.next.new.self c.in-Some-next.item
    c.in-Ok.event c.in-Some.ensures.items c.in-Some-next.ensures.steps c.in-Ok.is in
    let head = rw taken at c.loop-left.invariant.checks in
    let refused = later-refused walk c.loop-left.path.keys c.args.uid (event_of c.in-Ok.event) below
    c.next.new.self c.in-Some-uid_of.found error head
    (sym c.uid_of.ensures ∙ c.in-Some-uid_of.is) c.in_err-follow-2.ensures.refused in
    rw (f.1, f.2) (subst (λ (objects : Bor _). IsFaultOf
    (resolved_tree (map tree_of objects.now) c.args.uid) error)
    (c.loop-left.invariant.objects ∙ c.in_ok-follow.ensures.objects) refused)
