use Rattle.std.proofs.Common.{rules, ◌≡◌, ◌+◌, ◌<◌, ◌∷◌, length, arith, refl, ap, sym, subst, true, ◌∙◌}
use Rattle.std.specs.List.{AllByRecursion}
use Rattle.std.proofs.lemmas.List.{length-set}
use Rattle.std.proofs.lemmas.Option.{slice_get_within}
use Rattle.plist_base.specs.Trees.{Dictionary}
use Rattle.plist_buffer.specs.Children.{half_of, indices_left}
use Rattle.plist_buffer.specs.EventTable.{plain_events, event_at, scalars_of, HasItem}
use Rattle.plist_buffer.specs.declared.children.Half.TheVariants.{Keys}
use Rattle.plist_buffer.specs.inner.Entries.{is_leaf}
use Rattle.plist_buffer.proofs.ChildIndices.{are_items, keys_are_in}
use Rattle.plist_buffer.proofs.KeyStamps.{Differ, Tells, below_set, differ, keys_leaves, tells_end, tells_next, tells_repeats, tells_start}
use Rattle.plist_buffer.proofs.TreeOccurrences.{occurs_pairs}
use Rattle.plist_buffer.proofs.repeated_keys.repeats_at.Goals as goal
use Rattle.plist_buffer.proofs.repeated_keys.repeats_at.Goals.{After-into_iter-key-iterator as Begun, In-Some as Next}

begun : (c : Begun) → indices_left c.into_iter-key-iterator.result
    ≡ half_of (plain_events c.args.events.now) Keys c.args.start
begun c = cc (c.into_iter-key-iterator.ensures.into_iter_gives, c.new-key-items.ensures)

items : (c : Next) → AllByRecursion (HasItem (plain_events c.args.events.now))
    (c.in-Some.key ∷ indices_left c.next.new.self)
items c = subst (AllByRecursion (HasItem _)) c.in-Some.ensures.steps c.loop-key.invariant.items

tells : (c : Next) → Tells (scalars_of c.args.events.now) (c.args.start + 1) c.loop-key.stamps.items
    (plain_events c.args.events.now) (indices_left c.into_iter-key-iterator.result)
    (c.in-Some.key ∷ indices_left c.next.new.self)
tells c = subst (Tells _ _ _ _ _) c.in-Some.ensures.steps c.loop-key.invariant.tells

pub loop-key-init : goal.loop-key-init
loop-key-init c =
    let is = begun (goal.at.loop-key-init c).After-into_iter-key-iterator in
    record {
      long = c.requires.long;
      newer = λ i h. omega (arith, c.requires.older i h);
      tells = tells_start c.args.start refl c.requires.long c.requires.older _;
      items = subst (AllByRecursion (HasItem _)) (sym is) (are_items _ Keys c.args.start);
      leaves = λ ms s. subst (AllByRecursion _)
          (sym (is ∙ keys_are_in _ (Dictionary ms) c.args.start s))
          (keys_leaves ms _ (occurs_pairs s));
    }

pub stamp-requires : goal.stamp-requires
stamp-requires c =
    omega (arith, slice_get_within (scalars_of c.args.events.now) _ _ c.in-Some-scalar_index.ensures.some)

pub returns-in_default-scalar_index-clause-repeats
    : goal.returns-in_default-scalar_index-clause-repeats
returns-in_default-scalar_index-clause-repeats c = λ ms s.
    let leaves = subst (AllByRecursion (λ k. is_leaf (event_at (plain_events c.args.events.now) k)
    ≡ true)) c.in-Some.ensures.steps (c.loop-key.invariant.leaves ms s) in
    cc (leaves.0, c.in_default-scalar_index.ensures.none (search rules))

pub returns-then-stamp-clause-repeats : goal.returns-then-stamp-clause-repeats
returns-then-stamp-clause-repeats c = λ ms s d.
    let a = goal.at.returns-then-stamp-clause-repeats c in
    let is = begun a.After-into_iter-key-iterator ∙ keys_are_in _ (Dictionary ms) c.args.start s in
    tells_repeats (tells a.In-Some) c.in-Some-scalar_index.scalar c.args.events.now.kept.apart
    c.in-Some-scalar_index.ensures.some (c.stamp.ensures.repeated c.if-stamp.true)
    (subst (Differ _) (sym is) ((differ ms _ (occurs_pairs s)).1 d))

pub loop-key-preserved : goal.loop-key-preserved
loop-key-preserved c =
    let next = (goal.at.loop-key-preserved c).In-Some in
    let scalar = c.in-Some-scalar_index.scalar in
    let i = c.loop-key.invariant in
    let within : scalar < length c.loop-key.stamps.items = omega (arith, slice_get_within (scalars_of c.args.events.now) scalar _ c.in-Some-scalar_index.ensures.some) in
    record {
      long = ap length c.stamp.ensures.stamped
          ∙ length-set c.loop-key.stamps.items scalar (c.args.start + 1) ∙ i.long;
      newer = rw c.stamp.ensures.stamped
          (below_set (c.args.start + 2) c.loop-key.stamps.items scalar (c.args.start + 1)
          (omega arith) i.newer);
      tells = rw c.stamp.ensures.stamped
          (tells_next (tells next) scalar c.args.events.now.kept.apart
          c.in-Some-scalar_index.ensures.some (c.stamp.ensures.other c.if-stamp.false) within);
      items = (items next).1;
      leaves = λ ms s. (subst (AllByRecursion
          (λ k. is_leaf (event_at (plain_events c.args.events.now)
          k) ≡ true)) c.in-Some.ensures.steps (i.leaves ms s)).1;
    }

pub returns-clause-repeats : goal.returns-clause-repeats
returns-clause-repeats c = λ ms s.
    let a = goal.at.returns-clause-repeats c in
    let is = begun a.After-into_iter-key-iterator ∙ keys_are_in _ (Dictionary ms) c.args.start s in
    (differ ms _ (occurs_pairs s)).0 (subst (Differ _) is
    (tells_end (subst (Tells _ _ _ _ _) c.in-None.ensures.steps.0 c.loop-key.invariant.tells)))
