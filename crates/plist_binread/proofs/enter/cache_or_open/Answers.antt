use Rattle.plist_binread.proofs.WalkInvariant.{as_many, known_cached, known_opened}
use Rattle.plist_binread.proofs.Tags.{cached_closed, cached_packed, open_tag-marked, open_uncached, packed_cached, uncached_packed}
use Rattle.plist_binread.proofs.OpenObjects.{IsOpen-kept, IsOpen-push, admits_more, cached_count-kept, cached_count-more, not_open}
use Rattle.plist_binread.proofs.WalkSteps.{reverse-push, start_falls, steps_positive, yields_collection, yields_scalar}
use Rattle.plist_binread.proofs.ObjectEvents.{collection-named, named-date, named-scalar}
use Rattle.plist_decode.specs.Decoding.{scalar_in, start_event}
use Rattle.std.proofs.Common.{◌∙◌, ◌≡◌, ◌<◌, ap, arith, get_or, refl, rules, sym}
use Rattle.std.proofs.lemmas.Bool.{false≢true}
use Rattle.plist_base.specs.Packing.{IsPacked, content_bytes, unpacked}
use Rattle.plist_decode.specs.Packed.{is_marked, unmarked}
use Rattle.plist_binread.specs.Remaining.{scalar_at}
use Rattle.plist_binread.proofs.ObjectEntry.{long_opens}
use Rattle.plist_binread.proofs.enter.cache_or_open.Goals as goal
use Rattle.plist_binread.proofs.enter.cache_or_open.Goals.{After-set_tag}

-- the object is cached
here : (c : After-set_tag) → 0 < unmarked (get_or c.set_tag.new.tags.items c.args.number 0)
here c = rw c.set_tag.ensures.tag (packed_cached _ _ (rw c.in-Small.is at c.requires.fits))

pub invariant_of-walk : goal.invariant_of-walk
invariant_of-walk c =
    let walk = c.args.walk.now in
    let fits : IsPacked c.in-Small.tag c.in-Small.content = rw c.in-Small.is at c.requires.fits in
    record {
      same = search rules;
      path = IsOpen-kept c.args.number walk.tags.items _ _ walk.path c.set_tag.ensures.tags
          (ap is_marked c.set_tag.ensures.tag
          ∙ cached_closed c.in-Small.tag (packed_cached c.in-Small.tag _ fits)
          ∙ sym (ap is_marked c.requires.new));
      packed = (cached_packed c.args.number walk.tags.items _
          walk.contents.items c.in-Small.tag c.in-Small.content (rw walk.same c.requires.below)
          walk.packed c.set_tag.ensures.tags c.set_tag.ensures.tag fits);
    }

pub returns-in-Small-clause-counted : goal.returns-in-Small-clause-counted
returns-in-Small-clause-counted c =
    rw c.in-Small.is (cached_count-more _ _ _ c.requires.below (ap unmarked c.requires.new)
    c.set_tag.ensures.tags (here (goal.at.returns-in-Small-clause-counted c).After-set_tag))

pub returns-in-Small-clause-cached : goal.returns-in-Small-clause-cached
returns-in-Small-clause-cached c = λ _. here (goal.at.returns-in-Small-clause-cached c).After-set_tag

pub returns-in-Small-clause-falls : goal.returns-in-Small-clause-falls
returns-in-Small-clause-falls c = λ _. omega (arith, steps_positive, c.set_tag.ensures.tags.size)

pub returns-in-Small-clause-yields : goal.returns-in-Small-clause-yields
returns-in-Small-clause-yields c = λ _ bytes bounds entry k is found.
    let d = rw c.in-Small.is at found in (
      (λ at event _ named. yields_scalar _ _ (as_many k) _ at _ entry
          c.args.walk.now.path c.requires.below is
          (not_open c.args.walk.now.path c.requires.below c.requires.new) event
          (named-scalar entry.object (unpacked c.in-Small.tag c.in-Small.content) event d.0 named)),
      (known_cached k _ c.in-Small.tag
          c.in-Small.content _ c.requires.below c.args.walk.now.same c.set_tag.ensures.tags
          c.set_tag.ensures.tag (packed_cached _ _ d.1) (ap scalar_at is ∙ ap scalar_in d.0)),
    )

pub returns-in-Date-clause-falls : goal.returns-in-Date-clause-falls
returns-in-Date-clause-falls c = λ _. omega (arith, steps_positive)

pub returns-in-Date-clause-yields : goal.returns-in-Date-clause-yields
returns-in-Date-clause-yields c = λ _ bytes bounds entry k is found.
    let d = rw c.in-Date.is at found in (
      (λ at event _ named. yields_scalar _ _ (as_many k) _ at _ _
          c.args.walk.now.path c.requires.below is
          (not_open c.args.walk.now.path c.requires.below c.requires.new) event
          (named-date entry.object (content_bytes c.in-Date.field-0) event d named)),
      k,
    )

pub returns-in-Long-clause-falls : goal.returns-in-Long-clause-falls
returns-in-Long-clause-falls c = λ _. omega (arith, steps_positive)

pub returns-in-Long-clause-yields : goal.returns-in-Long-clause-yields
returns-in-Long-clause-yields c =
    rw c.in-Long.is (λ _. long_opens c.args.number c.in-Long.field-1 c.in-Long.field-2 c.in-Long.field-0
    c.args.walk.now c.requires.below c.requires.new)

pub returns-in-Faulty-clause-falls : goal.returns-in-Faulty-clause-falls
returns-in-Faulty-clause-falls c = λ _. omega (arith, steps_positive)

pub returns-in-Faulty-clause-yields : goal.returns-in-Faulty-clause-yields
returns-in-Faulty-clause-yields c = λ _ bytes bounds entry k is found. (
  (λ at event fine named. absurd (false≢true (sym (rw c.in-Faulty.is at fine)))),
  k,
)

-- ---- a collection that is opened

pub invariant_of-walk-in-Ok : goal.invariant_of-walk-in-Ok
invariant_of-walk-in-Ok c = record {
  same = c.args.walk.now.same ∙ sym c.set_tag-in-Ok.ensures.tags.size;
  path = rw (reverse-push _ _ _ c.in-Ok.ensures.value)
      (IsOpen-push _ _ _ _ c.args.walk.now.path c.requires.below
      (not_open c.args.walk.now.path c.requires.below c.requires.new) c.set_tag-in-Ok.ensures.tags
      (ap is_marked (c.set_tag-in-Ok.ensures.tag ∙ c.open_tag.ensures) ∙ open_tag-marked c.in-Collection.kind c.in-Collection.start));
  packed = uncached_packed _ _ _ _ c.args.walk.now.packed c.set_tag-in-Ok.ensures.tags
      (open_uncached _ (ap is_marked (c.set_tag-in-Ok.ensures.tag ∙ c.open_tag.ensures) ∙ open_tag-marked c.in-Collection.kind c.in-Collection.start));
}

pub returns-in-Ok-clause-counted : goal.returns-in-Ok-clause-counted
returns-in-Ok-clause-counted c =
    let same = cached_count-kept _ _ _ c.set_tag-in-Ok.ensures.tags
    (open_uncached _ (ap is_marked (c.set_tag-in-Ok.ensures.tag ∙ c.open_tag.ensures) ∙ open_tag-marked c.in-Collection.kind c.in-Collection.start)
    ∙ sym (ap unmarked c.requires.new)) in rw c.in-Collection.is (omega (arith, same))

pub returns-in-Ok-clause-falls : goal.returns-in-Ok-clause-falls
returns-in-Ok-clause-falls c = λ _.
    rw (reverse-push _ _ _ c.in-Ok.ensures.value)
    (start_falls _ _ _ (admits_more _ _ _ c.args.walk.now.path
    c.requires.below (not_open c.args.walk.now.path c.requires.below c.requires.new))
    (omega arith))

pub returns-in-Ok-clause-yields : goal.returns-in-Ok-clause-yields
returns-in-Ok-clause-yields c = λ _ bytes bounds entry k is found.
    let decoded = rw c.in-Collection.is at found in
    let start = start_event c.in-Collection.kind c.in-Collection.count in
    let collection = rw (← c.children.ensures) at decoded.0 in (
      (λ at event _ named.
          let n = collection-named entry.object start _ collection in
          let same : start ≡ event = cc in rw (← same)
          (yields_collection _ _ (as_many k) _ at _ _ c.args.walk.now.path
          c.requires.below is (not_open c.args.walk.now.path c.requires.below c.requires.new) start
          _ _ (reverse-push _ _ _ c.in-Ok.ensures.value) refl refl collection)),
      rw (reverse-push _ _ _ c.in-Ok.ensures.value)
          (known_opened k _ _ c.in-Collection.kind c.in-Collection.start start entry
          c.requires.below (ap unmarked c.requires.new) c.set_tag-in-Ok.ensures.tags
          (c.set_tag-in-Ok.ensures.tag ∙ c.open_tag.ensures) decoded.2 is collection decoded.3),
    )
