use Rattle.std.proofs.Common.{ap, sym, ◌∙◌}
use Rattle.plist_binread.specs.Remaining.{frame_of}
use Rattle.plist_binread.proofs.InnermostChild.{next_path, child_remaining, closed_remaining, child_weight, closed_weight}
use Rattle.plist_decode.specs.Packed.{unmarked}
use Rattle.plist_binread.proofs.OpenObjects.{IsOpen-pop, first_below, first_open, cached_count-kept}
use Rattle.plist_binread.proofs.Tags.{open_uncached, uncached_packed}
use Rattle.plist_binread.proofs.walk.Walk.next_child.Goals as goal

pub returns-in-Nothing-clause-remaining : goal.returns-in-Nothing-clause-remaining
returns-in-Nothing-clause-remaining c =
    let is = c.in-Nothing.ensures in
    λ bytes bounds k. ((is.0, is.1), rw is.1 (rw is.0 at k))

pub set_tag-requires : goal.set_tag-requires
set_tag-requires c =
    let is = c.in-End.ensures in
    first_below _ _ _ (rw is.2 at c.args.self.now.path)

pub invariant_of-self-in-End : goal.invariant_of-self-in-End
invariant_of-self-in-End c =
    let is = c.in-End.ensures in
    record {
      same = c.args.self.now.same ∙ sym c.set_tag.ensures.tags.size;
      path = IsOpen-pop c.args.self.now.tags.items _ _ _ (rw is.2 at c.args.self.now.path)
          c.set_tag.ensures.tags c.set_tag.ensures.tag;
      packed = uncached_packed _ _ _ _ c.args.self.now.packed c.set_tag.ensures.tags
          (ap unmarked c.set_tag.ensures.tag);
    }

pub returns-in-End-clause-counted : goal.returns-in-End-clause-counted
returns-in-End-clause-counted c =
    let is = c.in-End.ensures in
    cached_count-kept _ _ _ c.set_tag.ensures.tags (ap unmarked c.set_tag.ensures.tag
    ∙ sym (open_uncached _ (first_open _ _ _ (rw is.2 at c.args.self.now.path))))

pub returns-in-End-clause-remaining : goal.returns-in-End-clause-remaining
returns-in-End-clause-remaining c =
    let is = c.in-End.ensures in
    λ bytes bounds k. rw is.2 (closed_remaining _ _ _ _ _ _ (rw is.2 at k) _
    (rw is.2 at c.args.self.now.path) is.3 c.set_tag.ensures.tags c.set_tag.ensures.tag)

pub returns-in-End-clause-weight : goal.returns-in-End-clause-weight
returns-in-End-clause-weight c =
    let is = c.in-End.ensures in
    λ n. rw is.2 (closed_weight n (frame_of c.in-End.object _ _) _ is.3)

pub invariant_of-self-in-Child-1 : goal.invariant_of-self-in-Child-1
invariant_of-self-in-Child-1 c =
    let is = c.in-Child.ensures in
    record {
      same = c.args.self.now.same;
      path = rw is.2 (next_path c.args.self.now.tags.items c.in-Child.frame _
          (rw is.1 at c.args.self.now.path));
      packed = c.args.self.now.packed;
    }

pub returns-in-Child-clause-within : goal.returns-in-Child-clause-within
returns-in-Child-clause-within c =
    let is = c.in-Child.ensures in
    let path = rw is.1 at c.args.self.now.path in
    (first_below _ _ _ path, first_open _ _ _ path, is.3)

pub returns-in-Child-clause-remaining : goal.returns-in-Child-clause-remaining
returns-in-Child-clause-remaining c =
    let is = c.in-Child.ensures in
    λ bytes bounds k. rw (is.1, is.2) (child_remaining _ _ _ _ _ _ (rw is.1 at k) is.3)

pub returns-in-Child-clause-weight : goal.returns-in-Child-clause-weight
returns-in-Child-clause-weight c =
    let is = c.in-Child.ensures in
    λ n. rw (is.1, is.2) (child_weight n c.in-Child.frame _ is.3)
