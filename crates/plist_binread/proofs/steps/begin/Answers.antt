use Rattle.std.proofs.Common.{◌≡◌, arith, ◌∙◌, sym, subst, ap, refl, rules, length}
use Rattle.std.proofs.Math.ListN.{length-replicate}
use Rattle.plist_decode.proofs.FaultOffsets.{passed}
use Rattle.plist_decode.specs.declared.head.Bounds.{Bounds}
use Rattle.plist_base.specs.Events.{EndCollection}
use Rattle.plist_decode.specs.StepFaults.{error_of, result_with}
use Rattle.plist_decode.specs.declared.step_fault.StepFault.TheVariants.{Memory}
use Rattle.plist_decode.proofs.UnknownBytes.{IfSome-all}
use Rattle.plist_binread.proofs.OpenObjects.{IsOpen-none, cached_count-none, cached_count-empty}
use Rattle.plist_binread.proofs.FirstItem.{known_unread, known_wanted, known_opens, known_begun, known_cached, known_counted, known_hidden, known_uncounted}
use Rattle.plist_binread.proofs.Tags.{zeros_packed}
use Rattle.plist_binread.proofs.VisitorLimits.{passed_on}
use Rattle.plist_binread.specs.Remaining.{ArePacked}
use Rattle.plist_binread.proofs.steps.begin.Goals as goal
use Rattle.plist_binread.proofs.steps.begin.Goals.{In_ok-tags}

pub returns-in_err-head-clause-handed : goal.returns-in_err-head-clause-handed
returns-in_err-head-clause-handed g c =
    let refused = rw (← c.in_err-head.ensures.answer) at c.read.ensures.refused in
    rw (passed _ c.from_residual.ensures.1) (record {
      event = EndCollection;
      is = record {
        first = known_unread (g.S.Source.known c.args.source.now) (error_of c.in_err-head.field-0.0 c.keep_error.new.self) refused;
        cached = IfSome-all _ (λ _. tt);
      };
      taken = refl;
    })

pub returns-in_err-tags-clause-handed : goal.returns-in_err-tags-clause-handed
returns-in_err-tags-clause-handed g c =
    rw (passed _ c.from_residual-in_err-tags.ensures.1) (record {
      event = EndCollection;
      is = record {
        first = known_wanted (g.S.Source.known c.args.source.now) (error_of Memory c.keep_error.new.self) refl;
        cached = IfSome-all _ (λ _. tt);
      };
      taken = refl;
    })

pub returns-in_err-head-clause-objects : goal.returns-in_err-head-clause-objects
returns-in_err-head-clause-objects g c =
    let refused = rw (← c.in_err-head.ensures.answer) at c.read.ensures.refused in
    rw (passed _ c.from_residual.ensures.1)
    (known_uncounted (g.S.Source.known c.args.source.now) (error_of c.in_err-head.field-0.0 c.keep_error.new.self)
    (length c.args.walk.now.tags.items) c.requires.empty.0 refused)

pub returns-in_err-tags-clause-objects : goal.returns-in_err-tags-clause-objects
returns-in_err-tags-clause-objects g c =
    rw (passed _ c.from_residual-in_err-tags.ensures.1)
    (known_hidden (g.S.Source.known c.args.source.now) (error_of Memory c.keep_error.new.self)
    (length c.args.walk.now.tags.items) c.requires.empty.0 refl)

-- there are as many tags as offsets
count : (g : _) (c : In_ok-tags g)
    → length c.in_ok-tags.tags.items ≡ length c.in_ok-head.head.places.items
count g c =
    ap length (c.in_ok-tags.ensures.items_if_clones_equal (λ _ is. is)) ∙ length-replicate c.len.result 0 ∙ c.len.ensures
    ∙ c.in_ok-head.head.places.ok.0

pub returns-clause-objects : goal.returns-clause-objects
returns-clause-objects g c =
    known_counted (g.S.Source.known c.args.source.now) c.in_ok-head.head c.enter_object.result
    c.enter_object.new.decoder.details c.enter_object.new.walk
    (c.enter_object.ensures.kept.size ∙ count g (goal.at.returns-clause-objects g c).In_ok-tags)
    (rw (← c.in_ok-head.ensures.answer) at c.read.ensures.value)

pub invariant_of-walk : goal.invariant_of-walk
invariant_of-walk g c =
    let there = (goal.at.invariant_of-walk g c).In_ok-tags in
    record {
      same = sym (count g there);
      path = IsOpen-none _ _ _ (c.in_ok-tags.ensures.items_if_clones_equal (λ _ is. is)) c.requires.empty.1;
      packed = subst (λ tags. ArePacked tags c.in_ok-head.head.places.items) (sym (c.in_ok-tags.ensures.items_if_clones_equal (λ _ is. is)))
          (zeros_packed c.len.result _);
    }

pub enter_object-requires-clause-known : goal.enter_object-requires-clause-known
enter_object-requires-clause-known g c =
    let value = rw (← c.in_ok-head.ensures.answer) at c.read.ensures.value in
    let within = rw (← c.in_ok-head.ensures.answer) at c.read.ensures.within in
    known_opens (g.S.Source.known c.args.source.now) (g.S.Source.known c.read.new.source)
    c.in_ok-head.head _ c.in_ok-tags.tags.items c.len.result c.args.walk.now.frames
    c.read.ensures.unchanged value within refl refl (c.in_ok-tags.ensures.items_if_clones_equal (λ _ is. is))
    (c.len.ensures ∙ c.in_ok-head.head.places.ok.0) c.requires.empty.1

pub enter_object-requires-clause-counted : goal.enter_object-requires-clause-counted
enter_object-requires-clause-counted g c = λ counts.
    c.requires.counted counts
    ∙ cached_count-empty c.args.walk.now.tags.items c.requires.empty.0
    ∙ sym (cached_count-none c.len.result c.in_ok-tags.tags.items (c.in_ok-tags.ensures.items_if_clones_equal (λ _ is. is)))

-- the bounds of the file
abbrev bounds : (g : _) (c : In_ok-tags g) → Bounds
bounds g c = record {
  trailer = c.in_ok-head.head.trailer;
  reference_width = c.in_ok-head.head.reference_width;
  width = c.in_ok-head.head.width;
  small = omega arith;
}

pub returns-clause-handed : goal.returns-clause-handed
returns-clause-handed g c =
    let there = (goal.at.returns-clause-handed g c).In_ok-tags in
    let h = c.enter_object.ensures.handed in
    record {
      event = h.event;
      is = record {
        first = rw c.enter_object.ensures.kept.bounds (known_begun
            (g.S.Source.known c.args.source.now) (g.S.Source.known c.read.new.source)
            c.in_ok-head.head (bounds g there) c.in_ok-tags.tags.items c.args.walk.now.frames
            c.enter_object.new.walk.frames (result_with c.enter_object.result c.enter_object.new.decoder.details) h.event
            c.read.ensures.unchanged c.requires.empty.1 (count g there) refl refl
            (rw (← c.in_ok-head.ensures.answer) at c.read.ensures.value) h.is.first);
        cached = known_cached (g.S.Source.known c.args.source.now)
            (g.S.Source.known c.read.new.source) c.in_ok-head.head _
            (result_with c.enter_object.result c.enter_object.new.decoder.details) h.event c.enter_object.new.walk.tags.items
            c.read.ensures.unchanged refl (rw (← c.in_ok-head.ensures.answer) at c.read.ensures.value) h.is.cached;
      };
      taken = passed_on g.V.EventVisitor.step _ c.enter_object.new.visitor _ _
          c.enter_object.result h.event refl (search rules) h.taken;
    }
