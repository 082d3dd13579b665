use Rattle.std.proofs.Common.{◌≡◌, arith, ◌<◌, length, ◌-◌, reverse, IfSome, refl, subst}
use Rattle.std.specs.declared.ops.ControlFlow.TheVariants.{Continue}
use Rattle.std.proofs.lemmas.Option.{IfSome_then}
use Rattle.std.proofs.lemmas.Result.{on_ok_weaker}
use Rattle.plist_binread.specs.declared.frames.NextChild.TheVariants.{Child}
use Rattle.plist_base.specs.Events.{EndCollection}
use Rattle.plist_decode.specs.StepFaults.{result_with}
use Rattle.plist_decode.proofs.UnknownBytes.{IfSome-all}
use Rattle.plist_binread.specs.Walking.{weight_in}
use Rattle.plist_binread.proofs.WalkSteps.{steps_positive}
use Rattle.plist_binread.proofs.ChildInvariant.{ChildTaken, child_failed, child_kept, child_references, child_yields}
use Rattle.plist_binread.proofs.TokenSteps.{tokens_kept, tokens_then}
use Rattle.plist_binread.proofs.tokens.Tokens.advance.Goals as goal
use Rattle.plist_binread.proofs.tokens.Tokens.advance.Goals.{In-Child}

-- the next child was taken as `ChildTaken` says
taken : (g : _) (c : In-Child g) → IfSome (g.S.Source.known c.args.source.now) (λ bytes.
    ChildTaken bytes c.args.decoder.now.bounds c.args.walk.now (Child c.in-Child.frame)
    c.next_child.new.self)
taken g c =
    IfSome_then (g.S.Source.known c.args.source.now) c.requires.known (λ bytes k.
    c.in-Child.ensures.remaining bytes c.args.decoder.now.bounds k)

pub read_child-requires-clause-references : goal.read_child-requires-clause-references
read_child-requires-clause-references g c =
    child_references _ c.args.decoder.now.bounds c.args.walk.now c.next_child.new.self
    c.in-Child.frame c.in-Child.ensures.within
    (taken g (goal.at.read_child-requires-clause-references g c).In-Child)

-- some steps remain before this one
some : (g : _) (c : In-Child g) → 0 < weight_in c.args.walk.now
some g c =
    let n = length c.args.walk.now.tags.items in
    let e = c.in-Child.ensures.weight n in
    omega (arith, e, steps_positive (n - length (reverse c.next_child.new.self.frames)))

-- ---- an end

pub returns-in-End-clause-tokens : goal.returns-in-End-clause-tokens
returns-in-End-clause-tokens g c = λ more.
    let goes : c.end_collection.result ≡ Continue tt = cc in
    tokens_then g.V.EventVisitor.step g.V.EventVisitor.names c.args.self.now _ EndCollection _ _
    (tokens_kept g.V.EventVisitor.step g.V.EventVisitor.names _ c.args.decoder.now.bounds
    c.args.walk.now c.next_child.new.self c.args.self.now _ c.requires.tokens
    c.next_child.ensures.still_cached)
    (subst (λ flow. g.V.EventVisitor.step c.args.visitor.now EndCollection flow
    c.end_collection.new.self) goes c.end_collection.ensures)

-- ---- a child whose reference can't be read

pub returns-in-Err-clause-falls : goal.returns-in-Err-clause-falls
returns-in-Err-clause-falls g c =
    (some g (goal.at.returns-in-Err-clause-falls g c).In-Child, tt)

pub returns-in-Err-clause-handed : goal.returns-in-Err-clause-handed
returns-in-Err-clause-handed g c =
    let t = goal.at.returns-in-Err-clause-handed g c in
    record {
      event = EndCollection;
      is = record {
        first = child_failed _ _ c.args.walk.now c.next_child.new.self c.in-Child.frame
            c.in-Child.ensures.within (taken g t.In-Child) _
            c.in-Err.ensures.child;
        cached = IfSome-all _ (λ _. tt);
      };
      taken = refl;
    }

-- ---- a child that is entered

pub returns-in-Ok-clause-falls : goal.returns-in-Ok-clause-falls
returns-in-Ok-clause-falls g c =
    let e = c.in-Child.ensures.weight (length c.args.walk.now.tags.items) in (
      some g (goal.at.returns-in-Ok-clause-falls g c).In-Child,
      on_ok_weaker c.enter.result (λ h. omega (arith, e, rw c.next_child.ensures.size at h))
          c.enter.ensures.falls,
    )

pub returns-in-Ok-clause-handed : goal.returns-in-Ok-clause-handed
returns-in-Ok-clause-handed g c =
    let t = goal.at.returns-in-Ok-clause-handed g c in
    let at = c.references-location.ensures in
    let h = c.enter.ensures.handed in
    let answer = result_with c.enter.result c.enter.new.decoder.details in
    record {
      event = h.event;
      is = record {
        first = child_yields _ _ c.args.walk.now c.next_child.new.self c.in-Child.frame
            c.in-Child.ensures.within (taken g t.In-Child) _ c.in-Ok.ensures.unchanged
            c.in-Ok.number c.in-Ok.ensures.child answer h.event c.enter.new.walk
            (rw (c.read_child.ensures.bounds, at) at h.is.first);
        cached = child_kept _ c.args.decoder.now.bounds c.args.walk.now c.next_child.new.self
            c.in-Child.frame c.in-Child.ensures.within (taken g t.In-Child) _
            c.in-Ok.ensures.unchanged c.in-Ok.number c.in-Ok.ensures.child answer h.event
            c.enter.new.walk.tags.items h.is.cached;
      };
      taken = h.taken;
    }
