use Rattle.std.proofs.Common.{◌≡◌, arith, refl, subst}
use Rattle.std.specs.declared.ops.ControlFlow.TheVariants.{Continue}
use Rattle.plist_decode.specs.StepFaults.{result_with}
use Rattle.plist_binread.proofs.TokenSteps.{Repeats, event_entered, hands_from, repeated, tokens_kept, tokens_stored, tokens_then}
use Rattle.plist_binread.proofs.WalkSteps.{steps_positive}
use Rattle.plist_binread.proofs.tokens.Tokens.enter.Goals as goal
use Rattle.plist_binread.proofs.tokens.Tokens.enter.Goals.{In-Some}

pub returns-in-Some-clause-falls : goal.returns-in-Some-clause-falls
returns-in-Some-clause-falls g c = omega (arith, steps_positive)

-- the event that the token names was taken once more
again : (g : _) (c : In-Some g) → Repeats (g.S.Source.known c.args.source.now)
    c.args.decoder.now.bounds c.args.walk.now c.args.reference
    (λ event. g.V.EventVisitor.step c.args.visitor.now event c.in-Some.flow c.again.new.self)
again g c = repeated g.V.EventVisitor.step g.V.EventVisitor.names _ _ c.args.self.now
    c.args.walk.now c.requires.known c.args.reference c.token_of.result _ _ c.again.result
    c.in-Some.flow c.requires.tokens c.token_of.ensures c.again.ensures.unnamed
    c.again.ensures.taken c.in-Some.is

pub returns-in-Some-clause-handed : goal.returns-in-Some-clause-handed
returns-in-Some-clause-handed g c =
    let it = again g (goal.at.returns-in-Some-clause-handed g c).In-Some in
    record {
      event = it.event;
      is = record { first = it.first; cached = it.cached };
      taken = it.taken;
    }

pub returns-in-Some-clause-tokens : goal.returns-in-Some-clause-tokens
returns-in-Some-clause-tokens g c = λ more.
    let it = again g (goal.at.returns-in-Some-clause-tokens g c).In-Some in
    let goes : c.in-Some.flow ≡ Continue tt = cc in
    tokens_then g.V.EventVisitor.step g.V.EventVisitor.names c.args.self.now _ it.event _ _
    c.requires.tokens (rw (← goes) it.taken)

pub returns-in-None-clause-handed : goal.returns-in-None-clause-handed
returns-in-None-clause-handed g c =
    hands_from g.V.EventVisitor.step (c.in-None.ensures.declined refl)
    c.enter_object-entered.ensures.handed

pub returns-in-None-clause-tokens : goal.returns-in-None-clause-tokens
returns-in-None-clause-tokens g c = λ more.
    let h = c.enter_object-entered.ensures.handed in
    let taken = subst (λ v. g.V.EventVisitor.step v h.event (Continue tt)
    c.enter_object-entered.new.visitor) (c.in-None.ensures.declined refl) (rw more at h.taken) in
    let now = c.enter_object-entered.new.walk in
    tokens_stored g.V.EventVisitor.step g.V.EventVisitor.names c.args.self.now
    c.remember.new.self c.args.reference.number c.remember.ensures.0 h.event _ _
    (tokens_then g.V.EventVisitor.step g.V.EventVisitor.names c.args.self.now _ h.event _ _
    (tokens_kept g.V.EventVisitor.step g.V.EventVisitor.names _ c.args.decoder.now.bounds
    c.args.walk.now now c.args.self.now _ c.requires.tokens
    c.enter_object-entered.ensures.still_cached) taken)
    c.remember.ensures.2 (λ some. c.remember.ensures.1 c.args.visitor.now h.event taken some)
    (event_entered _ c.args.decoder.now.bounds c.args.walk.now now c.requires.known
    c.args.reference (result_with c.enter_object-entered.result
    c.enter_object-entered.new.decoder.details) (Continue tt) h.event (rw more refl) h.is.first h.is.cached)
