-- Which events a visitor takes within limits, or from a visitor that passes them on.
use Rattle.std.proofs.Common.{◌≡◌, inl, inr, Option, None, Some, Result, Ok, Err, ap, subst, sym, ◌∙◌}
use Rattle.plist_base.specs.declared.error.Error.{Error}
use Rattle.plist_base.specs.Events.{PlainEvent}
use Rattle.plist_base.specs.Faults.{Fault, fault_of}
use Rattle.plist_base.specs.Limits.{Refuses, RefusesAny}
use Rattle.plist_base.specs.declared.limits.LimitCounter.{LimitCounter}
use Rattle.plist_base.specs.Visits.{Flow}
use Rattle.plist_binread.specs.Handovers.{HandsItem, PassesOn, TakesIfAny, TakesWithin}
use Rattle.plist_decode.specs.declared.step_fault.StepFault.{StepFault}
use Rattle.plist_binread.specs.declared.visitors.Relay.{Relay}
use Rattle.plist_binread.specs.declared.visitors.Within.{Within}

-- the walk yielded an event that exceeds a limit, with this error
pub record Reached {V : Type 0} (limits : LimitCounter) (before after : V)
    (P : Option (Result Flow StepFault) → PlainEvent → Type 0) (error : Error) : Type 0 where
  pub flow : Flow
  pub event : PlainEvent
  pub is : P (Some (Ok flow)) event
  pub refused : Refuses limits event (fault_of error)
  pub untaken : after ≡ before

pub reached_limit : {V : Type 0} (step : V → PlainEvent → Flow → V → Type 0) (old new : Within V)
    (item : Option (Result Flow StepFault)) (P : Option (Result Flow StepFault) → PlainEvent → Type 0)
    (error : Error) (limits : LimitCounter) (before : V)
    → old.limiter.now ≡ limits → old.visitor.now ≡ before
    → old.reached.now ≡ Ok tt → new.reached.now ≡ Err error
    → HandsItem (TakesWithin step) old new item (P item) → Reached limits before new.visitor.now P error
reached_limit step old new None P error limits before at inner unreached after h =
    let same = h.taken in absurd (cc)
reached_limit step old new (Some (Err refused)) P error limits before at inner unreached after h =
    let same = h.taken in absurd (cc)
reached_limit step old new (Some (Ok flow)) P error limits before at inner unreached after h =
    elim h.taken.takes [
      | inl admitted ↦ let same = admitted.reached in absurd (cc)
      | inr limit ↦
          let same : limit.error ≡ error = let is = limit.reached in cc in
          record {
            flow = flow;
            event = h.event;
            is = h.is;
            refused = subst (λ l. Refuses l h.event (fault_of error)) at (rw same at limit.refused);
            untaken = limit.untaken ∙ inner;
          }
    ]

-- a reader's limiter rejects the event that the visitor's copy of it rejected
pub refuses_any : (limiter : Option LimitCounter) (limits now : LimitCounter) (event : PlainEvent)
    (fault given : Fault) → limiter ≡ Some limits → now ≡ limits → given ≡ fault
    → Refuses now event given → RefusesAny limiter event fault
refuses_any limiter limits now event fault given is at same refused =
    subst (λ l. RefusesAny l event fault) (sym is) (subst (λ l. Refuses l event fault) at
    (subst (λ f. Refuses now event f) same refused))

-- what a visitor passes on is taken by the visitor in it
pub passed_on : {V : Type 0} (step : V → PlainEvent → Flow → V → Type 0) (old new : Relay V)
    (before after : V) (answer : Result Flow StepFault) (event : PlainEvent)
    → old.visitor.now ≡ before → after ≡ new.visitor.now
    → TakesIfAny (PassesOn step) old new (Some answer) event
    → TakesIfAny step before after (Some answer) event
passed_on step old new before after (Ok flow) event first last taken =
    rw (sym first, last) taken.taken
passed_on step old new before after (Err refused) event first last same =
    last ∙ ap (λ relay. relay.visitor.now) same ∙ first
