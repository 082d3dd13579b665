-- What is handed over to a visitor.
use Rattle.std.specs.Prelude.{◌≡◌, ◌⊎◌, Option, Some, Result, Ok, Err, MatchOption}
use Rattle.std.specs.declared.ops.ControlFlow.TheVariants.{Break}
use Rattle.plist_base.specs.declared.error.Error.{Error}
use Rattle.plist_base.specs.Events.{PlainEvent, event_of, IsTextOrDataEvent}
use Rattle.plist_base.specs.Faults.{fault_of}
use Rattle.plist_base.specs.Object.{Object}
use Rattle.plist_base.specs.Limits.{Admits, Refuses}
use Rattle.plist_base.specs.Visits.{Flow}
use Rattle.plist_decode.specs.declared.step_fault.StepFault.{StepFault}
use Rattle.plist_binread.specs.ObjectEvents.{SetsUnread}
use Rattle.plist_binread.specs.declared.visitors.FirstEvent.{FirstEvent}
use Rattle.plist_binread.specs.declared.visitors.Relay.{Relay}
use Rattle.plist_binread.specs.declared.visitors.Within.{Within}

-- the visitor that keeps one event stores it, or an allocation for its string or data failed
abbrev pub KeepsEvent : PlainEvent → Flow → FirstEvent → Type 0
KeepsEvent event flow visitor = (flow ≡ Break tt) × MatchOption visitor.kept
    (IsTextOrDataEvent event) (λ owned. event_of owned ≡ event)

module _ {V : Type 0} (step : V → PlainEvent → Flow → V → Type 0) (old new : V) where
  -- the visitor took this event, or is unchanged after an error or if there is no item
  abbrev pub TakesIfAny : Option (Result Flow StepFault) → PlainEvent → Type 0
  TakesIfAny (Some (Ok flow)) event = step old event flow new
  TakesIfAny other event = new ≡ old

  -- an event satisfies `P`, and the visitor took it unless there is an error or no item
  pub record HandsItem (item : Option (Result Flow StepFault)) (P : PlainEvent → Type 0) : Type 0
    where
      pub event : PlainEvent
      pub is : P event
      pub taken : TakesIfAny item event

module _ {V : Type 0} (step : V → PlainEvent → Flow → V → Type 0) where
  -- the first event of the object was handed over, or the object is faulty
  abbrev pub HandsUnread : (old : V) → Object → Result Flow StepFault → (new : V) → Type 0
  HandsUnread old object answer new = HandsItem step old new (Some answer) (SetsUnread object answer)

  -- an event is passed on to the inner visitor
  pub record PassesOn (old : Relay V) (event : PlainEvent) (flow : Flow) (new : Relay V) : Type 0
    where
      pub same : new.visitor.ghost_name ≡ old.visitor.ghost_name
      pub taken : step old.visitor.now event flow new.visitor.now

  -- the limits admit the event, and the inner visitor takes it
  pub record TakesAdmitted (old : Within V) (event : PlainEvent) (flow : Flow) (new : Within V)
      : Type 0 where
    pub admitted : Admits old.limiter.now event new.limiter.now
    pub reached : new.reached.now ≡ old.reached.now
    pub taken : step old.visitor.now event flow new.visitor.now

  -- the event exceeds a limit, and the inner visitor doesn't receive it
  pub record ReachesLimit (old : Within V) (event : PlainEvent) (new : Within V) : Type 0 where
    pub error : Error
    pub refused : Refuses old.limiter.now event (fault_of error)
    pub reached : new.reached.now ≡ Err error
    pub untaken : new.visitor.now ≡ old.visitor.now

  -- a visitor within limits passes an event on, or reports the limit that the event exceeds
  pub record TakesWithin (old : Within V) (event : PlainEvent) (flow : Flow) (new : Within V) : Type 0
    where
      pub limiter : new.limiter.ghost_name ≡ old.limiter.ghost_name
      pub slot : new.reached.ghost_name ≡ old.reached.ghost_name
      pub visitor : new.visitor.ghost_name ≡ old.visitor.ghost_name
      pub takes : TakesAdmitted old event flow new ⊎ ReachesLimit old event new
