-- How the events of a source are copied to a writer.
use Rattle.std.specs.Prelude.{◌≡◌, ◌⊎◌, List, [], ◌∷◌, None, Some, Result, Ok, Err}
use Rattle.std.specs.declared.ops.ControlFlow.TheVariants.{Continue, Break}
use Rattle.plist_base.specs.declared.copy.EventCopier.{EventCopier}
use Rattle.plist_base.specs.declared.error.Error.{Error}
use Rattle.plist_base.specs.Events.{PlainEvent}
use Rattle.plist_base.specs.Faults.{fault_of}
use Rattle.plist_base.specs.Visits.{Flow, PlainItem}
use Rattle.plist_base.specs.Writing.{Answer}

module _ {I W : Type 0} (yields : I → PlainItem → I → Type 0)
    (Step : W → PlainEvent → Answer → W → Type 0) where
  -- the source yields this event, and the writer returns this for it
  pub record CopiesEvent (old : I × W) (event : PlainEvent) (answer : Answer) (new : I × W) : Type 0
    where
      pub given : yields old.0 (Some (Ok event)) new.0
      pub written : Step old.1 event answer new.1

  -- these events are copied one by one
  abbrev pub CopiesAll : (old : I × W) → List PlainEvent → (new : I × W) → Type 0
  CopiesAll old [] new = new ≡ old
  CopiesAll old (event ∷ events) new =
      (next : I × W) × CopiesEvent old event (Ok tt) next × CopiesAll next events new

  -- the source ends; or an error replaces an event, or is what the writer returns for one
  abbrev pub EndsCopy : (old : I × W) → Result (Unit {0}) Error → (new : I × W) → Type 0
  EndsCopy old (Ok done) new = yields old.0 None new.0 × (new.1 ≡ old.1)
  EndsCopy old (Err error) new = (yields old.0 (Some (Err error)) new.0 × (new.1 ≡ old.1))
      ⊎ ((event : PlainEvent) × CopiesEvent old event (Err (fault_of error)) new)

  -- events are copied one by one, and then the copy ends
  pub record Copies (old : I × W) (answer : Result (Unit {0}) Error) (new : I × W) : Type 0 where
    pub events : List PlainEvent
    pub left : I × W
    pub copied : CopiesAll old events left
    pub ended : EndsCopy left answer new

module _ {W : Type 0} (Step : W → PlainEvent → Answer → W → Type 0) (old : EventCopier W)
    (event : PlainEvent) where
  -- the writer returns `Ok` and the result stays the same, or the writer returns an error, which
  -- is the result then
  abbrev pub ResultsIn : Flow → (new : EventCopier W) → Type 0
  ResultsIn (Continue more) new =
      Step old.writer.now event (Ok tt) new.writer.now × (new.result ≡ old.result)
  ResultsIn (Break stop) new = (error : Error) × (new.result ≡ Err error)
      × Step old.writer.now event (Err (fault_of error)) new.writer.now

  -- a copier passes the event on to its writer, and wants more if the writer returns `Ok`
  pub record WritesEvent (flow : Flow) (new : EventCopier W) : Type 0 where
    pub same : new.writer.ghost_name ≡ old.writer.ghost_name
    pub answer : ResultsIn flow new
