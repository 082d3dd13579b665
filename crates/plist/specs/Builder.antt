-- What contracts see of a builder, and of a visitor that builds a value.
use Rattle.std.specs.Prelude.{◌≡◌, true, false, Result, Ok, Err, IfErr, OnOk}
use Rattle.std.specs.declared.ops.ControlFlow.TheVariants.{Continue, Break}
use Rattle.plist_base.specs.declared.error.Error.{Error}
use Rattle.plist_base.specs.Events.{PlainEvent, Item}
use Rattle.plist_base.specs.Faults.{fault_of, fault_without_offset, WriterFailed}
use Rattle.plist_base.specs.Visits.{Flow}
use Rattle.plist_base.specs.Writing.{Answer, AnswersByOrder}
use Rattle.plist.specs.declared.stream.builder.Builder.{Builder}
use Rattle.plist.specs.declared.collect.ValueVisitor.{ValueVisitor}
use Rattle.plist.specs.declared.unfinished.AddError.{AddError}
use Rattle.plist.specs.Building.{Built, IsAnswered, events_so_far}
use Rattle.plist.specs.Collecting.{RefusesOne, TakesOne}
use Rattle.plist.specs.UnfinishedValues.{fault_of_add_error, unfinished_of}

-- what contracts see of a builder: its unfinished tree, and whether it has failed
abbrev pub built_of : Builder → Built
built_of builder = record { unfinished = unfinished_of builder.unfinished; failed = builder.failed }

-- what a builder returns for an event, and what it contains afterwards; `order` and `failure` are
-- the laws of a `Writer`, which follow from `answered`
pub record IsBuildingStep (before : Builder) (event : PlainEvent) (answer : Answer)
    (after : Builder) : Type 0 where
  pub answered : IsAnswered (built_of before) event answer (built_of after) (after ≡ before)
  -- after `Ok` the event was added to the builder's contents
  pub added : OnOk answer (TakesOne (built_of before) (Ok event) (built_of after))
  pub order : before.failed ≡ false → AnswersByOrder (events_so_far (built_of before).unfinished)
      event answer (events_so_far (built_of after).unfinished) after.failed (after ≡ before)
  pub failure : before.failed ≡ true
      → (answer ≡ Err (fault_without_offset WriterFailed)) × (after ≡ before)

-- if the call failed, the builder rejected the item's event, ran out of memory for it, or returned
-- the item's fault
abbrev pub RefusesWith : {A : Type 0} → (before : Builder) → Item → Result A Error → Type 0
RefusesWith before item answer =
    IfErr answer (λ error. RefusesOne (built_of before).unfinished item (fault_of error))

-- the result is this rejection's error
abbrev pub IsRejectedWith : Result (Unit {0}) Error → AddError → Type 0
IsRejectedWith result rejection =
    (error : Error) × (result ≡ Err error) × (fault_of error ≡ fault_of_add_error rejection)

-- the event is added, and the result stays the same; or the builder rejects the event, and the
-- result is its error
abbrev pub BuildsEvent : (old : ValueVisitor) → PlainEvent → Flow → (new : ValueVisitor) → Type 0
BuildsEvent old event (Continue more) new =
    TakesOne (built_of old.builder) (Ok event) (built_of new.builder) × (new.result ≡ old.result)
BuildsEvent old event (Break stop) new =
    (error : Error) × (new.result ≡ Err error)
    × ((built_of old.builder).failed ≡ false
    → RefusesOne (built_of old.builder).unfinished (Ok event) (fault_of error))
