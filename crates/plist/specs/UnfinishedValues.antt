-- What contracts see of the run-time state of a builder.
use Rattle.std.specs.Prelude.{◌≡◌, List, Option, Some, None, Result, Ok, Err, map}
use Rattle.plist_base.specs.Events.{PlainEvent}
use Rattle.plist_base.specs.Faults.{Fault, FaultKind, ExpectedEndOfEventStream, OutOfMemory, UnexpectedEventType, WriterFailed, fault_without_offset}
use Rattle.plist_base.specs.Writing.{Answer}
use Rattle.plist.specs.declared.unfinished.AddError.{AddError}
use Rattle.plist.specs.declared.unfinished.AddError.TheVariants.{Failed, Unexpected, AfterEnd}
use Rattle.plist.specs.declared.unfinished.AddError.TheVariants as rejection
use Rattle.plist.specs.declared.unfinished.UnfinishedValue.{UnfinishedValue}
use Rattle.plist.specs.declared.value.Value.{Value}
use Rattle.plist.specs.Building.{OpenCollection, Unfinished, Complete}
use Rattle.plist.specs.LastWins.{with_pair}
use Rattle.plist.specs.inner.BuilderSteps.{and_event}
use Rattle.plist.specs.OpenCollections.{Contents, open_of, within}
use Rattle.plist.specs.ValueTrees.{tree_of}

-- the complete tree if there is a root, and otherwise the unfinished one that consists of the open
-- collections, innermost first
abbrev pub unfinished_in : Option Value → List Contents → Unfinished
unfinished_in (Some root) collections = Complete (tree_of root)
unfinished_in None collections = within collections

-- the open collections, innermost first
abbrev pub collections_of : UnfinishedValue → List OpenCollection
collections_of unfinished = map open_of unfinished.collections

-- the unfinished tree
abbrev pub unfinished_of : UnfinishedValue → Unfinished
unfinished_of unfinished = unfinished_in unfinished.root unfinished.collections

-- the event is added to the unfinished tree
abbrev pub AddsEvent : (before : UnfinishedValue) → PlainEvent → (after : UnfinishedValue) → Type 0
AddsEvent before event after =
    and_event with_pair (unfinished_of before) event ≡ Some (unfinished_of after)

-- the kind of error that a rejection becomes
abbrev pub kind_of_add_error : AddError → FaultKind
kind_of_add_error Failed = WriterFailed
kind_of_add_error (Unexpected expected found) = UnexpectedEventType expected found
kind_of_add_error (AfterEnd found) = ExpectedEndOfEventStream found
kind_of_add_error rejection.OutOfMemory = OutOfMemory

-- the fault that a rejection becomes, which has no offset
abbrev pub fault_of_add_error : AddError → Fault
fault_of_add_error rejection = fault_without_offset (kind_of_add_error rejection)

-- what contracts see of the result of adding an event
abbrev pub answer_of_adding : Result (Unit {0}) AddError → Answer
answer_of_adding (Ok done) = Ok done
answer_of_adding (Err rejection) = Err (fault_of_add_error rejection)
