-- What a call of a writer returns, and when.
use Rattle.std.specs.Prelude.{◌≡◌, ◌⊎◌, ◌++◌, ◌∷◌, [], List, Bool, true, false, None, Result, Ok, Err}
use Rattle.plist_base.specs.declared.error.Error.{Error}
use Rattle.plist_base.specs.Bracketing.{AreTreeEvents, CanContinue, ContinueAlike}
use Rattle.plist_base.specs.Events.{PlainEvent}
use Rattle.plist_base.specs.Faults.{FaultKind, Fault, fault_of, UnexpectedEventType, ExpectedEndOfEventStream, Io, OutOfMemory, PlistTooLarge}

-- the result of a call, which is `Ok` or a fault
abbrev pub Answer : Type 0
Answer = Result (Unit {0}) Fault

-- what contracts see of a result
abbrev pub answer_of : Result (Unit {0}) Error → Answer
answer_of (Ok done) = Ok done
answer_of (Err error) = Err (fault_of error)

-- `refused` for a fault that rejects the event, `failed` for one that makes the writer fail, and
-- `other` for any other fault
abbrev pub MatchKind : FaultKind → (refused failed other : Type 0) → Type 0
MatchKind (UnexpectedEventType expected found) refused failed other = refused
MatchKind (ExpectedEndOfEventStream found) refused failed other = refused
MatchKind Io refused failed other = failed
MatchKind OutOfMemory refused failed other = failed
MatchKind PlistTooLarge refused failed other = failed
MatchKind kind refused failed other = other

-- `accepted` after `Ok`; after a fault, which has no offset, the fact that `MatchKind` selects
abbrev pub MatchAnswer : Answer → (accepted refused failed other : Type 0) → Type 0
MatchAnswer (Ok done) accepted refused failed other = accepted
MatchAnswer (Err fault) accepted refused failed other =
    (fault.offset ≡ None) × MatchKind fault.kind refused failed other

-- unless the event completes a tree, what can follow `after` is what can follow `before` and the
-- event
abbrev pub IsHeldAfter : (before : List PlainEvent) → PlainEvent → (after : List PlainEvent) → Type 0
IsHeldAfter before event after =
    AreTreeEvents (before ++ event ∷ []) ⊎ ContinueAlike after (before ++ event ∷ [])

-- a writer that hasn't failed rejects an event if and only if the event can't come next
abbrev pub AnswersByOrder : (before : List PlainEvent) → PlainEvent → Answer
    → (after : List PlainEvent) → (failed : Bool) → (unchanged : Type 0) → Type 0
AnswersByOrder before event answer after failed unchanged = MatchAnswer answer
    (CanContinue before event × (failed ≡ false) × IsHeldAfter before event after)
    ((CanContinue before event → ⊥) × unchanged)
    (CanContinue before event × (failed ≡ true))
    ⊥
