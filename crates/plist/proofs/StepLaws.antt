-- A builder follows the laws of writers.
use Rattle.std.specs.Prelude.{◌≡◌, ◌++◌, ◌∷◌, [], true, false, Some, None, Result, Ok, Err, OnOk}
use Rattle.std.proofs.Common.{inr, refl, sym, ◌∙◌, subst, true≢false}
use Rattle.std.proofs.lemmas.Option.{none-some, same_Some}
use Rattle.plist_buffer.specs.declared.expects.Transition.{Transition}
use Rattle.plist_buffer.specs.declared.expects.Transition.TheVariants as change
use Rattle.plist_buffer.specs.declared.expects.Expect.TheVariants.{OneValue}
use Rattle.plist_base.specs.declared.error.Error.{Error}
use Rattle.plist_base.specs.Events.{PlainEvent}
use Rattle.plist_buffer.specs.Expects.{transition_of}
use Rattle.plist_base.specs.Faults as faults
use Rattle.plist_base.specs.Faults.{FaultKind, fault_of, fault_without_offset, WriterFailed}
use Rattle.plist_base.specs.Bracketing.{CanContinue, ContinueAlike}
use Rattle.plist_base.specs.Writing.{Answer, MatchKind, AnswersByOrder, answer_of}
use Rattle.plist.specs.declared.stream.builder.Builder.{Builder}
use Rattle.plist.specs.Building.{Unfinished, NotBegun, Within, Complete, Built, IsAnswered, IsNested, events_so_far, expected_within, if_refused, refusal_at, IsRefusedStep}
use Rattle.plist.specs.Builder.{built_of, IsBuildingStep, RefusesWith}
use Rattle.plist.specs.Collecting.{IsRefusal, TakesOne}
use Rattle.plist.proofs.Following.{refused-ends, taken-continues, accepted-continues, last-continues}

-- this kind of fault is that of an event that can't come next
abbrev IsForOrder : FaultKind → Type 0
IsForOrder kind = MatchKind kind (Unit {0}) ⊥ ⊥

-- if a kind is that of an event that can't come next, so is an equal kind
for_order : (kind other : FaultKind) → Some other ≡ Some kind → IsForOrder other → IsForOrder kind
for_order kind other p x = subst IsForOrder (same_Some other kind p) x

-- if the given kind is that of an event that can't come next, so is the kind with which a change is
-- rejected
change-order : (c : Transition) (kind other : FaultKind) → if_refused c other ≡ Some kind
    → IsForOrder other → IsForOrder kind
change-order change.Refused kind other p x = for_order _ _ p x
change-order c kind other p x = absurd (none-some _ p)

-- the kind of a rejection is that of an event that can't come next
pub refusal-order : (u : Unfinished) (e : PlainEvent) (kind : FaultKind)
    → refusal_at u e ≡ Some kind → IsForOrder kind
refusal-order NotBegun e kind p = change-order (transition_of OneValue e) _ _ p tt
refusal-order (Within c outer) e kind p = change-order (transition_of (expected_within c) e) _ _ p tt
refusal-order (Complete tree) e kind p =
    for_order _ _ p tt

-- an event that can't come next is rejected with this kind, and the builder is unchanged
pub refused_step : (before after : Built) (event : PlainEvent) (unchanged : Type 0)
    (kind : FaultKind) → refusal_at before.unfinished event ≡ Some kind → before.failed ≡ false
    → unchanged → IsRefusedStep before event kind after unchanged
refused_step before after event unchanged faults.OutOfMemory r f same =
    absurd (refusal-order before.unfinished event faults.OutOfMemory r)
refused_step before after event unchanged faults.WriterFailed r f same =
    absurd (refusal-order before.unfinished event faults.WriterFailed r)
refused_step before after event unchanged kind r f same = (f, r, same)

-- what a rejection says of the event, and of the builder after it
module _ (before after : Built) (event : PlainEvent) (unchanged : Type 0)
    (ok : IsNested before.unfinished) (f : before.failed ≡ false) where
  -- the event can't come next, and the builder is unchanged
  abbrev Refused : Type 0
  Refused = (CanContinue (events_so_far before.unfinished) event → ⊥) × unchanged

  -- if the event is rejected, `Refused` is true
  out_of_order : (kind : FaultKind) → refusal_at before.unfinished event ≡ Some kind → unchanged
      → Refused
  out_of_order kind r s = (
    refused-ends before.unfinished event ok
        (λ n. none-some kind (sym n ∙ r)),
    s,
  )

  -- if memory ran out, the event could come next, and the builder has failed
  wanting : refusal_at before.unfinished event ≡ None → after.failed ≡ true
      → CanContinue (events_so_far before.unfinished) event × (after.failed ≡ true)
  wanting r failed = (accepted-continues _ _ ok r, failed)

  -- if the event is rejected, the kind is that of an event that can't come next
  never : (kind : FaultKind) → refusal_at before.unfinished event ≡ Some kind → IsForOrder kind
  never kind r = refusal-order _ _ _ r

  -- what the law of writers says of each kind of fault
  refusal_law : (kind : FaultKind) → IsRefusedStep before event kind after unchanged
      → MatchKind kind Refused (CanContinue (events_so_far before.unfinished) event
      × (after.failed ≡ true)) ⊥
  refusal_law (faults.UnexpectedEventType expected found) r = out_of_order _ r.1 r.2
  refusal_law (faults.ExpectedEndOfEventStream found) r = out_of_order _ r.1 r.2
  refusal_law faults.OutOfMemory r = wanting r.1 r.2
  refusal_law faults.WriterFailed r = absurd (true≢false (sym r.0 ∙ f))
  refusal_law kind r = absurd (never kind r.1)

-- a builder that hasn't failed follows the law of writers
order_law : (before after : Builder) (event : PlainEvent) (answer : Answer)
    → IsNested (built_of before).unfinished
    → IsAnswered (built_of before) event answer (built_of after) (after ≡ before)
    → before.failed ≡ false → AnswersByOrder (events_so_far (built_of before).unfinished) event answer
    (events_so_far (built_of after).unfinished) after.failed (after ≡ before)
order_law before after event (Ok done) ok s f =
    let (taken, nested, alike, last) = s.3 in
    let events = events_so_far (built_of before).unfinished ++ event ∷ [] in (
      taken-continues (built_of before).unfinished taken event nested alike,
      s.2,
      inr (subst (λ u. ContinueAlike (events_so_far u) events) (sym last)
          (last-continues taken events nested alike)),
    )
order_law before after event (Err fault) ok s f = (
  s.0,
  refusal_law (built_of before) (built_of after) event (after ≡ before) ok f fault.kind s.1,
)

-- the fault of a builder that has failed
failed_kind : (before after : Built) (event : PlainEvent) (unchanged : Type 0) (kind : FaultKind)
    → IsRefusedStep before event kind after unchanged → before.failed ≡ true → (kind ≡ WriterFailed)
    × unchanged
failed_kind before after event unchanged faults.WriterFailed r f = (refl, r.1)
failed_kind before after event unchanged kind r f = absurd (true≢false (sym f ∙ r.0))

-- a builder that has failed returns `WriterFailed`, and is unchanged
failure_law : (before after : Builder) (event : PlainEvent) (answer : Answer)
    → IsAnswered (built_of before) event answer (built_of after) (after ≡ before)
    → before.failed ≡ true → (answer ≡ Err (fault_without_offset WriterFailed)) × (after ≡ before)
failure_law before after event (Ok done) s f = absurd (true≢false (sym f ∙ s.0))
failure_law before after event (Err fault) s f =
    let k = failed_kind (built_of before) (built_of after) event (after ≡ before) fault.kind s.1 f in
    ((λ i. Err (record { kind = k.0 i; offset = s.0 i })), k.1)

-- a builder whose collections are nested follows the laws of writers
pub by_laws : (before after : Builder) (event : PlainEvent) (answer : Answer)
    → IsNested (built_of before).unfinished
    → IsAnswered (built_of before) event answer (built_of after) (after ≡ before)
    → OnOk answer (TakesOne (built_of before) (Ok event) (built_of after))
    → IsBuildingStep before event answer after
by_laws before after event answer ok s added = record {
  answered = s;
  added = added;
  order = order_law before after event answer ok s;
  failure = failure_law before after event answer s;
}

-- the fault with which an event isn't added to a builder that hasn't failed
refused_fault : (before after : Built) (event : PlainEvent) (unchanged : Type 0) (kind : FaultKind)
    → IsRefusedStep before event kind after unchanged → before.failed ≡ false
    → IsRefusal (refusal_at before.unfinished event) (fault_without_offset kind)
refused_fault before after event unchanged faults.OutOfMemory r f = rw r.1 refl
refused_fault before after event unchanged faults.WriterFailed r f =
    absurd (true≢false (sym r.0 ∙ f))
refused_fault before after event unchanged kind r f = rw r.1 refl

pub write_refused : (before after : Builder) (event : PlainEvent) (result : Result (Unit {0}) Error)
    → IsBuildingStep before event (answer_of result) after → (built_of before).failed ≡ false
    → RefusesWith before (Ok event) result
write_refused before after event (Ok done) step works = tt
write_refused before after event (Err error) step works =
    let fault = fault_of error in
    let (no_offset, refused) = step.answered in
    let is : fault ≡ fault_without_offset fault.kind =
    λ i. record { kind = fault.kind; offset = no_offset i } in
    subst (IsRefusal (refusal_at (built_of before).unfinished event)) (sym is)
    (refused_fault (built_of before) (built_of after) event (after ≡ before) fault.kind refused works)
