-- The faults with which reading a value can fail.
use Rattle.std.proofs.Common.{◌≡◌, ℕ, inl, inr, Bool, true, false, List, [], ◌∷◌, ◌++◌, Option, Some, None, Result, Ok, Err, IfErr, IfSome, MatchBool, map, refl, sym, subst, ap, arith}
use Rattle.std.specs.Prelude.{⊤}
use Rattle.std.specs.Iterator.{Yields}
use Rattle.plist_base.specs.declared.error.Error.{Error}
use Rattle.plist_base.specs.declared.event.Event.{Event}
use Rattle.plist_base.specs.declared.limits.ByteBudget.{ByteBudget}
use Rattle.plist_base.specs.declared.limited_items.LimitedItems.{LimitedItems}
use Rattle.plist_base.specs.declared.limits.Limit.{Limit}
use Rattle.plist_base.specs.declared.limits.LimitCounter.{LimitCounter}
use Rattle.plist_base.specs.declared.source.Source.{Ghosts}
use Rattle.plist_buffer.specs.declared.expects.Transition.{Transition}
use Rattle.plist_buffer.specs.declared.expects.Transition.TheVariants.{Refused}
use Rattle.plist_buffer.specs.declared.expects.Expect.TheVariants.{OneValue}
use Rattle.plist_base.specs.Events.{Item, PlainEvent, event_of}
use Rattle.plist_buffer.specs.Expects.{transition_of}
use Rattle.plist_base.specs.Faults.{FaultKind, Fault, Io, IsNotIo, LimitReached, MatchFault, OutOfMemory, UnexpectedEndOfEventStream, fault_of, fault_without_offset}
use Rattle.plist_base.specs.Sources.{Rises}
use Rattle.plist_base.proofs.Refusals.{MatchFault-weaker}
use Rattle.plist_base.specs.Allowances.{GivesAllowed, PassesNext}
use Rattle.plist_base.specs.Budgets.{GivesWithinBudget, IsBudgetUsedUp, within_budget}
use Rattle.plist_base.specs.Limits.{GivesLimited, IsLimitReached, limited_by}
use Rattle.plist_base.specs.Trees.{Tree}
use Rattle.plist_ascii.specs.Ascii.{IsFaultOfBytes}
use Rattle.plist_ascii.specs.AsciiReader.{GivesAscii, device_of, place_of}
use Rattle.plist_ascii.specs.Unread.{RisesIfCounted}
use Rattle.plist_ascii.specs.declared.reader.AsciiReader.{AsciiReader}
use Rattle.plist_decode.specs.FaultOffsets.{HasOffset, MatchGiven}
use Rattle.plist_reader.specs.declared.reader.Reader.{Reader}
use Rattle.plist_reader.specs.declared.reader.State.{State}
use Rattle.plist_reader.specs.declared.reader.State.TheVariants as state
use Rattle.plist_reader.specs.Reader.{Gives, IsReaderFault, StateGives, is_limited_in, source_in}
use Rattle.plist_reader.proofs.ReaderItems.{HoldsSource}
use Rattle.plist.specs.declared.value.Value.{Value}
use Rattle.plist.specs.Building.{Unfinished, NotBegun, Within, Complete, expected_within, if_refused, refusal_at}
use Rattle.plist.specs.Collecting.{Collects, IsRefusal, built_tree, item_by}
use Rattle.plist.specs.FromReader.{IsAsciiReadingFault, IsFaultOfEvents, IsReadingFault, NeverFails, NeverFailsReading}

-- ---- an event that can't come next

if-refused : (change : Transition) (kind : FaultKind) → IsFaultOfEvents kind
    → IfSome (if_refused change kind) IsFaultOfEvents
if-refused Refused kind h = h
if-refused change kind h = tt

refused-events : (unfinished : Unfinished) (event : PlainEvent)
    → IfSome (refusal_at unfinished event) IsFaultOfEvents
refused-events NotBegun event = if-refused (transition_of OneValue event) _ tt
refused-events (Within collection outer) event =
    if-refused (transition_of (expected_within collection) event) _ tt
refused-events (Complete tree) event = tt

-- `P` is true of the faults of events and of `OutOfMemory`, all without an offset
pub record Covers (P : Fault → Type 0) : Type 0 where
  pub events : (kind : FaultKind) → IsFaultOfEvents kind → P (fault_without_offset kind)
  pub memory : P (fault_without_offset OutOfMemory)

of-refusal : (P : Fault → Type 0) (covers : Covers P) (refusal : Option FaultKind) (fault : Fault)
    → IfSome refusal IsFaultOfEvents → IsRefusal refusal fault → P fault
of-refusal P covers None fault events is = subst P (sym is) covers.memory
of-refusal P covers (Some kind) fault events is = subst P (sym is) (covers.events kind events)

-- each error that the iterator yields has such a fault
abbrev YieldsOnly : {E I : Type 0} → (I → Option (Result E Error) → I → Type 0) → (Fault → Type 0)
    → Type 0
YieldsOnly {E} {I} gives P =
    (old : I) (error : Error) (new : I) → gives old (Some (Err error)) new → P (fault_of error)

-- if no value can be built from an iterator's items, the reason is such a fault
abbrev FailsOnly : {E I : Type 0} → (E → PlainEvent) → (I → Option (Result E Error) → I → Type 0)
    → (Fault → Type 0) → Type 0
FailsOnly {E} {I} plain gives P =
    (iter : I) (answer : Result Value Error) → Collects plain gives iter (built_tree answer)
    → IfErr answer (λ error. P (fault_of error))

-- ---- an item that is an error

module _ {E I : Type 0} (plain : E → PlainEvent)
    (gives : I → Option (Result E Error) → I → Type 0) (P : Fault → Type 0) (covers : Covers P)
    (Holds : I → Type 0)
    (keeps : (old : I) (item : Option (Result E Error)) (new : I) → gives old item new → Holds old
    → Holds new)
    (tells : (old : I) (error : Error) (new : I) → gives old (Some (Err error)) new → Holds old
    → P (fault_of error)) where
  last-error : (taken : List (Result E Error)) (events : List PlainEvent) (fault : Fault)
      (iter left : I) → Holds iter → Yields gives iter taken left
      → map (item_by plain) taken ≡ map Ok events ++ Err fault ∷ [] → P fault
  last-error [] [] fault iter left holds yields is = absurd (cc is)
  last-error (Err error ∷ taken) [] fault iter left holds (mid, step, more) is =
      let same : fault_of error ≡ fault = cc is in
      subst P same (tells iter error mid step holds)
  last-error (Ok event ∷ taken) (first ∷ events) fault iter left holds (mid, step, more) is =
      last-error taken events fault mid left (keeps iter (Some (Ok event)) mid step holds) more
      (cc is)
  last-error taken events fault iter left holds yields is = absurd (cc is)

  fault-tells : (iter : I) (answer : Result Tree Fault) → Holds iter
      → Collects plain gives iter answer → IfErr answer P
  fault-tells iter (Ok tree) holds collects = tt
  fault-tells iter (Err fault) holds
      (after, (taken, left, yields, (events, unfinished, nested, alike, inl (is, stops)))) =
      last-error taken events fault iter left holds yields is
  fault-tells iter (Err fault) holds
      (after, (taken, left, yields, (events, unfinished, nested, alike, inr (inl (event, is, stops, why))))) =
      of-refusal P covers (refusal_at unfinished event) fault (refused-events unfinished event) why
  fault-tells iter (Err fault) holds
      (after, (taken, left, yields, (events, unfinished, nested, alike, inr (inr (is, ends, why, none))))) =
      subst P (sym why) (covers.events UnexpectedEndOfEventStream tt)

  pub error-tells : (iter : I) (answer : Result Value Error) → Holds iter
      → Collects plain gives iter (built_tree answer)
      → IfErr answer (λ error. P (fault_of error))
  error-tells iter (Ok value) holds collects = tt
  error-tells iter (Err error) holds collects = fault-tells iter (Err (fault_of error)) holds collects

-- an iterator that yields only such faults, whatever it has yielded
always-tells : {E I : Type 0} (plain : E → PlainEvent)
    (gives : I → Option (Result E Error) → I → Type 0) (P : Fault → Type 0) → Covers P
    → YieldsOnly gives P → FailsOnly plain gives P
always-tells plain gives P covers tells iter answer collects =
    error-tells plain gives P covers (λ _. ⊤) (λ old item new gives all. tt)
    (λ old error new gives all. tells old error new gives) iter answer tt collects

abbrev refused : Error → Option (Result Event Error)
refused error = Some (Err error)

-- a fault that is yielded under an allowance is one of its own, or one of the inner iterator
module _ {I A : Type 0} (lets : A → List Item → List Item) (may_reach : Fault → Type 0)
    (inner_gives : I → Option (Result Event Error) → I → Type 0) (P : Fault → Type 0)
    (reaches : (fault : Fault) → may_reach fault → P fault) (inner : YieldsOnly inner_gives P) where
  passed : YieldsOnly {I = LimitedItems I A} (GivesAllowed lets may_reach inner_gives) P
  passed old error new gives = by old.ended gives
    where
      following : (asked : Option (Result Event Error)) → inner_gives old.inner asked new.inner
          → PassesNext lets may_reach old.limiter asked (Some (Err error)) (new.limiter, new.ended)
          → P (fault_of error)
      following None gave is = absurd (cc is.0)
      following (Some (Ok event)) gave is = reaches (fault_of error) is.0.0
      following (Some (Err other)) gave is =
          let same : other ≡ error = cc is.0 in
          inner old.inner error new.inner
          (subst (λ e. inner_gives old.inner (Some (Err e)) new.inner) same gave)

      by : (ended : Bool) → MatchBool ended ((refused error ≡ None) × (new ≡ old))
          ((asked : Option (Result Event Error)) × inner_gives old.inner asked new.inner
          × PassesNext lets may_reach old.limiter asked (refused error) (new.limiter, new.ended))
          → P (fault_of error)
      by true is = absurd (cc is.0)
      by false (asked, gave, is) = following asked gave is

-- ---- the readers

-- the faults that a reading can have
covered : (limited : Bool) → Covers (IsReadingFault limited)
covered limited = record { events = λ kind is. inr (is, refl); memory = inl (inr refl) }

loosened : (limited : Bool) (fault : Fault) → IsReaderFault limited fault → IsReaderFault true fault
loosened true fault is = is
loosened false fault (inl is) = inl is
loosened false fault (inr is) = inr (by fault.kind fault.offset is)
  where
    by : (kind : FaultKind) (offset : Option ℕ)
        → MatchGiven kind (HasOffset offset) (offset ≡ None) (HasOffset offset)
        ((false ≡ true) × (offset ≡ None))
        → MatchGiven kind (HasOffset offset) (offset ≡ None) (HasOffset offset)
        ((true ≡ true) × (offset ≡ None))
    by (LimitReached limit) offset is = (refl, is.1)
    by kind offset is = is

-- a reader that yields only such faults, and what covers those of limits
pub record Reads {R : Type 0} (g : Ghosts R) (known : R → Option (List ℕ)) (failed : R → ℕ)
    (P : Fault → Type 0) : Type 0 where
  pub covers : Covers P
  pub limits : (limit : Limit) → P (fault_without_offset (LimitReached limit))
  pub yields : YieldsOnly {I = Reader R g} (Gives known failed) P

module _ {R : Type 0} {g : Ghosts R} {known : R → Option (List ℕ)} {failed : R → ℕ}
    {P : Fault → Type 0} (reads : Reads g known failed P) where
  limit-tells : YieldsOnly {I = LimitedItems (Reader R g) LimitCounter}
      (GivesLimited (Gives known failed)) P
  limit-tells =
      passed limited_by IsLimitReached (Gives known failed) P
      (λ fault reached. subst P (sym reached.1) (reads.limits reached.0)) reads.yields

  -- a reader under limits fails only with such a fault, or with that of a limit
  pub limited-tells : FailsOnly {I = LimitedItems (Reader R g) LimitCounter} event_of
      (GivesLimited (Gives known failed)) P
  limited-tells = always-tells event_of (GivesLimited (Gives known failed)) P reads.covers limit-tells

  -- a reader under limits and within a budget of bytes fails only with such a fault, too
  pub budgeted-tells
      : FailsOnly {I = LimitedItems (LimitedItems (Reader R g) LimitCounter) ByteBudget} event_of
      (GivesWithinBudget (GivesLimited (Gives known failed))) P
  budgeted-tells =
      always-tells event_of (GivesWithinBudget (GivesLimited (Gives known failed))) P reads.covers
      (passed within_budget IsBudgetUsedUp (GivesLimited (Gives known failed)) P
      (λ fault used. subst P (sym used) reads.covers.memory) limit-tells)

module _ {R : Type 0} {g : Ghosts R} (known : R → Option (List ℕ)) (failed : R → ℕ) where
  -- a reader without limits fails only with a fault that `IsReadingFault` allows
  pub reader-tells : (reader : Reader R g) (answer : Result Value Error)
      → is_limited_in reader.state ≡ false
      → Collects event_of (Gives known failed) reader (built_tree answer)
      → IfErr answer (λ error. IsReadingFault false (fault_of error))
  reader-tells reader answer none collects =
      error-tells event_of (Gives known failed) (IsReadingFault false) (covered false)
      (λ (r : Reader R g). is_limited_in r.state ≡ false)
      (λ old item new gives none. gives.inner.limits none)
      (λ old error new gives none.
      inl (subst (λ b. IsReaderFault b (fault_of error)) none gives.inner.faults))
      reader answer none collects

  pub reading : Reads g known failed (IsReadingFault true)
  reading = record {
    covers = covered true;
    limits = λ limit. inl (inr (refl, refl));
    yields = λ old error new gave.
        inl (loosened (is_limited_in old.state) (fault_of error) gave.inner.faults);
  }

-- ---- a source of which no read fails

abbrev NotIo : Fault → Type 0
NotIo fault = IsNotIo fault.kind

not-io : Covers NotIo
not-io = record { events = by; memory = tt }
  where
    by : (kind : FaultKind) → IsFaultOfEvents kind → IsNotIo kind
    by Io is = absurd is
    by kind is = tt

never-rises : (old new : ℕ) → old ≡ 0 → new ≡ 0 → Rises old new → ⊥
never-rises old new none still (inl rose) = omega arith
never-rises old new none still (inr full) = omega (arith, full.0)

never-io : (kind : FaultKind) (rose same other : Type 0) → (rose → ⊥)
    → MatchFault kind rose same other → IsNotIo kind
never-io kind rose same other never is =
    MatchFault-weaker kind never (λ _. tt) (λ _. tt) is

module _ {R : Type 0} (failed : R → ℕ) (never : NeverFails failed) where
  never-in : (old new : Option R) (error : Error) → (old ≡ None → ⊥)
      → HoldsSource failed old (Some (Err error)) new → NotIo (fault_of error)
  never-in None new error some holds = absurd (some refl)
  never-in (Some source) None error some holds = absurd holds
  never-in (Some source) (Some kept) error some holds =
      never-io _ _ _ _
      (never-rises (failed source) (failed kept) (never source) (never kept)) holds

module _ {R : Type 0} {g : Ghosts R} (known : R → Option (List ℕ)) (failed : R → ℕ)
    (never : NeverFails failed) where
  -- a state that yields an error has a source
  has-source : (old : State R g) (error : Error) (new : State R g)
      → StateGives known failed old (Some (Err error)) new → source_in old ≡ None → ⊥
  has-source state.Moved error new step e = cc (step.inner.inside.0)
  has-source old error new step e = cc e

  pub never-reading : Reads g known failed NotIo
  never-reading = record {
    covers = not-io;
    limits = λ limit. tt;
    yields = λ old error new step.
        never-in failed never (source_in old.state) (source_in new.state) error
        (has-source old.state error new.state step) step.failures;
  }

  pub reader-never : FailsOnly {I = Reader R g} event_of (Gives known failed) NotIo
  reader-never = always-tells event_of (Gives known failed) NotIo not-io never-reading.yields

-- ---- the reader of ASCII

covered-ascii : Covers IsAsciiReadingFault
covered-ascii =
    record { events = λ kind is. inr (inr (is, refl)); memory = inr (inl refl) }

has-offset : (offset : Option ℕ) (place : ℕ) → offset ≡ Some place → HasOffset offset
has-offset None place is = absurd (cc is)
has-offset (Some found) place is = tt

of-bytes : (kind : FaultKind) (offset : Option ℕ) (place : ℕ)
    → MatchFault kind ⊤ ⊤ (IsFaultOfBytes kind)
    → MatchFault kind (offset ≡ Some place) (offset ≡ None) (offset ≡ Some place)
    → IsAsciiReadingFault (record { kind = kind; offset = offset })
of-bytes Io offset place known at = inl (inr tt, has-offset offset place at)
of-bytes OutOfMemory offset place known at =
    inr (inl (ap (λ o. record { kind = OutOfMemory; offset = o }) at))
of-bytes kind offset place known at = inl (inl known, has-offset offset place at)

never-rises-if : (old new : Option ℕ) → old ≡ Some 0 → new ≡ Some 0 → RisesIfCounted old new → ⊥
never-rises-if None new none still rose = absurd (cc none)
never-rises-if (Some old) None none still rose = absurd (cc still)
never-rises-if (Some old) (Some new) none still rose =
    never-rises old new (cc none) (cc still) rose

module _ {R : Type 0} (known : R → Option (List ℕ)) (failed : R → Option ℕ) where
  -- a reader of ASCII fails only with a fault that `IsAsciiReadingFault` allows
  pub ascii-tells : FailsOnly {I = AsciiReader R} event_of (GivesAscii known failed)
      IsAsciiReadingFault
  ascii-tells =
      always-tells event_of (GivesAscii known failed) IsAsciiReadingFault covered-ascii
      (λ old error new gives.
      of-bytes (fault_of error).kind (fault_of error).offset (place_of new) gives.inner.kinds
      gives.inner.offset)

  pub ascii-never : NeverFailsReading failed
      → FailsOnly {I = AsciiReader R} event_of (GivesAscii known failed) NotIo
  ascii-never never =
      always-tells event_of (GivesAscii known failed) NotIo not-io
      (λ old error new gives. never-io _ _ _ _
      (never-rises-if (failed (device_of old)) (failed (device_of new)) (never (device_of old))
      (never (device_of new))) gives.failures)
