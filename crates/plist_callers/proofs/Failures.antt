-- Reading the value of a slice never fails because of a failed read.
use Rattle.std.proofs.Common.{◌≡◌, ℕ, inl, inr, List, [], ◌∷◌, ◌++◌, Option, Some, None, Result, Ok, Err, IfSome, map, refl, sym, subst, arith, ap}
use Rattle.std.specs.Iterator.{Yields}
use Rattle.plist_base.specs.declared.error.Error.{Error}
use Rattle.plist_base.specs.declared.event.Event.{Event}
use Rattle.plist_base.specs.declared.source.Source.{Ghosts}
use Rattle.plist_buffer.specs.declared.expects.Transition.{Transition}
use Rattle.plist_buffer.specs.declared.expects.Transition.TheVariants.{Refused}
use Rattle.plist_buffer.specs.declared.expects.Expect.TheVariants.{OneValue}
use Rattle.plist_base.specs.Events.{PlainEvent, event_of}
use Rattle.plist_buffer.specs.Expects.{transition_of}
use Rattle.plist_base.specs.Faults.{FaultKind, Fault, IsNotIo, MatchFault, error_kind_of, fault_of, kind_of}
use Rattle.plist_base.specs.Sources.{Rises}
use Rattle.plist_base.proofs.Refusals.{MatchFault-weaker}
use Rattle.plist_reader.specs.declared.reader.Reader.{Reader}
use Rattle.plist_reader.specs.declared.reader.State.{State}
use Rattle.plist_reader.specs.declared.reader.State.TheVariants as state
use Rattle.plist_reader.specs.Reader.{Gives, StateGives, source_in}
use Rattle.plist_reader.proofs.ReaderItems.{HoldsSource}
use Rattle.plist.specs.Building.{Unfinished, NotBegun, Within, Complete, expected_within, if_refused, refusal_at}
use Rattle.plist.specs.Collecting.{Collects, IsRefusal, item_by}

-- ---- an event that can't come next

if-refused : (change : Transition) (kind : FaultKind) → IsNotIo kind
    → IfSome (if_refused change kind) IsNotIo
if-refused Refused kind h = h
if-refused change kind h = tt

refused-event : (held : Unfinished) (event : PlainEvent) → IfSome (refusal_at held event) IsNotIo
refused-event NotBegun event = if-refused (transition_of OneValue event) _ tt
refused-event (Within collection outer) event =
    if-refused (transition_of (expected_within collection) event) _ tt
refused-event (Complete tree) event = tt

of-refusal : (refusal : Option FaultKind) (fault : Fault) → IfSome refusal IsNotIo
    → IsRefusal refusal fault → IsNotIo fault.kind
of-refusal None fault events is =
    subst IsNotIo (sym (ap (λ (f : Fault). f.kind) is)) tt
of-refusal (Some kind) fault events is =
    subst IsNotIo (sym (ap (λ (f : Fault). f.kind) is)) events

-- ---- an item that is an error

module _ {I : Type 0} (gives : I → Option (Result Event Error) → I → Type 0)
    (never : (old : I) (error : Error) (new : I) → gives old (Some (Err error)) new
    → IsNotIo (kind_of (error_kind_of error))) where
  last-error : (taken : List (Result Event Error)) (events : List PlainEvent) (fault : Fault)
      (iter left : I) → Yields gives iter taken left
      → map (item_by event_of) taken ≡ map Ok events ++ Err fault ∷ [] → IsNotIo fault.kind
  last-error [] [] fault iter left yields is = absurd (cc is)
  last-error [] (event ∷ events) fault iter left yields is = absurd (cc is)
  last-error (Ok event ∷ taken) [] fault iter left yields is = absurd (cc is)
  last-error (Err error ∷ taken) [] fault iter left (mid, step, more) is =
      let same : fault_of error ≡ fault = cc is in
      subst (λ (f : Fault). IsNotIo f.kind) same (never iter error mid step)
  last-error (Err error ∷ taken) (event ∷ events) fault iter left yields is = absurd (cc is)
  last-error (Ok event ∷ taken) (first ∷ events) fault iter left (mid, step, more) is =
      last-error taken events fault mid left more (cc is)

  never-collects : (iter : I) (fault : Fault) → Collects event_of gives iter (Err fault)
      → IsNotIo fault.kind
  never-collects iter fault
      (after, (taken, left, yields, (events, held, nested, alike, inl (is, stops)))) =
      last-error taken events fault iter left yields is
  never-collects iter fault
      (after, (taken, left, yields, (events, held, nested, alike, inr (inl (event, is, stops, why))))) =
      of-refusal (refusal_at held event) fault (refused-event held event) why
  never-collects iter fault
      (after, (taken, left, yields, (events, held, nested, alike, inr (inr (is, ends, why, none))))) =
      subst IsNotIo (sym (ap (λ (f : Fault). f.kind) why)) tt

-- ---- a source of which no read fails

never-rises : Rises 0 0 → ⊥
never-rises (inl rose) = omega arith
never-rises (inr full) = omega (arith, full.0)

never-io : (kind : FaultKind) (same : Type 0) → MatchFault kind (Rises 0 0) same same
    → IsNotIo kind
never-io kind same rises = MatchFault-weaker kind never-rises (λ _. tt) (λ _. tt) rises

module _ {R : Type 0} where
  never-in : (old new : Option R) (error : Error) → (old ≡ None → ⊥)
      → HoldsSource (λ _. 0) old (Some (Err error)) new → IsNotIo (kind_of (error_kind_of error))
  never-in None new error some holds = absurd (some refl)
  never-in (Some source) None error some holds = absurd holds
  never-in (Some source) (Some kept) error some holds = never-io _ _ holds

module _ {R : Type 0} {g : Ghosts R} (known : R → Option (List ℕ)) where
  -- a state that yields an error has a source
  has-source : (old : State R g) (error : Error) (new : State R g)
      → StateGives known (λ _. 0) old (Some (Err error)) new → source_in old ≡ None → ⊥
  has-source (state.Unread source limits dialect) error new step e = cc e
  has-source (state.Binary reader) error new step e = cc e
  has-source (state.Ascii reader) error new step e = cc e
  has-source (state.Limited reader) error new step e = cc e
  has-source (state.Refused source) error new step e = cc e
  has-source state.Moved error new step e = cc (step.inner.inside.0)

  never-gives : (old : Reader R g) (error : Error) (new : Reader R g)
      → Gives known (λ _. 0) old (Some (Err error)) new → IsNotIo (kind_of (error_kind_of error))
  never-gives old error new step =
      never-in (source_in old.state) (source_in new.state) error
      (has-source old.state error new.state step) step.failures

  -- so reading the value of such a source doesn't fail with `Io`
  pub never-collects-io : (reader : Reader R g) (fault : Fault)
      → Collects event_of (Gives known (λ _. 0)) reader (Err fault) → IsNotIo fault.kind
  never-collects-io reader fault collects =
      never-collects (Gives known (λ _. 0)) never-gives reader fault collects
