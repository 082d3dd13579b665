-- How limits change the result of one call.
use Rattle.std.proofs.Common.{◌≡◌, ℕ, Bool, true, false, List, [], ◌∷◌, Option, None, Some, Ok, Err, IfSome, ap, refl}
use Rattle.std.specs.Option.{is_some}
use Rattle.plist_base.specs.declared.error.Error.{Error}
use Rattle.plist_base.specs.declared.limits.Limit.{Limit}
use Rattle.plist_base.specs.declared.limits.LimitCounter.{LimitCounter}
use Rattle.plist_base.specs.Events.{PlainEvent, Item}
use Rattle.plist_base.specs.Faults.{Fault, FaultKind, LimitReached, MatchFault, error_kind_of, fault_of, fault_without_offset, kind_of}
use Rattle.plist_base.specs.Limits.{IfLimitReached, IsLimitReached, KeepsLimits, RefusesAny, limited_by_any}
use Rattle.plist_base.proofs.Refusals.{MatchFault-at}
use Rattle.plist_base.specs.FirstItems.{GivesFirst, StopsIf}
use Rattle.plist_binread.specs.Remaining.{AllocatesNext, SomeRemain}
use Rattle.plist_decode.specs.FaultOffsets.{IsGivenWithin, MatchGiven}
use Rattle.std.proofs.lemmas.Option.{IfSome_then}

-- ---- the error of a limit

-- if limits reject an event, there is a limiter, and the limit's error is the only item that
-- remains
by-limit : (limiter : Option LimitCounter) (event : PlainEvent) (fault : Fault)
    → RefusesAny limiter event fault → (is_some limiter ≡ true) × (limit : Limit)
    × (fault ≡ fault_without_offset (LimitReached limit))
    × ((items : List Item) → limited_by_any limiter (Ok event ∷ items) ≡ Err fault ∷ [])
by-limit None event fault r = absurd r
by-limit (Some limiter) event fault r = (refl, r.0.0, r.0.1, r.1)

pub refused-other : (limiter : Option LimitCounter) (event : PlainEvent) (fault : Fault) (X Y Z : Type 0)
    → RefusesAny limiter event fault → Z → MatchFault fault.kind X Y Z
refused-other limiter event fault X Y Z r z =
    let by = by-limit limiter event fault r in rw by.2 z

-- without limits, no error is that of a limit
pub not_limit : (start end : ℕ) (fault : Fault) (P : Type 0) → IsGivenWithin start end false fault
    → IfLimitReached fault.kind P
not_limit start end fault P h = by fault.kind _ _ _ _ h.placed
  where
    by : (kind : FaultKind) (A B C D : Type 0) → MatchGiven kind A B C ((false ≡ true) × D)
        → IfLimitReached kind P
    by (LimitReached limit) A B C D p = absurd (cc p.0)
    by kind A B C D p = tt

pub refused-given : (start end : ℕ) (limiter : Option LimitCounter) (event : PlainEvent) (fault : Fault)
    → RefusesAny limiter event fault → IsGivenWithin start end (is_some limiter) fault
refused-given start end limiter event fault r =
    let by = by-limit limiter event fault r in rw by.2 (record { placed = (by.0, refl) })

pub is_limit : (fault : Fault) (P : Type 0) → IsLimitReached fault → P
    → IfLimitReached fault.kind P
is_limit fault P (limit, is) p = rw is p

-- in place of an event, the error of a limit is yielded
pub refused-keeps : (limiter now : Option LimitCounter) (event : PlainEvent) (error : Error)
    → RefusesAny limiter event (fault_of error)
    → KeepsLimits {E = PlainEvent} (λ event. event) (limited_by_any limiter) (Some (Err error))
    (limited_by_any now)
refused-keeps limiter now event error r =
    let by = by-limit limiter event (fault_of error) r in
    is_limit (fault_of error) _ (by.1, by.2) (event, ((by.1, by.2), by.3))

pub none-under : (limiter : Option LimitCounter) → limited_by_any limiter [] ≡ []
none-under None = refl
none-under (Some limiter) = refl

-- an event that a call yields without limits is replaced by the error of a limit
pub limit-current : (new : Bool) (current : PlainEvent) (known : Option (List ℕ))
    (old now : Option LimitCounter) (before after : List ℕ → List Item) (error : Error)
    → RefusesAny old current (fault_of error)
    → IfSome known (λ bytes. before bytes ≡ Ok current ∷ after bytes)
    → IfSome known (λ bytes. GivesFirst {E = PlainEvent} (λ event. event) (StopsIf SomeRemain)
    (StopsIf (AllocatesNext new)) (limited_by_any old (before bytes)) (Some (Err error))
    (limited_by_any now []))
limit-current new current known old now before after error r h = IfSome_then known h (λ bytes h.
    let by = by-limit old current (fault_of error) r in
    MatchFault-at (kind_of (error_kind_of error)) (LimitReached by.1) _ _ _
    (ap (λ (f : Fault). f.kind) by.2) (cc (h, by.3 (after bytes), none-under now)))
