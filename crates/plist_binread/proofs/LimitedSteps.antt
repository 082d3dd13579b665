-- One step of a reader with limits that admit its event.
use Rattle.std.proofs.Common.{◌≡◌, ℕ, ◌^◌, inl, inr, Bool, true, false, List, [], ◌∷◌, Option, None, Some, Result, Ok, Err, IfSome, arith, refl, ap, subst, sym, rules, ◌∙◌}
use Rattle.std.specs.Prelude.{IfOk, MatchOption, OnErr}
use Rattle.std.proofs.lemmas.Option.{IfSome_then}
use Rattle.plist_base.specs.declared.source.Source.{Ghosts}
use Rattle.plist_base.specs.declared.limits.Limit.{Limit}
use Rattle.plist_base.specs.declared.limits.LimitCounter.{LimitCounter}
use Rattle.plist_base.specs.Events.{Item, PlainEvent}
use Rattle.plist_base.specs.Faults.{FaultKind, LimitReached, error_kind_of, fault_of, kind_of}
use Rattle.plist_base.specs.FirstItems.{GivesFirst, StopsIf}
use Rattle.plist_base.specs.Limits.{Admits, KeepsLimits, event_or_limit, limited_by}
use Rattle.plist_base.specs.Visits.{Flow, PlainItem, TakesTurn, item_with}
use Rattle.plist_binread.specs.BinaryReader.{HasEndedBinary, Steps, Walks, has_limits, is_new, remaining_now, unlimited_items}
use Rattle.plist_base.proofs.Refusals.{MatchFault-weaker}
use Rattle.plist_decode.specs.FaultOffsets.{ItemGivenWithin, MatchGiven}
use Rattle.plist_binread.proofs.ReaderLimits.{not_limit}
use Rattle.plist_binread.specs.Handovers.{HandsItem, TakesWithin}
use Rattle.plist_binread.specs.Remaining.{AllocatesFirst, AllocatesNext, SomeRemain, cached_count}
use Rattle.plist_decode.specs.StepFaults.{error_of, item_kept}
use Rattle.plist_decode.specs.declared.counter.DecodeCounter.{Ghosts as CounterGhosts}
use Rattle.plist_decode.specs.declared.step_fault.FaultDetails.{FaultDetails}
use Rattle.plist_decode.specs.declared.step_fault.StepFault.{StepFault}
use Rattle.plist_binread.specs.declared.reader.BinaryReader.{BinaryReader}
use Rattle.plist_binread.specs.declared.visitors.Within.{Within}

-- ---- the remaining items

reached_remain : (reached : Option Limit) (event : PlainEvent) (following : List Item)
    → SomeRemain (event_or_limit reached event following)
reached_remain None event following = omega arith
reached_remain (Some limit) event following = omega arith

-- if some items remain, some remain under limits
pub limits_remain : (limiter : LimitCounter) (items : List Item) → SomeRemain items
    → SomeRemain (limited_by limiter items)
limits_remain limiter [] h = h
limits_remain limiter (Ok event ∷ items) h = reached_remain _ _ _
limits_remain limiter (Err fault ∷ items) h = omega arith

-- whether the first item needs memory doesn't depend on the others
reached_wants : (reached : Option Limit) (event : PlainEvent) (items following : List Item)
    → AllocatesFirst (Ok event ∷ items) → AllocatesFirst (event_or_limit reached event following)
reached_wants None event items following h = search rules
reached_wants (Some limit) event items following h = tt

limits_want : (limiter : LimitCounter) (items : List Item) → AllocatesFirst items
    → AllocatesFirst (limited_by limiter items)
limits_want limiter [] h = h
limits_want limiter (Ok event ∷ items) h = reached_wants _ event items _ h
limits_want limiter (Err fault ∷ items) h = h

memory_within : (limiter : LimitCounter) (new : Bool) (items : List Item)
    → AllocatesNext new items → AllocatesNext new (limited_by limiter items)
memory_within limiter true items h = limits_remain limiter items h
memory_within limiter false items h = limits_want limiter items h

-- if the item is an event, the limits admit it
abbrev AdmitsItem : LimitCounter → PlainItem → LimitCounter → Type 0
AdmitsItem limits item next =
    IfSome item (λ answer. IfOk answer (λ event. Admits limits event next))

-- what a reader yields, with limits or without
abbrev Gives : (new : Bool) → List Item → PlainItem → List Item → Type 0
Gives new = GivesFirst (λ event. event) (StopsIf SomeRemain) (StopsIf (AllocatesNext new))

first_within : (limits next : LimitCounter) (new : Bool) (before after : List Item) (item : PlainItem)
    → AdmitsItem limits item next → IfSome item (λ answer. OnErr answer (after ≡ []))
    → Gives new before item after → Gives new (limited_by limits before) item (limited_by next after)
first_within limits next new before after None admits over (none, left) =
    rw (none, left) (refl, refl)
first_within limits next new before after (Some (Ok event)) admits over is =
    ap (limited_by limits) is ∙ admits after
first_within limits next new before after (Some (Err error)) admits over is =
    rw over (MatchFault-weaker (kind_of (error_kind_of error))
    (λ some. (limits_remain limits before some.0, refl))
    (λ some. (memory_within limits new before some.0, refl)) (λ is. ap (limited_by limits) is)
    (rw over at is))

-- ---- the errors

given_within : (limited : Bool) (item : PlainItem) (start end : ℕ)
    → ItemGivenWithin start end false item → ItemGivenWithin start end limited item
given_within limited None start end h = tt
given_within limited (Some (Ok event)) start end h = tt
given_within limited (Some (Err error)) start end h =
    record { placed = by (kind_of (error_kind_of error)) _ _ _ _ h.placed }
  where
    by : (kind : FaultKind) (A B C D : Type 0) → MatchGiven kind A B C ((false ≡ true) × D)
        → MatchGiven kind A B C ((limited ≡ true) × D)
    by (LimitReached limit) A B C D p = absurd (cc p.0)
    by kind A B C D p = p

-- what the limits admit, they admit of the walk's items
admitted_within : (limits next : LimitCounter) (item : PlainItem) (start end : ℕ)
    → AdmitsItem limits item next → ItemGivenWithin start end false item
    → KeepsLimits (λ event. event) (limited_by limits) item (limited_by next)
admitted_within limits next None start end admits h = tt
admitted_within limits next (Some (Ok event)) start end admits h = admits
admitted_within limits next (Some (Err error)) start end admits h =
    not_limit start end (fault_of error) _ h

-- ---- the whole step

-- after an error no item remains
none_left : {R C : Type 0} {g : Ghosts R} {h : CounterGhosts C} (bytes : List ℕ)
    (new : BinaryReader R C g h) (item : PlainItem)
    → MatchOption item (HasEndedBinary new) (λ answer. OnErr answer (HasEndedBinary new))
    → IfSome item (λ answer. OnErr answer (unlimited_items bytes new ≡ []))
none_left bytes new None ends = tt
none_left bytes new (Some (Ok event)) ends = tt
none_left bytes new (Some (Err error)) ends =
    ap (λ state. remaining_now bytes state new.decoder.bounds new.walk.frames) ends

module _ {R C : Type 0} {g : Ghosts R} {h : CounterGhosts C} (old mid new : BinaryReader R C g h)
    (limits next : LimitCounter) (was : old.limiter ≡ Some limits) (now : new.limiter ≡ Some next)
    (source : new.source ≡ mid.source) (state : new.state ≡ mid.state)
    (decoder : new.decoder ≡ mid.decoder) (walk : new.walk ≡ mid.walk) where
  steps_within : (item : PlainItem) → AdmitsItem limits item next → Walks old item mid
      → Steps old item new
  steps_within item admits walks =
      let w = walks.gives in
      record {
        gives = record {
          unchanged = rw source w.unchanged;
          items = rw (was, now, state, decoder, walk) (IfSome_then (g.known old.source) w.items
              (λ bytes. first_within limits next (is_new old) (unlimited_items bytes old)
              (unlimited_items bytes mid) item admits (none_left bytes mid item w.ends)));
          admitted = rw (was, now) (admitted_within limits next item 0 (2 ^ 64) admits w.faults);
          failures = rw source w.failures;
          ended = w.ended;
          unasked = λ e. source ∙ w.unasked e;
          ends = rw state w.ends;
          begun = rw state w.begun;
          faults = given_within (has_limits old) item 0 (2 ^ 64) w.faults;
          head = rw (state, decoder, walk) w.head;
          cached = rw walk w.cached;
          leaves = record {
            nested = rw walk w.leaves.nested;
            marked = rw walk w.leaves.marked;
            counted = λ counts. ap (λ d. h.count d.counter) decoder ∙ w.leaves.counted counts
                ∙ ap (λ v. cached_count v.tags.items) (sym walk);
            lists = rw walk w.leaves.lists;
          };
          objects = rw walk w.objects;
          kept = (rw (was, now) refl, rw walk w.kept.1);
        };
        falls = rw (state, walk) walks.falls;
      }

  -- the visitor takes what the walk yields, if it takes it within the limits
  pub turns_within : {V : Type 0} (step : V → PlainEvent → Flow → V → Type 0)
      (before after : Within V) (visitor visited : V) (details : FaultDetails)
      (item : Option (Result Flow StepFault)) → before.limiter.now ≡ limits
      → after.limiter.now ≡ next → after.reached.now ≡ Ok tt → before.visitor.now ≡ visitor
      → visited ≡ after.visitor.now → HandsItem (TakesWithin step) before after item
      (λ event. Walks old (item_with (item_kept item details) event) mid)
      → TakesTurn Steps step (old, visitor) (item_kept item details) (new, visited)
  turns_within step before after visitor visited details None first last unreached from to hands =
      (steps_within None tt hands.is, to ∙ ap (λ w. w.visitor.now) hands.taken ∙ from)
  turns_within step before after visitor visited details (Some (Err fault)) first last unreached
      from to hands = (
        steps_within (Some (Err (error_of fault details))) tt hands.is,
        to ∙ ap (λ w. w.visitor.now) hands.taken ∙ from,
      )
  turns_within step before after visitor visited details (Some (Ok flow)) first last unreached from to
      hands = elim hands.taken.takes [
        | inl admitted ↦ (
          hands.event,
          record {
            given = steps_within (Some (Ok hands.event))
                (subst (λ l. Admits l hands.event next) first
                (subst (λ n. Admits before.limiter.now hands.event n) last admitted.admitted)) hands.is;
            taken = rw (sym from, to) admitted.taken;
          },
        )
        | inr limit ↦ absurd (cc (limit.reached, unreached))
      ]
