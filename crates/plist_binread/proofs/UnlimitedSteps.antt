-- One step of a reader, without regard to limits.
use Rattle.std.proofs.Common.{◌≡◌, ℕ, ◌^◌, ◌<◌, true, false, List, Option, None, Some, Result, Ok, Err, IfSome, inl, refl, ap, sym, arith}
use Rattle.std.specs.Option.{is_some}
use Rattle.std.specs.Prelude.{OnOk}
use Rattle.plist_base.specs.declared.error.Error.{Error}
use Rattle.plist_base.specs.declared.source.Source.{Ghosts}
use Rattle.plist_base.specs.Faults.{error_kind_of, kind_of}
use Rattle.plist_base.specs.Unfolding.{items_of_file, until_fault}
use Rattle.plist_decode.specs.declared.counter.DecodeCounter.{Ghosts as CounterGhosts}
use Rattle.plist_binread.specs.declared.reader.BinaryReader.{BinaryReader}
use Rattle.plist_binread.specs.declared.reader.WalkState.{WalkState}
use Rattle.plist_binread.specs.declared.reader.WalkState.TheVariants.{Ended, Fresh, Walking}
use Rattle.plist_binread.specs.Walking.{IsBounded, IsCachedIfSmall, IsKnownWalk, cached_in, open_in, remaining_in, walk_objects, weight_in}
use Rattle.plist_binread.specs.BinaryReader.{Walks}
use Rattle.plist_binread.specs.Remaining.{CountsObjects, entries_of, is_fresh, is_walking, next_number, objects_in_head, state_after, walk_steps}
use Rattle.plist_decode.specs.FaultOffsets.{ErrWithin, ItemGivenWithin}
use Rattle.plist_binread.specs.Step.{LightensNext, YieldsNext, YieldsRoot}
use Rattle.plist_base.specs.Events.{PlainEvent}
use Rattle.plist_base.specs.Visits.{Flow, item_with}
use Rattle.plist_decode.specs.declared.step_fault.StepFault.{StepFault}
use Rattle.plist_base.specs.Sources.{CountsIo}
use Rattle.plist_decode.specs.StepFaults.{error_of, item_kept, result_with}
use Rattle.plist_base.proofs.Refusals.{MatchFault-all}
use Rattle.plist_decode.proofs.FaultOffsets.{from_within}
use Rattle.plist_decode.proofs.UnknownBytes.{IfSome-all, IfSome-never}
use Rattle.plist_binread.proofs.ReaderLimits.{not_limit}
use Rattle.plist_binread.proofs.WalkSteps.{steps_up}
use Rattle.plist_binread.proofs.ReaderCalls.{holds_head, left_behind, yields_error}
use Rattle.std.proofs.lemmas.Option.{IfSome_then}

-- ---- the state

-- after a step, the reader isn't fresh
pub not_fresh : {E : Type 0} (item : Option (Result Flow E)) (after : WalkState)
    → after ≡ state_after item → is_fresh after ≡ true → ⊥
not_fresh None after is fresh = let no = ap is_fresh is in absurd (cc)
not_fresh (Some (Ok value)) after is fresh = let no = ap is_fresh is in absurd (cc)
not_fresh (Some (Err error)) after is fresh = let no = ap is_fresh is in absurd (cc)

-- the state of a new reader
pub new_state : (state : WalkState) → is_fresh state ≡ true → state ≡ Fresh
new_state Fresh new = refl
new_state Walking new = absurd (cc)
new_state Ended new = absurd (cc)

-- the reader is walking only after an event
pub walks_on_ok : {E : Type 0} (answer : Result Flow E) (after : WalkState) (P : Type 0)
    → after ≡ state_after (Some answer) → OnOk answer P → is_walking after ≡ true → P
walks_on_ok (Ok value) after P is known walking = known
walks_on_ok (Err error) after P is known walking = let no = ap is_walking is in absurd (cc)

-- ---- the number of objects

-- the number of objects is also correct after an error
pub tells_fault : (known : Option (List ℕ)) (error : Error) (count : ℕ)
    → IfSome known (λ bytes. count ≡ objects_in_head bytes)
    → IfSome known (λ bytes. CountsObjects {A = PlainEvent} bytes (Err error) count)
tells_fault known error count same = IfSome_then known same (λ bytes same.
    MatchFault-all (kind_of (error_kind_of error)) (inl same) (inl same) same)

-- ---- the whole step

module _ {R C : Type 0} {g : Ghosts R} {h : CounterGhosts C} (old new : BinaryReader R C g h)
    (same : g.known new.source ≡ g.known old.source)
    (counted : h.counts → h.count new.decoder.counter ≡ cached_in new.walk)
    (limiter : new.limiter ≡ old.limiter) where
  pub first_walks : (noted : Result Flow StepFault) (event : PlainEvent) → old.state ≡ Fresh
      → new.state ≡ state_after (Some noted)
      → YieldsRoot (g.known old.source) new.decoder.bounds (result_with noted new.decoder.details) event new.walk
      → ErrWithin 0 (2 ^ 64) (result_with noted new.decoder.details)
      → IfSome (g.known old.source) (IsBounded new.walk)
      → IfSome (g.known old.source)
      (λ bytes. CountsObjects bytes (result_with noted new.decoder.details) (walk_objects new.walk))
      → OnOk noted (IsKnownWalk (g.known old.source) new.decoder.bounds new.walk)
      → OnOk noted (weight_in new.walk < walk_steps (walk_objects new.walk))
      → CountsIo (Some (result_with noted new.decoder.details)) (g.failures old.source)
      (g.failures new.source)
      → Walks old (item_with (item_kept (Some noted) new.decoder.details) event) new
  first_walks (Ok value) event fresh is yields within bounded objects held falls failures = record {
    gives = record {
      unchanged = same;
      items = simp (fresh, is) (IfSome_then (g.known old.source) yields.first (λ bytes first. first));
      admitted = λ items. refl;
      failures = failures;
      ended = λ e. absurd (cc);
      unasked = λ e. absurd (cc);
      ends = tt;
      begun = ap is_fresh is;
      faults = tt;
      head = holds_head (g.known old.source) new.decoder.bounds new.walk (is_walking new.state ≡ true) held;
      cached = simp fresh yields.cached;
      leaves = left_behind old new counted bounded;
      objects = objects;
      kept = (ap is_some limiter, λ begun. absurd (cc (ap is_fresh fresh)));
    };
    falls =
        let up = steps_up (walk_objects new.walk) (2 ^ 64)
        (omega (arith, new.walk.tags.ok, new.walk.tags.small)) in
        simp (fresh, is) (omega (arith, falls, up));
  }
  first_walks (Err r) event fresh is yields within bounded objects held falls failures = record {
    gives = record {
      unchanged = same;
      items = simp (fresh, is) (IfSome_then (g.known old.source) yields.first
          (λ bytes. yields_error (λ event. event) true (items_of_file bytes) (error_of r new.decoder.details)));
      admitted = not_limit _ _ _ _ within;
      failures = failures;
      ended = λ e. absurd (cc);
      unasked = λ e. absurd (cc);
      ends = is;
      begun = ap is_fresh is;
      faults = within;
      head = IfSome-never (g.known old.source) _ (λ w. absurd (cc));
      cached = IfSome-all (g.known old.source) (λ bytes. tt);
      leaves = left_behind old new counted bounded;
      objects = objects;
      kept = (ap is_some limiter, λ begun. absurd (cc (ap is_fresh fresh)));
    };
    falls = simp (fresh, is) (omega arith);
  }

  pub item_walks : (noted : Option (Result Flow StepFault)) (event : PlainEvent) → old.state ≡ Walking
      → new.state ≡ state_after noted
      → IfSome (g.known old.source) (λ bytes. YieldsNext (remaining_in bytes old.decoder.bounds old.walk)
      (item_kept noted new.decoder.details) event (remaining_in bytes new.decoder.bounds new.walk))
      → ItemGivenWithin 0 old.decoder.bounds.trailer false (item_kept noted new.decoder.details)
      → walk_objects new.walk ≡ walk_objects old.walk
      → IfSome (g.known old.source) (IsBounded old.walk)
      → IsKnownWalk (g.known old.source) new.decoder.bounds new.walk
      → IfSome (g.known old.source) (λ bytes. IsCachedIfSmall (λ _. event) (next_number
      (entries_of bytes old.decoder.bounds) (open_in old.walk)) (item_kept noted new.decoder.details)
      new.walk.tags.items)
      → LightensNext old.walk noted new.walk
      → CountsIo (item_kept noted new.decoder.details) (g.failures old.source) (g.failures new.source)
      → Walks old (item_with (item_kept noted new.decoder.details) event) new
  item_walks None event walking is yields within size bounded held kept falls failures = record {
    gives = record {
      unchanged = same;
      items = simp (walking, is) (IfSome_then (g.known old.source) yields
          (λ bytes nothing. (ap until_fault nothing.0, refl)));
      admitted = tt;
      failures = failures;
      ended = λ e. refl;
      unasked = λ e. absurd (cc);
      ends = is;
      begun = ap is_fresh is;
      faults = tt;
      head = holds_head (g.known old.source) new.decoder.bounds new.walk (is_walking new.state ≡ true) held;
      cached = IfSome-all (g.known old.source) (λ bytes. tt);
      leaves = left_behind old new counted (rw (size, IsBounded) bounded);
      objects = IfSome-all (g.known old.source) (λ bytes. tt);
      kept = (ap is_some limiter, λ _. size);
    };
    falls = tt;
  }
  item_walks (Some (Ok x)) event walking is yields within size bounded held kept falls failures = record {
    gives = record {
      unchanged = same;
      items = simp (walking, is) (IfSome_then (g.known old.source) yields (λ bytes next. next));
      admitted = λ items. refl;
      failures = failures;
      ended = λ e. absurd (cc);
      unasked = λ e. absurd (cc);
      ends = tt;
      begun = ap is_fresh is;
      faults = tt;
      head = holds_head (g.known old.source) new.decoder.bounds new.walk (is_walking new.state ≡ true) held;
      cached = simp walking kept;
      leaves = left_behind old new counted (rw (size, IsBounded) bounded);
      objects = IfSome_then (g.known old.source) held (λ bytes held. sym held.size);
      kept = (ap is_some limiter, λ _. size);
    };
    falls = simp (walking, is, size) falls.1;
  }
  item_walks (Some (Err r)) event walking is yields within size bounded held kept falls failures = record {
    gives = record {
      unchanged = same;
      items = simp (walking, is) (IfSome_then (g.known old.source) yields
          (λ bytes. yields_error (λ event. event) false
          (until_fault (remaining_in bytes old.decoder.bounds old.walk)) (error_of r new.decoder.details)));
      admitted = not_limit _ _ _ _ within;
      failures = failures;
      ended = λ e. absurd (cc);
      unasked = λ e. absurd (cc);
      ends = is;
      begun = ap is_fresh is;
      faults = from_within _ 0 old.decoder.bounds.trailer 0 (2 ^ 64) within (omega arith)
          (omega (arith, old.decoder.bounds.small));
      head = holds_head (g.known old.source) new.decoder.bounds new.walk (is_walking new.state ≡ true) held;
      cached = IfSome-all (g.known old.source) (λ bytes. tt);
      leaves = left_behind old new counted (rw (size, IsBounded) bounded);
      objects = tells_fault (g.known old.source) (error_of r new.decoder.details) (walk_objects new.walk)
          (IfSome_then (g.known old.source) held (λ bytes held. sym held.size));
      kept = (ap is_some limiter, λ _. size);
    };
    falls = simp (walking, is) falls.0;
  }
