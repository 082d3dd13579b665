-- What is true of a reader after each call.
use Rattle.std.proofs.Common.{◌≡◌, ℕ, ◌≤◌, arith, Bool, false, List, [], ◌∷◌, length, Option, None, Some, Result, Err, IfSome, MatchOption, refl, sym, Ok, rules, subst}
use Rattle.std.proofs.lemmas.List.{length-reverse}
use Rattle.plist_base.specs.declared.source.Source.{Ghosts}
use Rattle.plist_base.specs.declared.error.Error.{Error}
use Rattle.plist_base.specs.declared.event.Event.{Event}
use Rattle.plist_base.specs.Events.{Item, PlainEvent, event_of}
use Rattle.plist_base.specs.Faults.{MatchFault, error_kind_of, fault_of, kind_of}
use Rattle.plist_base.specs.FirstItems.{GivesFirst, StopsIf}
use Rattle.plist_base.specs.Visits.{Flow, PlainItem}
use Rattle.plist_binread.specs.Handovers.{KeepsEvent}
use Rattle.plist_binread.specs.declared.visitors.FirstEvent.{FirstEvent}
use Rattle.plist_base.proofs.FirstItems.{first_of_known}
use Rattle.plist_base.proofs.Refusals.{MatchFault-weaker}
use Rattle.plist_base.proofs.VisitedItems.{Comes, comes_first}
use Rattle.plist_binread.specs.declared.frames.Frame.{Frame}
use Rattle.plist_decode.specs.declared.counter.DecodeCounter.{Ghosts as CounterGhosts}
use Rattle.plist_binread.specs.declared.reader.BinaryReader.{BinaryReader}
use Rattle.plist_decode.specs.declared.head.Bounds.{Bounds}
use Rattle.plist_binread.specs.declared.walk.Walk.{Walk}
use Rattle.plist_base.specs.Container.{head_of}
use Rattle.plist_binread.specs.Walking.{IsBounded, IsKnownWalk, cached_in, walk_objects}
use Rattle.plist_binread.specs.BinaryReader.{GivesBinary, GivesBinaryBy, KeepsInvariant, Steps, admitted_by, binary_source, file_items, has_limits, is_new, items_to_come}
use Rattle.plist_binread.specs.Remaining.{AllocatesNext, AreBoundsOf, SomeRemain, objects_in_head}
use Rattle.plist_binread.proofs.OpenObjects.{IsOpen-length}
use Rattle.plist_decode.proofs.UnknownBytes.{IfSome-all}
use Rattle.std.proofs.lemmas.Option.{IfSome_then}

-- a walk over a file has the bounds and the number of objects of the file's head
pub holds_head : (known : Option (List ℕ)) (bounds : Bounds) (walk : Walk) (walking : Type 0)
    → IsKnownWalk known bounds walk → IfSome known (λ bytes. walking
    → AreBoundsOf (head_of bytes) bounds × (walk_objects walk ≡ objects_in_head bytes))
holds_head known bounds walk walking k =
    IfSome_then known k (λ bytes k w. (k.head, sym k.size))

-- if the bytes are known, no list is longer than the number of objects in the file; otherwise none
-- is longer than the number of objects in the reader
lists_within : (known : Option (List ℕ)) (tags contents : List ℕ) (fs : List Frame)
    → length fs ≤ length tags → length contents ≡ length tags
    → IfSome known (λ bytes. length tags ≤ objects_in_head bytes)
    → MatchOption known (length fs ≤ length tags) (λ bytes. length fs ≤ objects_in_head bytes)
    × IfSome known (λ bytes. (length tags ≤ objects_in_head bytes)
    × (length contents ≤ objects_in_head bytes) × (length fs ≤ objects_in_head bytes))
lists_within None tags contents fs few same bounded = (few, tt)
lists_within (Some bytes) tags contents fs few same bounded =
    (omega arith, (bounded, omega arith, omega arith))

pub left_behind : {R C : Type 0} {g : Ghosts R} {h : CounterGhosts C} (old new : BinaryReader R C g h)
    → (h.counts → h.count new.decoder.counter ≡ cached_in new.walk)
    → IfSome (g.known old.source) (IsBounded new.walk) → KeepsInvariant old new
left_behind {g = g} old new counted bounded =
    let walk = new.walk in
    let few : length walk.frames ≤ walk_objects walk =
    rw (← length-reverse walk.frames) (IsOpen-length _ _ walk.path) in
    let within = lists_within (g.known old.source) walk.tags.items walk.contents.items walk.frames few
    walk.same bounded in
    record { nested = within.0; marked = walk.path; counted = counted; lists = within.1 }

-- an error in place of the first item is yielded, and no item remains
pub yields_error : {A : Type 0} (shown : A → PlainEvent) (new : Bool) (before : List Item)
    (error : Error) → MatchFault (kind_of (error_kind_of error)) (SomeRemain before)
    (AllocatesNext new before) (before ≡ Err (fault_of error) ∷ [])
    → GivesFirst shown (StopsIf SomeRemain) (StopsIf (AllocatesNext new)) before
    (Some (Err error)) []
yields_error shown new before error h =
    MatchFault-weaker (kind_of (error_kind_of error)) (λ some. (some, refl)) (λ some. (some, refl))
    (λ only. only) h

-- a reader that has ended yields nothing
pub nothing_ended : (known : Option (List ℕ)) → IfSome known (λ bytes.
    GivesFirst {E = PlainEvent} (λ event. event) (StopsIf SomeRemain)
    (StopsIf (AllocatesNext false)) [] None [])
nothing_ended known = IfSome-all known (λ bytes. (refl, refl))

-- one step yields the first of the remaining items
pub file_comes : {R C : Type 0} {g : Ghosts R} {h : CounterGhosts C}
    (old : BinaryReader R C g h) (item : PlainItem) (new : BinaryReader R C g h)
    → Steps old item new → Comes (file_items g.known old) item (file_items g.known new)
unfolding file_items
file_comes {g = g} old item new step =
    comes_first SomeRemain (AllocatesNext (is_new old)) (file_items g.known old)
    (file_items g.known new) item (first_of_known (λ event. event) (StopsIf SomeRemain)
    (StopsIf (AllocatesNext (is_new old))) (g.known (binary_source old))
    (g.known (binary_source new)) (λ bytes. items_to_come bytes old)
    (λ bytes. items_to_come bytes new) item step.gives.unchanged step.gives.items)

-- what a call says of the items to come is true of the items of the file
pub gives_binary : {R C : Type 0} {g : Ghosts R} {h : CounterGhosts C}
    (old : BinaryReader R C g h) (item : Option (Result Event Error)) (new : BinaryReader R C g h)
    → GivesBinaryBy old event_of admitted_by has_limits item new → GivesBinary old item new
unfolding file_items
gives_binary {g = g} old item new gives = record {
  items = first_of_known event_of (StopsIf SomeRemain) (StopsIf (AllocatesNext (is_new old)))
      (g.known (binary_source old)) (g.known (binary_source new)) (λ bytes. items_to_come bytes old)
      (λ bytes. items_to_come bytes new) item gives.unchanged gives.items;
  failures = gives.failures;
  state = record { ended = gives.ended; unasked = gives.unasked; ends = gives.ends };
  inner = gives;
}

-- the visitor kept the event of a step
pub gives_kept : {R C : Type 0} {g : Ghosts R} {h : CounterGhosts C} (old new : BinaryReader R C g h)
    (visitor : FirstEvent) (flow : Flow) (event : PlainEvent) (kept : Event)
    → KeepsEvent event flow visitor → visitor.kept ≡ Some kept → Steps old (Some (Ok event)) new
    → GivesBinary old (Some (Ok kept)) new
gives_kept old new visitor flow event kept keeps is step =
    let same : event_of kept ≡ event = rw is at keeps.1 in
    let gives = (subst (λ e. Steps old (Some (Ok e)) new) (sym same) step).gives in
    gives_binary old (Some (Ok kept)) new (search rules)
