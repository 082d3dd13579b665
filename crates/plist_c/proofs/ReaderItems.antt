-- What is read of the items of a reader over a slice, which never fails.
use Rattle.std.proofs.Common.{◌≡◌, inl, inr, ℕ, List, [], ◌∷◌, ◌++◌, Option, None, Some, Result, Ok, Err, map, refl, ap, ◌∙◌, arith}
use Rattle.std.specs.Prelude.{⊤, IsSomeAnd}
use Rattle.plist_base.specs.declared.error.Error.{Error}
use Rattle.plist_base.specs.declared.event.Event.{Event}
use Rattle.plist_base.specs.declared.source.Source.{Ghosts}
use Rattle.plist_base.specs.Events.{PlainEvent, Item}
use Rattle.plist_base.specs.Faults as fault
use Rattle.plist_base.specs.Faults.{FaultKind, MatchFault, error_kind_of, fault_of, kind_of}
use Rattle.plist_base.specs.Sources.{CountsIo, Rises}
use Rattle.plist_base.specs.Visits.{PlainItem, YieldsAll, YieldsPlain, plain_item}
use Rattle.plist_base.proofs.Refusals.{MatchFault-weaker}
use Rattle.plist_base.specs.VisitedItems.{YieldsFirst}
use Rattle.plist_reader.specs.Reader.{Gives, reader_items, reader_source}
use Rattle.plist_reader.specs.declared.reader.Reader.{Reader}
use Rattle.plist_reader.proofs.ReaderItems.{reader_comes}
use Rattle.plist_c.specs.declared.flat.Outcome.{Outcome}
use Rattle.plist_c.specs.declared.read.Start.{Start}
use Rattle.plist_c.specs.Reading.{Reads, limits_of}
use Rattle.plist_c.specs.Rooms.{Memory}
use Rattle.plist_c.specs.inner.Ordering.{asked_in}
use Rattle.plist_c.specs.inner.Runs.{BeginWith, Fills, demand_of}
use Rattle.plist_base.specs.Limits.{limited_items}

-- the error isn't `Io`
abbrev IsNoIo : PlainItem → Type 0
IsNoIo None = ⊤
IsNoIo (Some (Ok event)) = ⊤
IsNoIo (Some (Err error)) = MatchFault (fault_of error).kind ⊥ ⊤ ⊤

-- a count of failures that stays 0 doesn't rise
never_rises : Rises 0 0 → ⊥
never_rises (inl is) = cc
never_rises (inr both) = omega (arith, both.0)

no_io : (item : Option (Result Event Error)) → CountsIo item 0 0 → IsNoIo (plain_item item)
no_io None counts = tt
no_io (Some (Ok event)) counts = tt
no_io (Some (Err error)) counts =
    MatchFault-weaker (kind_of (error_kind_of error)) never_rises (λ _. tt) (λ _. tt) counts

-- the items begin with the item that comes
begins : (item : PlainItem) (before after : List Item) → IsNoIo item
    → YieldsFirst before item after
    → BeginWith item before
begins None before after io first = first.0
begins (Some (Ok event)) before after io first = (after, first)
begins (Some (Err error)) before after io first = by (fault_of error).kind io first
  where
    by : (kind : FaultKind) → MatchFault kind ⊥ ⊤ ⊤
        → MatchFault kind (after ≡ []) (after ≡ []) (before ≡ Err (fault_of error) ∷ after)
        → MatchFault kind ⊥ ⊤ ((rest : List Item) × (before ≡ Err (fault_of error) ∷ rest))
    by fault.Io io first = io
    by fault.OutOfMemory io first = tt
    by kind io first = (after, first)

-- a source that is kept is there
kept : {S P : Type 0} (source : Option S) → IsSomeAnd source (λ _. P)
    → ((one : S) × (source ≡ Some one)) × P
kept None is = absurd is
kept (Some one) is = ((one, refl), is)

module _ {S : Type 0} {g : Ghosts S} (known : S → Option (List ℕ)) where
  abbrev Yields : Reader S g → PlainItem → Reader S g → Type 0
  Yields = YieldsPlain (Gives known (λ _. 0))

  -- the remaining items are known, and the source is kept
  record IsAt (reader : Reader S g) (items : List Item) : Type 0 where
    to_come : reader_items known reader ≡ Some items
    source : (source : S) × (reader_source reader ≡ Some source)

  -- an item that is yielded is the first of the remaining ones
  came : (old new : Reader S g) (item : PlainItem) (before : List Item) → IsAt old before
      → Yields old item new → (after : List Item) × IsAt new after × BeginWith item before
      × YieldsFirst before item after
  came old new item before here one =
      let (given, gives, is) = one in
      let (after, to, first) = rw here.to_come at (reader_comes known (λ _. 0) old item new one) in
      let (source, counts) = kept (reader_source new) (rw here.source.1 at gives.failures) in (
        after,
        record { to_come = to; source = source },
        begins item before after (rw is (no_io given counts)) first,
        first,
      )

  -- the events that are yielded are the first items
  came_all : (old new : Reader S g) (events : List PlainEvent) (all : List Item) → IsAt old all
      → YieldsAll Yields old events new
      → (rest : List Item) × IsAt new rest × (all ≡ map Ok events ++ rest)
  came_all old new [] all here is = (all, rw is here, refl)
  came_all old new (event ∷ events) all here (next, one, others) =
      let (mid, there, begin, first) = came old next (Some (Ok event)) all here one in
      let (rest, last, same) = came_all next new events mid there others in
      (rest, last, first ∙ ap (λ l. Ok event ∷ l) same)

  -- what is read of a reader's items
  pub read_of : (start : Start) (old : Reader S g) (outcome : Outcome) (all : List Item)
      (memory : Memory) → reader_items known old ≡ Some all
      → (source : S) → reader_source old ≡ Some source → Fills Yields start old outcome memory
      → Reads (demand_of (asked_in start.order)) start.limits (limited_items (limits_of start.limits) all)
      outcome memory
  read_of start old outcome all memory known_items source is fills =
      let here : IsAt old all = record { to_come = known_items; source = (source, is) } in
      let (rest, last, same) = came_all old fills.left fills.events all here fills.given in
      let (after, there, begin, first) = came fills.left fills.new fills.next rest last fills.came in
      rw same (fills.reads rest begin)
