-- What the chosen reader yields: what both formats share, and what is yielded if the choice fails.
use Rattle.std.proofs.Common.{◌≡◌, inl, inr, ◌⊎◌, ℕ, ◌<◌, Bool, true, List, [], ◌∷◌, length, Option, None, Some, Err, IfSome, MatchOption, refl, ap, sym, ◌∙◌, subst, arith}
use Rattle.std.specs.Option.{is_some, option_map}
use Rattle.std.specs.Prelude.{IsSomeAnd, Result, ⊤}
use Rattle.plist_base.specs.declared.error.Error.{Error}
use Rattle.plist_base.specs.declared.event.Event.{Event}
use Rattle.plist_base.specs.declared.source.Source.{Ghosts}
use Rattle.plist_base.specs.Events.{Item, event_of}
use Rattle.plist_base.specs.FirstItems.{GivesFirst, GivesFirstIfKnown, StopsIf}
use Rattle.plist_base.specs.declared.limits.Limits.{Limits}
use Rattle.plist_base.specs.Limits.{IfLimitReached, KeepsLimits, items_within, limited_items}
use Rattle.plist_base.specs.Faults.{FaultKind, Fault, Io, LimitReached, XmlUnsupported, IsIo, fault_at, kind_of, error_kind_of, fault_of}
use Rattle.plist_base.specs.Outcomes.{IfFault}
use Rattle.plist_base.specs.Sources.{CountsIo}
use Rattle.plist_base.specs.Visits.{PlainItem, YieldsPlain}
use Rattle.plist_base.proofs.Refusals.{MatchFault-at, MatchFault-from_io}
use Rattle.plist_base.proofs.VisitedItems.{Comes, plain_comes}
use Rattle.plist_decode.specs.FaultOffsets.{HasOffset, MatchGiven}
use Rattle.plist_ascii.specs.Ascii.{IsFaultOfBytes}
use Rattle.plist_ascii.specs.declared.dialect.Dialect.{Dialect}
use Rattle.plist_binread.specs.Remaining.{SomeRemain}
use Rattle.plist_reader.specs.declared.reader.Reader.{Reader}
use Rattle.plist_reader.specs.declared.reader.State.{State}
use Rattle.plist_reader.specs.declared.reader.State.TheVariants as state
use Rattle.plist_reader.specs.Reader.{BeginsInside, Gives, admitted_in, reader_items, state_items, is_limited_in, items_in_format, items_of_dialect, IsReaderFault, StateGives, source_in}
use Rattle.plist_decode.specs.declared.format.Format.TheVariants as format
use Rattle.plist_decode.specs.Formats.{format_of}

abbrev pub Given : Type 0
Given = Option (Result Event Error)

-- `OutOfMemory` is yielded only if something remains
pub one-remain : {A : Type 0} (x : A) (xs : List A) → 0 < length (x ∷ xs)
one-remain x xs = omega arith

-- the item is the first that remained, or an error that may take its place
abbrev pub First : (before : List Item) → Given → (after : List Item) → Type 0
First = GivesFirst event_of (StopsIf (λ _. ⊤)) (StopsIf SomeRemain)

abbrev pub FirstIfKnown : (before : Option (List Item)) → Given → (after : Option (List Item))
    → Type 0
FirstIfKnown = GivesFirstIfKnown event_of (StopsIf (λ _. ⊤)) (StopsIf SomeRemain)

-- the items of an input in this dialect under optional limits
abbrev pub input_within : Dialect → Option Limits → List ℕ → List Item
input_within dialect limits bytes = items_within limits (items_of_dialect dialect bytes)

-- the reader has ended after `None`, and after a fault that the bytes of ASCII can't have
abbrev pub EndsAfter : Given → (ended : Type 0) → Type 0
EndsAfter item ended =
    MatchOption item ended (λ answer. IfFault answer (λ fault. IsFaultOfBytes fault.kind ⊎ ended))

-- if the item is a fault, a reader can yield it
abbrev pub IsReaderItem : (limited : Bool) → Given → Type 0
IsReaderItem limited item = IfSome item (λ answer. IfFault answer (IsReaderFault limited))

-- the source is kept, and its count of failures rises if the item is `Io`, and else is unchanged
abbrev pub HoldsSource : {R : Type 0} (failed : R → ℕ) (old : Option R) → Given → (new : Option R)
    → Type 0
HoldsSource failed old item new =
    IfSome old (λ source. IsSomeAnd new (λ kept. CountsIo item (failed source) (failed kept)))

-- why no reader was chosen: the source is XML, or a read failed
abbrev pub IsRefusedKind : FaultKind → Type 0
IsRefusedKind kind = (kind ≡ XmlUnsupported) ⊎ IsIo kind

-- the limits aren't why no reader was chosen
refused-limit : (kind : FaultKind) (P : Type 0) → IsRefusedKind kind → IfLimitReached kind P
refused-limit (LimitReached limit) P (inl xml) = absurd (cc)
refused-limit (LimitReached limit) P (inr io) = absurd io
refused-limit kind P refused = tt

-- two functions that agree on known bytes yield the same items
pub same-items : (k : Option (List ℕ)) (f g : List ℕ → List Item)
    → IfSome k (λ bytes. f bytes ≡ g bytes) → option_map f k ≡ option_map g k
same-items None f g h = refl
same-items (Some bytes) f g h = ap Some h

-- for XML the error is the only item
xml-items : (k : Option (List ℕ)) (limits : Option Limits) (dialect : Dialect) (place : ℕ) (error : Error)
    → fault_of error ≡ fault_at XmlUnsupported place
    → IfSome k (λ bytes. format.Xml place ≡ format_of bytes)
    → IfSome k (λ bytes. First (input_within dialect limits bytes) (Some (Err error)) [])
xml-items None limits dialect place error is h = tt
xml-items (Some bytes) limits dialect place error is h =
    MatchFault-at _ XmlUnsupported _ _ _ (ap (λ (f : Fault). f.kind) is)
    (within limits ∙ ap (λ f. Err f ∷ []) (sym is))
  where
    within : (limits : Option Limits)
        → input_within dialect limits bytes ≡ Err (fault_at XmlUnsupported place) ∷ []
    within None = ap (λ f. items_in_format dialect f bytes) (sym h)
    within (Some limits) = ap (λ f. limited_items limits (items_in_format dialect f bytes)) (sym h)

-- a read failed
io-items : (k : Option (List ℕ)) (limits : Option Limits) (dialect : Dialect) (error : Error)
    → IsIo (kind_of (error_kind_of error))
    → IfSome k (λ bytes. First (input_within dialect limits bytes) (Some (Err error)) [])
io-items None limits dialect error io = tt
io-items (Some bytes) limits dialect error io =
    MatchFault-from_io (kind_of (error_kind_of error)) _ _ _ io (tt, refl)

io-fault : (limited : Bool) (error : Error) → IsIo (kind_of (error_kind_of error))
    → HasOffset (fault_of error).offset → IsReaderFault limited (fault_of error)
io-fault limited error io place = inr (placed _ _ io place)
  where
    placed : (kind : FaultKind) (offset : Option ℕ) → IsIo kind → HasOffset offset
        → MatchGiven kind (HasOffset offset) (offset ≡ None) (HasOffset offset)
        ((limited ≡ true) × (offset ≡ None))
    placed Io offset io place = place
    placed kind offset io place = absurd io

module _ {R : Type 0} {g : Ghosts R} (known : R → Option (List ℕ)) (failed : R → ℕ) where
  -- a reader of a source is one of each source with the same bytes and the same count of failures
  begun-other : (source other : R) (limits : Option Limits) (dialect : Dialect) (new : State R g) (item : Given)
      → known other ≡ known source → failed other ≡ failed source
      → BeginsInside known failed (other, limits, dialect) item new
      → BeginsInside known failed (source, limits, dialect) item new
  begun-other source other limits dialect (state.Binary new) item e f h =
      (h.0, (h.1.0 ∙ e, h.1.1 ∙ f), h.2, h.3, h.4)
  begun-other source other limits dialect (state.Ascii new) item e f h =
      (h.0, (h.1.0 ∙ e, h.1.1 ∙ f), h.2, h.3, h.4, h.5)
  begun-other source other limits dialect (state.Limited new) item e f h =
      (h.0, (h.1.0 ∙ e, h.1.1 ∙ f), h.2, h.3, h.4, h.5)
  begun-other source other limits dialect (state.Refused refused) item e f h = h
  begun-other source other limits dialect new item e f h = absurd h

  -- What is yielded in a state with the same items, and with a source of the same bytes and the same
  -- count of failures, is yielded before the choice, too.
  pub chosen-gives : (source other : R) (limits : Option Limits) (dialect : Dialect) (old new : State R g) (item : Given)
      → source_in old ≡ Some other → known other ≡ known source → failed other ≡ failed source
      → state_items known old ≡ option_map (input_within dialect limits) (known source)
      → is_limited_in old ≡ is_some limits → admitted_in old ≡ items_within limits
      → BeginsInside known failed (other, limits, dialect) item new → StateGives known failed old item new
      → StateGives known failed (state.Unread source limits dialect) item new
  chosen-gives source other limits dialect old new item at e f same limited admits inside h = record {
    items = subst (λ o. FirstIfKnown o item (state_items known new)) same h.items;
    failures = count (source_in new)
        (subst (λ o. HoldsSource failed o item (source_in new)) at h.failures);
    state = record { ended = λ e. absurd e; ends = h.state.ends };
    inner = record {
      admitted = subst (λ lets. KeepsLimits event_of lets item (admitted_in new)) admits
          h.inner.admitted;
      faults = subst (λ b. IsReaderItem b item) limited h.inner.faults;
      limits = λ none. h.inner.limits (limited ∙ none);
      inside = begun-other source other limits dialect new item e f inside;
    };
  }
    where
      count : (kept : Option R) → HoldsSource failed (Some other) item kept
          → HoldsSource failed (Some source) item kept
      count None h = h
      count (Some kept) h = subst (λ n. CountsIo item n (failed kept)) f h

  -- a source with the same bytes and the same count of failures yields the same
  pub other-source : (source other : R) (limits : Option Limits) (dialect : Dialect) (new : State R g) (item : Given)
      → known other ≡ known source → failed other ≡ failed source
      → StateGives known failed (state.Unread other limits dialect) item new
      → StateGives known failed (state.Unread source limits dialect) item new
  other-source source other limits dialect new item e f h =
      chosen-gives source other limits dialect (state.Unread other limits dialect) new item refl e f
      (ap (option_map (input_within dialect limits)) e) refl refl h.inner.inside h

  -- if the choice fails, its error is yielded
  refused-gives : (source other : R) (limits : Option Limits) (dialect : Dialect) (error : Error)
      → IfSome (known source) (λ bytes. First (input_within dialect limits bytes) (Some (Err error)) [])
      → IsRefusedKind (kind_of (error_kind_of error))
      → CountsIo {A = Event} (Some (Err error)) (failed source) (failed other)
      → IsReaderFault (is_some limits) (fault_of error)
      → StateGives {R = R} {g = g} known failed (state.Unread source limits dialect) (Some (Err error))
      (state.Refused other)
  refused-gives source other limits dialect error items kind count fault = record {
    items = empty (known source) items;
    failures = count;
    state = record { ended = λ e. absurd e; ends = inr tt };
    inner = record {
      admitted = refused-limit (kind_of (error_kind_of error)) _ kind;
      faults = fault;
      limits = λ none. refl;
      inside = kind;
    };
  }
    where
      empty : (k : Option (List ℕ))
          → IfSome k (λ bytes. First (input_within dialect limits bytes) (Some (Err error)) [])
          → FirstIfKnown (option_map (input_within dialect limits) k) (Some (Err error)) (Some [])
      empty None h = tt
      empty (Some bytes) h = ([], refl, h)

  -- the source is XML
  pub xml-gives : (source other : R) (limits : Option Limits) (dialect : Dialect) (place : ℕ) (error : Error)
      → fault_of error ≡ fault_at XmlUnsupported place
      → IfSome (known source) (λ bytes. format.Xml place ≡ format_of bytes) → failed other ≡ failed source
      → StateGives {R = R} {g = g} known failed (state.Unread source limits dialect) (Some (Err error))
      (state.Refused other)
  xml-gives source other limits dialect place error is begins same =
      let kind = ap (λ (f : Fault). f.kind) is in
      refused-gives source other limits dialect error
      (xml-items (known source) limits dialect place error is begins) (inl kind)
      (MatchFault-at _ XmlUnsupported _ _ _ kind same)
      (subst (IsReaderFault (is_some limits)) (sym is) (inl (inl refl, tt)))

  -- a read failed
  pub io-gives : (source other : R) (limits : Option Limits) (dialect : Dialect) (error : Error)
      → IsIo (kind_of (error_kind_of error)) → HasOffset (fault_of error).offset
      → CountsIo {A = Event} (Some (Err error)) (failed source) (failed other)
      → StateGives {R = R} {g = g} known failed (state.Unread source limits dialect) (Some (Err error))
      (state.Refused other)
  io-gives source other limits dialect error io place count =
      refused-gives source other limits dialect error (io-items (known source) limits dialect error io)
      (inr io) count (io-fault (is_some limits) error io place)

-- a call of `next` yields the first of the remaining items
pub reader_comes : {R : Type 0} {g : Ghosts R} (known : R → Option (List ℕ)) (failed : R → ℕ)
    (old : Reader R g) (item : PlainItem) (new : Reader R g)
    → YieldsPlain (Gives known failed) old item new
    → Comes (reader_items known old) item (reader_items known new)
reader_comes known failed old item new (given, yields, is) =
    rw is (plain_comes (λ _. ⊤) SomeRemain (reader_items known old) (reader_items known new) given
    yields.items)
