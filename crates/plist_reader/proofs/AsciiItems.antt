-- What the reader of ASCII yields as the chosen one, with limits or without.
use Rattle.std.proofs.Common.{◌≡◌, ◌⊎◌, inl, inr, ℕ, ◌-◌, ◌^◌, Bool, true, false, cond, List, [], ◌∷◌, Option, None, Some, Ok, Err, IfSome, MatchBool, refl, ap, sym, ◌∙◌, subst, arith}
use Rattle.std.specs.Io.KnownBytes.{prepend_known}
use Rattle.std.specs.Option.{option_map}
use Rattle.std.proofs.lemmas.List.{take-take}
use Rattle.plist_base.specs.declared.source.Source.{Ghosts}
use Rattle.plist_reader.specs.declared.bytes.BufferedSource.{BufferedSource}
use Rattle.plist_base.specs.Events.{Item, event_of}
use Rattle.std.specs.Prelude.{IfErr, ⊤}
use Rattle.plist_base.specs.declared.limited_items.LimitedItems.{LimitedItems}
use Rattle.plist_base.specs.declared.limits.Limits.{Limits}
use Rattle.plist_base.specs.declared.limits.LimitCounter.{LimitCounter}
use Rattle.plist_base.specs.Allowances.{PassesNext as PassesAllowed, iterator_of}
use Rattle.plist_base.specs.Limits.{GivesLimited, IfLimitReached, IsLimitReached, KeepsLimits, items_admitted, limited_items, limited_by}
use Rattle.plist_base.specs.Faults.{FaultKind, Fault, Io, OutOfMemory, LimitReached, MatchFault, XmlUnsupported, kind_of, error_kind_of, fault_of, offset_of}
use Rattle.plist_base.specs.Sequential.{from_place, sequential_place}
use Rattle.plist_base.specs.Sources.{CountsIo}
use Rattle.plist_base.specs.FirstItems.{MatchItem, StopsIf}
use Rattle.plist_base.proofs.FirstItems.{first_allowed_if_known, first_weaker_if_known, none_allowed}
use Rattle.plist_base.proofs.Refusals.{MatchFault-at, MatchFault-weaker}
use Rattle.plist_binread.proofs.LimitedSteps.{limits_remain}
use Rattle.plist_binread.proofs.ReaderLimits.{is_limit}
use Rattle.plist_decode.specs.FaultOffsets.{HasOffset, MatchGiven}
use Rattle.plist_binread.specs.Remaining.{SomeRemain}
use Rattle.plist_ascii.specs.Ascii.{items_of_ascii, BeginsWithText, IsAsciiEvent, IsFaultOfBytes}
use Rattle.plist_ascii.specs.AsciiReader as ascii
use Rattle.plist_ascii.specs.Unread.{RisesIfCounted}
use Rattle.plist_ascii.specs.declared.dialect.Dialect.{Dialect}
use Rattle.plist_ascii.specs.Texts.{ends_bare}
use Rattle.plist_reader.specs.declared.reader.State.TheVariants as state
use Rattle.plist_reader.specs.Reader.{AsciiReaderOf, AsciiGives, buffered_source, stream_bytes_left, buffered_bytes, items_in_format, items_of_dialect, IsReaderFault, StateGives}
use Rattle.plist_decode.specs.declared.format.Format.TheVariants as format
use Rattle.plist_decode.specs.Formats.{format_of, input_front}
use Rattle.plist_reader.proofs.ReaderItems.{EndsAfter, Given, IsReaderItem, chosen-gives, input_within, one-remain}

-- ---- `OutOfMemory` is yielded only if something remains

text-remain : (before : List Item) → BeginsWithText before → SomeRemain before
text-remain [] h = absurd h
text-remain (x ∷ xs) h = one-remain x xs

-- ---- one call

-- the item, if there is one, is an event or a fault that the bytes of ASCII can have
abbrev HasKind : Given → Type 0
HasKind item =
    MatchItem item ⊤ (λ event. IsAsciiEvent (event_of event)) ⊤ ⊤ (λ f. IsFaultOfBytes f.kind)

ascii-ends : (E : Type 0) (item : Given) → MatchItem item E (λ _. ⊤) E E (λ _. ⊤) → HasKind item
    → EndsAfter item E
ascii-ends E None h k = h
ascii-ends E (Some (Ok event)) h k = tt
ascii-ends E (Some (Err error)) h k = by (kind_of (error_kind_of error)) h k
  where
    by : (kind : FaultKind) → MatchFault kind E E ⊤ → MatchFault kind ⊤ ⊤ (IsFaultOfBytes kind)
        → IsFaultOfBytes kind ⊎ E
    by Io h k = inr h
    by OutOfMemory h k = inr h
    by kind h k = inl k

-- ---- which faults there are, and their offsets

ascii-faults : (limited : Bool) (place : ℕ) (item : Given) → HasKind item
    → IfSome item (λ answer. IfErr answer (λ error. let taken = offset_of error ≡ Some place in
    MatchFault (fault_of error).kind taken (offset_of error ≡ None) taken))
    → IsReaderItem limited item
ascii-faults limited place None k h = tt
ascii-faults limited place (Some (Ok event)) k h = tt
ascii-faults limited place (Some (Err error)) k h =
    by (fault_of error).kind (fault_of error).offset k h
  where
    by : (kind : FaultKind) (offset : Option ℕ) → MatchFault kind ⊤ ⊤ (IsFaultOfBytes kind)
        → MatchFault kind (offset ≡ Some place) (offset ≡ None) (offset ≡ Some place)
        → (((kind ≡ XmlUnsupported) ⊎ IsFaultOfBytes kind) × HasOffset offset)
        ⊎ MatchGiven kind (HasOffset offset) (offset ≡ None) (HasOffset offset)
        ((limited ≡ true) × (offset ≡ None))
    by Io offset k p = inr (rw p tt)
    by OutOfMemory offset k p = inr p
    by kind offset k p = inl (inr k, rw p tt)

-- if both counts exist, a fact about optional counts is one about them
pub counted-failures : (a b : ℕ) (item : Given) → let same = Some b ≡ Some a in
    MatchItem item same (λ _. same) (RisesIfCounted (Some a) (Some b)) same (λ _. same)
    → CountsIo item a b
counted-failures a b None h = cc
counted-failures a b (Some (Ok event)) h = cc
counted-failures a b (Some (Err error)) h =
    MatchFault-weaker (kind_of (error_kind_of error)) (λ r. r) (λ e. cc) (λ e. cc) h

-- ---- the items that remain before the first call

take-twice : (bytes : List ℕ) → input_front (input_front bytes) ≡ input_front bytes
take-twice bytes = take-take (2 ^ 64 - 1) (2 ^ 64 - 1) bytes (omega arith)

ascii-items : (dialect : Dialect) (k l : Option (List ℕ)) → l ≡ k
    → IfSome k (λ bytes. format.Ascii ≡ format_of bytes)
    → option_map (λ bytes. items_of_ascii (ends_bare dialect) bytes 0)
    (option_map input_front (prepend_known [] (option_map (from_place 0) l)))
    ≡ option_map (items_of_dialect dialect) k
ascii-items dialect None l e is = rw e refl
ascii-items dialect (Some bytes) l e is =
    rw (e, take-twice bytes) (ap (λ f. Some (items_in_format dialect f bytes)) is)

-- ---- under limits

abbrev PassesNext : (old : LimitCounter) (asked item : Given) (new : LimitCounter) (ended : Bool) → Type 0
PassesNext old asked item new ended =
    PassesAllowed limited_by IsLimitReached old asked item (new, ended)

abbrev come : Bool → LimitCounter → List Item → List Item
come ended limiter items = cond ended [] (limited_by limiter items)

-- without limits, each event is admitted, and no fault is that of a limit
no-limit : (fault : Fault) (P : Type 0) → IsReaderFault false fault → IfLimitReached fault.kind P
no-limit fault P h = by fault.kind h
  where
    by : (kind : FaultKind) → IsReaderFault false (record { kind = kind; offset = fault.offset })
        → IfLimitReached kind P
    by (LimitReached limit) (inl (inl xml, place)) = absurd (cc)
    by (LimitReached limit) (inl (inr bytes, place)) = absurd bytes
    by (LimitReached limit) (inr given) = absurd (cc given.0)
    by kind h = tt

all-admitted : (item : Given) → IsReaderItem false item
    → KeepsLimits event_of (λ items. items) item (λ items. items)
all-admitted None h = tt
all-admitted (Some (Ok event)) h = λ items. refl
all-admitted (Some (Err error)) h = no-limit (fault_of error) _ h

-- What the limits pass on is the item that was asked for, or a limit's fault in place of an event
-- that they don't admit.
passed-on : (was now : Bool) (old new : LimitCounter) (asked item : Given) (a b : ℕ) → was ≡ false
    → CountsIo asked a b → ((limited : Bool) → IsReaderItem limited asked)
    → PassesNext old asked item new now
    → CountsIo item a b × IsReaderItem true item × EndsAfter item (now ≡ true)
    × KeepsLimits event_of (come was old) item (come now new)
passed-on was now old new None item a b going n h p = rw p.0 (n, tt, p.2, tt)
passed-on was now old new (Some (Ok asked)) None a b going n h p = absurd p
passed-on was now old new (Some (Ok asked)) (Some (Ok passed)) a b going n h p =
    (n, tt, tt, λ items. rw (going, p.2, p.0) (p.1 items))
passed-on was now old new (Some (Ok asked)) (Some (Err error)) a b going n h p = (
  MatchFault-at _ (LimitReached p.0.0.0) _ _ _ (ap (λ (f : Fault). f.kind) p.0.0.1) n,
  subst (IsReaderFault true) (sym p.0.0.1) (inr (refl, refl)),
  inr p.1,
  rw going (is_limit (fault_of error) _ p.0.0 (event_of asked, p.0)),
)
passed-on was now old new (Some (Err fault)) None a b going n h p = absurd p
passed-on was now old new (Some (Err fault)) (Some given) a b going n h p =
    rw p.0 (n, h true, inr p.1, no-limit (fault_of fault) _ (h false))

-- a reader of ASCII that has yielded nothing reads this source, in this dialect
pub record IsFresh {R : Type 0} (known : R → Option (List ℕ)) (source : R) (dialect : Dialect)
    (sequence : BufferedSource R) (reader : AsciiReaderOf R) : Type 0 where
  pub from : buffered_source sequence ≡ source
  pub inside : ascii.device_of reader ≡ sequence
  pub at : sequential_place sequence.inner ≡ 0
  pub none : buffered_bytes sequence ≡ []
  pub is : IfSome (known source) (λ bytes. format.Ascii ≡ format_of bytes)
  pub bytes : ascii.untaken_bytes (stream_bytes_left known) reader
      ≡ option_map input_front (stream_bytes_left known sequence)
  pub place : ascii.place_of reader ≡ 0
  pub chosen : ascii.dialect_of reader ≡ dialect

-- it has all items of its source left
fresh-text : {R : Type 0} (known : R → Option (List ℕ)) (dialect : Dialect) (source : R)
    (sequence : BufferedSource R) (reader : AsciiReaderOf R)
    → IsFresh known source dialect sequence reader
    → ascii.ascii_items_to_come (stream_bytes_left known) reader
    ≡ option_map (items_of_dialect dialect) (known source)
fresh-text known dialect source sequence reader f =
    (λ i. option_map (λ b. items_of_ascii (ends_bare (f.chosen i)) b (f.place i)) (f.bytes i))
    ∙ rw (f.none, f.at) (ascii-items dialect _ (known (buffered_source sequence)) (ap known f.from) f.is)

joined : (limits : Limits) (dialect : Dialect) (k : Option (List ℕ))
    → option_map (limited_items limits) (option_map (items_of_dialect dialect) k)
    ≡ option_map (input_within dialect (Some limits)) k
joined limits dialect None = refl
joined limits dialect (Some bytes) = refl

module _ {R : Type 0} {g : Ghosts R} (known : R → Option (List ℕ)) (failed : R → ℕ) where
  pub ascii-gives : (old new : AsciiReaderOf R) (item : Given)
      → AsciiGives known failed old item new
      → StateGives {R = R} {g = g} known failed (state.Ascii old) item (state.Ascii new)
  ascii-gives old new item h = record {
    items = first_weaker_if_known event_of (StopsIf (λ _. ⊤)) (StopsIf BeginsWithText)
        (StopsIf (λ _. ⊤)) (StopsIf SomeRemain) (λ before after p. p)
        (λ before after p. (text-remain before p.0, p.1))
        (ascii.ascii_items_to_come (stream_bytes_left known) old)
        (ascii.ascii_items_to_come (stream_bytes_left known) new) item h.items;
    failures = counted-failures (failed (buffered_source (ascii.device_of old)))
        (failed (buffered_source (ascii.device_of new))) item h.failures;
    state = record {
      ended = h.state.ended;
      ends = ascii-ends (ascii.HasEndedAscii new) item h.state.ends h.inner.kinds;
    };
    inner = record {
      admitted = all-admitted item
          (ascii-faults false (ascii.place_of new) item h.inner.kinds h.inner.offset);
      faults = ascii-faults false (ascii.place_of new) item h.inner.kinds h.inner.offset;
      limits = λ none. refl;
      inside = h;
    };
  }

  -- the reader has ended
  over-gives : (old : LimitedItems (AsciiReaderOf R) LimitCounter) → old.ended ≡ true
      → StateGives {R = R} {g = g} known failed (state.Limited old) None (state.Limited old)
  over-gives old over = record {
    items = none_allowed event_of (StopsIf (λ _. ⊤)) (StopsIf SomeRemain) (items_admitted old) (ascii.ascii_items_to_come (stream_bytes_left known) (iterator_of old))
        (λ items. rw over refl);
    failures = refl;
    state = record { ended = λ _. refl; ends = over };
    inner = record {
      admitted = tt;
      faults = tt;
      limits = λ none. none;
      inside = rw over (refl, refl);
    };
  }

  pub limited-gives : (old new : LimitedItems (AsciiReaderOf R) LimitCounter) (item : Given)
      → GivesLimited (AsciiGives known failed) old item new
      → StateGives {R = R} {g = g} known failed (state.Limited old) item (state.Limited new)
  limited-gives old new item h = by old.ended refl h
    where
      by : (b : Bool) → old.ended ≡ b → MatchBool b ((item ≡ None) × (new ≡ old))
          ((asked : Given) × AsciiGives known failed old.inner asked new.inner
          × PassesNext old.limiter asked item new.limiter new.ended)
          → StateGives {R = R} {g = g} known failed (state.Limited old) item (state.Limited new)
      by true over (none, same) = rw (same, none) (over-gives old over)
      by false going (asked, gave, passes) =
          let given = ascii-gives old.inner new.inner asked gave in
          let (failures, faults, ends, admitted) = passed-on old.ended new.ended old.limiter
          new.limiter asked item _ _ going given.failures (λ limited.
          ascii-faults limited (ascii.place_of new.inner) asked gave.inner.kinds gave.inner.offset) passes in
          record {
            items = first_allowed_if_known limited_by IsLimitReached (StopsIf (λ _. ⊤))
                (StopsIf SomeRemain) (StopsIf (λ _. ⊤)) (StopsIf SomeRemain) (λ limiter. refl)
                (λ limiter fault items. refl) (λ items. (tt, refl))
                (λ limiter before after p. (limits_remain limiter before p.0, refl))
                (λ fault. (one-remain {A = Item} (Err fault) [], refl)) old.limiter new.limiter old.ended new.ended
                (ascii.ascii_items_to_come (stream_bytes_left known) old.inner)
                (ascii.ascii_items_to_come (stream_bytes_left known) new.inner) asked
                item going given.items passes;
            failures = failures;
            state = record {
              ended = λ over. (let no : false ≡ true → item ≡ None = λ q. cc in no (cc));
              ends = ends;
            };
            inner = record { admitted = admitted; faults = faults; limits = λ none. none; inside = h };
          }

  pub begun-ascii : (source : R) (dialect : Dialect) (sequence : BufferedSource R)
      (old new : AsciiReaderOf R) (item : Given) → IsFresh known source dialect sequence old
      → AsciiGives known failed old item new
      → StateGives {R = R} {g = g} known failed (state.Unread source None dialect) item
      (state.Ascii new)
  begun-ascii source dialect sequence old new item f h =
      let kept : buffered_source (ascii.device_of old) ≡ source = ap buffered_source f.inside ∙ f.from in
      chosen-gives {g = g} known failed source _ None dialect (state.Ascii old) (state.Ascii new) item
      refl (ap known kept) (ap failed kept) (fresh-text known dialect source sequence old f) refl refl
      (old, (refl, refl), f.place, f.chosen, refl, h) (ascii-gives old new item h)

  pub begun-limited : (source : R) (limits : Limits) (dialect : Dialect) (sequence : BufferedSource R)
      (old new : LimitedItems (AsciiReaderOf R) LimitCounter) (item : Given)
      → items_admitted old ≡ limited_items limits
      → IsFresh known source dialect sequence (iterator_of old)
      → GivesLimited (AsciiGives known failed) old item new
      → StateGives {R = R} {g = g} known failed (state.Unread source (Some limits) dialect) item
      (state.Limited new)
  begun-limited source limits dialect sequence old new item come f h =
      let kept : buffered_source (ascii.device_of (iterator_of old)) ≡ source =
      ap buffered_source f.inside ∙ f.from in
      chosen-gives {g = g} known failed source _ (Some limits) dialect (state.Limited old) (state.Limited new) item
      refl (ap known kept) (ap failed kept)
      (rw (come, fresh-text known dialect source sequence (iterator_of old) f) (joined limits dialect (known source)))
      refl come (old, (refl, refl), f.place, f.chosen, refl, h) (limited-gives old new item h)
