-- What the reader of the binary format yields as the chosen one.
use Rattle.std.proofs.Common.{◌≡◌, ℕ, ◌^◌, Bool, true, false, List, Option, None, Some, Ok, Err, IfSome, OnErr, MatchOption, inr, ap, ◌∙◌, refl}
use Rattle.std.specs.Option.{is_some, option_map}
use Rattle.plist_base.specs.declared.source.Source.{Ghosts}
use Rattle.plist_base.specs.Events.{Item, event_of}
use Rattle.plist_base.proofs.FirstItems.{first_weaker_if_known}
use Rattle.plist_base.specs.FirstItems.{StopsIf}
use Rattle.std.specs.Prelude.{⊤}
use Rattle.std.proofs.lemmas.Option.{IfSome_then}
use Rattle.plist_base.specs.declared.limits.Limits.{Limits}
use Rattle.plist_base.specs.Limits.{items_within}
use Rattle.plist_base.specs.Faults.{FaultKind, Io, UnexpectedEof}
use Rattle.plist_base.specs.Sources.{IsOffsetWithin}
use Rattle.plist_binread.specs.BinaryReader as binary
use Rattle.plist_binread.proofs.FirstItem.{remaining_if_wanted}
use Rattle.plist_decode.specs.FaultOffsets.{HasOffset, MatchGiven, ItemGivenWithin}
use Rattle.plist_binread.specs.Remaining.{SomeRemain, AllocatesNext}
use Rattle.plist_ascii.specs.declared.dialect.Dialect.{Dialect}
use Rattle.plist_reader.specs.declared.reader.State.TheVariants as state
use Rattle.plist_reader.specs.Reader.{BinaryReaderOf, items_in_format, StateGives}
use Rattle.plist_decode.specs.declared.format.Format.TheVariants as format
use Rattle.plist_decode.specs.Formats.{format_of}
use Rattle.plist_decode.proofs.Fronts.{within-placed}
use Rattle.plist_reader.proofs.ReaderItems.{EndsAfter, Given, IsReaderItem, chosen-gives, input_within, same-items}
use Rattle.plist_base.specs.Unfolding.{items_of_file}

-- ---- `OutOfMemory` is yielded only if something remains

either-remain : (new : Bool) (before : List Item) → AllocatesNext new before → SomeRemain before
either-remain true before h = h
either-remain false before h = remaining_if_wanted before h

-- ---- one call

-- after an error the reader has ended
over-ends : (E : Type 0) (item : Given) → MatchOption item E (λ answer. OnErr answer E)
    → EndsAfter item E
over-ends E None h = h
over-ends E (Some (Ok event)) h = tt
over-ends E (Some (Err error)) h = inr h

-- ---- which faults there are, and their offsets

binary-faults : (limited : Bool) (item : Given) → ItemGivenWithin 0 (2 ^ 64) limited item
    → IsReaderItem limited item
binary-faults limited None h = tt
binary-faults limited (Some (Ok event)) h = tt
binary-faults limited (Some (Err error)) h = inr (placed _ _ h.placed)
  where
    placed : (kind : FaultKind) (offset : Option ℕ)
        → MatchGiven kind (IsOffsetWithin 0 (2 ^ 64) offset) (offset ≡ None) (HasOffset offset)
        ((limited ≡ true) × (offset ≡ None))
        → MatchGiven kind (HasOffset offset) (offset ≡ None) (HasOffset offset)
        ((limited ≡ true) × (offset ≡ None))
    placed Io offset p = within-placed 0 (2 ^ 64) offset p
    placed UnexpectedEof offset p = within-placed 0 (2 ^ 64) offset p
    placed kind offset p = p

-- ---- the items that remain before the first call

file-input : (limits : Option Limits) (dialect : Dialect) (bytes : List ℕ)
    → format.Binary ≡ format_of bytes
    → items_within limits (items_of_file bytes) ≡ input_within dialect limits bytes
file-input limits dialect bytes is =
    ap (λ f. items_within limits (items_in_format dialect f bytes)) is

module _ {R : Type 0} {g : Ghosts R} where
  pub binary-gives : (old new : BinaryReaderOf R g) (item : Given) → binary.GivesBinary old item new
      → StateGives g.known g.failures (state.Binary old) item (state.Binary new)
  binary-gives old new item h = record {
    items = first_weaker_if_known event_of (StopsIf SomeRemain)
        (StopsIf (AllocatesNext (binary.is_new old))) (StopsIf (λ _. ⊤)) (StopsIf SomeRemain)
        (λ before after p. (tt, p.1))
        (λ before after p. (either-remain (binary.is_new old) before p.0, p.1))
        (binary.file_items g.known old) (binary.file_items g.known new) item h.items;
    failures = h.failures;
    state = record {
      ended = h.state.ended;
      ends = over-ends (binary.HasEndedBinary new) item h.state.ends;
    };
    inner = record {
      admitted = h.inner.admitted;
      faults = binary-faults (binary.has_limits old) item h.inner.faults;
      limits = λ none. h.inner.kept.0 ∙ none;
      inside = h;
    };
  }

  pub begun-binary : (source : R) (limits : Option Limits) (dialect : Dialect) (old new : BinaryReaderOf R g) (item : Given)
      → binary.binary_source old ≡ source → binary.is_new old ≡ true
      → binary.has_limits old ≡ is_some limits
      → IfSome (g.known source) (λ bytes. format.Binary ≡ format_of bytes)
      → binary.file_items g.known old
      ≡ option_map (λ bytes. items_within limits (items_of_file bytes)) (g.known source)
      → binary.admitted_by old ≡ items_within limits
      → binary.GivesBinary old item new
      → StateGives g.known g.failures (state.Unread source limits dialect) item (state.Binary new)
  begun-binary source limits dialect old new item at fresh limited is begins admits h =
      chosen-gives {g = g} g.known g.failures source _ limits dialect (state.Binary old) (state.Binary new) item
      refl (ap g.known at) (ap g.failures at)
      (begins ∙ same-items (g.known source) _ (input_within dialect limits)
      (IfSome_then (g.known source) is (λ bytes is. file-input limits dialect bytes is)))
      limited admits (old, (refl, refl), fresh, limited, h) (binary-gives old new item h)
