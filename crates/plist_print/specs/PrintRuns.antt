-- What is printed of the events that a source yields, whatever its calls return.
use Rattle.std.specs.Prelude.{◌≡◌, ◌⊎◌, ℕ, true, List, Option, None, Some, Result, Err, MatchResult}
use Rattle.std.specs.Io.KnownBytes.{Appends}
use Rattle.plist_base.specs.declared.error.Error.{Error}
use Rattle.plist_base.specs.declared.source.Source.{Ghosts}
use Rattle.plist_base.specs.Events.{PlainEvent}
use Rattle.plist_base.specs.Faults.{Io, OutOfMemory, fault_without_offset, fault_of}
use Rattle.plist_base.specs.Prefixes.{AppendsPrefix}
use Rattle.plist_base.specs.Visits.{YieldsAll, PlainItem}
use Rattle.plist_binread.specs.BinaryReader.{Steps, is_new, binary_source}
use Rattle.plist_reader.specs.Reader.{BinaryReaderOf}
use Rattle.plist_print.specs.EscapedLines.{lines_of_events}
use Rattle.plist_print.specs.Printing.{CountsReads}

module _ {I : Type 0} (gives : I → PlainItem → I → Type 0) where
  -- the source was called at most once
  abbrev pub IsAskedOnce : (old new : I) → Type 0
  IsAskedOnce old new = (new ≡ old) ⊎ ((item : PlainItem) × gives old item new)

  -- a write failed, and the source was called at most once; or an allocation failed, and it wasn't
  -- called
  abbrev pub StopsPrinting : Error → (old new : I) → Type 0
  StopsPrinting error old new =
      ((fault_of error ≡ fault_without_offset Io) × IsAskedOnce old new)
      ⊎ ((fault_of error ≡ fault_without_offset OutOfMemory) × (new ≡ old))

  -- The source yielded events, whose lines were written, and then nothing, or the error that is
  -- returned. Or a prefix of the lines was written, and the error is that of a write or an
  -- allocation.
  abbrev pub PrintsRun : (old : I) → Result (Unit {0}) Error → (new : I)
      → (before after : Option (List ℕ)) → Type 0
  PrintsRun old answer new before after =
      (events : List PlainEvent) × (left : I) × YieldsAll gives old events left × MatchResult answer
      (λ _. gives left None new × Appends before after (lines_of_events events))
      (λ error. (gives left (Some (Err error)) new × Appends before after (lines_of_events events))
      ⊎ (StopsPrinting error left new × AppendsPrefix before after (lines_of_events events)))

-- what was printed of the events that a reader hadn't yielded yet
abbrev pub PrintsReader : {S : Type 0} {g : Ghosts S} → BinaryReaderOf S g → Result (Unit {0}) Error
    → BinaryReaderOf S g → (before after : Option (List ℕ)) → Type 0
PrintsReader old answer new before after = PrintsRun Steps old answer new before after

-- the events of a new reader of this source were printed, and its failed reads were counted
abbrev pub PrintsSource : {S : Type 0} (known : S → Option (List ℕ)) (failed : S → ℕ) (source : S)
    → Result (Unit {0}) Error → (before after : Option (List ℕ)) → Type 0
PrintsSource {S} known failed source answer before after =
    (reader : BinaryReaderOf S (record { known = known; failures = failed }))
    × (left : BinaryReaderOf S (record { known = known; failures = failed }))
    × (binary_source reader ≡ source) × (is_new reader ≡ true)
    × PrintsReader reader answer left before after
    × CountsReads answer (failed (binary_source reader)) (failed (binary_source left))
