-- What a printer does when it takes an event.
use Rattle.std.specs.Prelude.{◌≡◌, ℕ, List, Option, false, true}
use Rattle.std.specs.declared.ops.ControlFlow.TheVariants.{Continue, Break}
use Rattle.plist_base.specs.Events.{PlainEvent}
use Rattle.plist_base.specs.Sinks.{Puts, is_open}
use Rattle.plist_base.specs.Visits.{Flow}
use Rattle.plist_print.specs.declared.printer.Printer.{Printer}
use Rattle.plist_print.specs.EscapedLines.{line_of}

module _ {W : Type 0} (contents : W → Option (List ℕ)) where
  -- The bytes are put into the sink, after the pending lines. `Continue` means that no write has
  -- failed, if none had before, and `Break` that one has failed.
  pub record PrintsBytes (old : Printer W) (bytes : List ℕ) (flow : Flow) (new : Printer W) : Type 0
    where
      pub put : Puts contents old.sink bytes new.sink
      pub working : flow ≡ Continue tt → is_open old.sink ≡ true → is_open new.sink ≡ true
      pub stopped : flow ≡ Break tt → is_open new.sink ≡ false

  -- the line of the event is put into the sink
  abbrev pub PrintsLine : (old : Printer W) → PlainEvent → Flow → (new : Printer W) → Type 0
  PrintsLine old event flow new = PrintsBytes old (line_of event) flow new
