use Rattle.std.proofs.Common.{◌≤◌, length}
use Rattle.plist_base.specs.FixedBuffers.{room}
use Rattle.plist_base.specs.Utf16Strings.{chars_left}
use Rattle.plist_print.proofs.Utf16Lines.{PrintsChars}
use Rattle.plist_print.proofs.printer.Printer.print_chars.Given as goal

abbrev pub invariant-loop-self : goal.invariant-loop-self
invariant-loop-self g l = record {
  printed : PrintsChars g.W.Write.contents (chars_left l.fn.chars) l.fn.self (chars_left l.chars)
      l.self;
  room : 32 ≤ room l.self.sink.buffer.now;
}

abbrev pub decreases-loop-self : goal.decreases-loop-self
decreases-loop-self g l = length (chars_left l.chars)
