use Rattle.std.proofs.Common.{drop, map}
use Rattle.plist_base.specs.Bracketing.{bracketing}
use Rattle.plist.specs.WrittenEvents.{TakesAll}
use Rattle.plist_uses.specs.Generated.{reading_tree, readings_tree}
use Rattle.plist_uses.proofs.WriterRuns.{events_left}
use Rattle.plist_uses.proofs.generated.write_readings.Given as goal

abbrev pub invariant-loop-reading : goal.invariant-loop-reading
invariant-loop-reading g l =
    (last : _) → TakesAll g.W.Writer.Step l.writer
    (events_left (map reading_tree (drop l.reading-index l.readings))) last
    → TakesAll g.W.Writer.Step l.fn.writer (bracketing (readings_tree l.fn.readings)) last
