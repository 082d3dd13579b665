use Rattle.std.proofs.Common.{◌+◌, drop, get_or, map, refl, arith}
use Rattle.std.proofs.lemmas.List.{drop_all, drop_more}
use Rattle.plist_uses.specs.Generated.{reading_tree}
use Rattle.plist_uses.proofs.WriterRuns.{none, number, item-more}
use Rattle.plist_uses.proofs.generated.write_readings.Goals as goal

pub loop-reading-init : goal.loop-reading-init
loop-reading-init g c = λ last took. (
  c.write_start_array.new.self,
  rw (number c.args.readings.now) at c.in_ok-write_start_array.ensures,
  took,
)

pub loop-reading-preserved : goal.loop-reading-preserved
loop-reading-preserved g c = λ last took.
    let reading = get_or c.args.readings.now c.loop-reading.reading-index none in
    let rest = drop (c.loop-reading.reading-index + 1) c.args.readings.now in
    c.loop-reading.invariant last
    (rw (drop_more c.args.readings.now c.loop-reading.reading-index none
    c.loop-reading-test.true) (item-more g.W.Writer.Step (reading_tree reading)
    (map reading_tree rest) c.loop-reading.writer
    c.write_reading.new.writer last c.in_ok-write_reading.ensures.written took))

pub returns : goal.returns
returns g c = record {
  written = c.loop-reading.invariant c.write_end_collection.new.self
      (rw (drop_all c.loop-reading.reading-index c.args.readings.now (omega arith))
      (c.write_end_collection.new.self, c.in_ok-write_end_collection.ensures, refl));
}
