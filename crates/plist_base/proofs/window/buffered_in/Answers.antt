use Rattle.std.proofs.Common.{arith, ◌+◌, ◌*◌, ◌%◌}
use Rattle.plist_base.proofs.WindowParts.{cut, lends_part}
use Rattle.plist_base.proofs.window.buffered_in.Goals as goal

pub returns : goal.returns
returns c = record {
  bytes = lends_part c.args.size c.args.place c.in-Some.i _ _ _ _ c.in-Some.ensures.start (omega arith)
      (cut _ _ (c.in-Some.i * (c.args.size + 64) + c.args.place % c.args.size) c.args.bytes.now c.min.ensures);
}
