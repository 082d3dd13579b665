use Rattle.std.proofs.Common.{take}
use Rattle.plist_c.specs.inner.Writing.{HasPushed}
use Rattle.plist_c.proofs.write.push_records.Given as goal

abbrev pub invariant-loop-index : goal.invariant-loop-index
invariant-loop-index l = HasPushed l.bytes (take l.index l.records) l.pending
