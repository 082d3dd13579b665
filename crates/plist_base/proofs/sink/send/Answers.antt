use Rattle.std.proofs.Common.{rules}
use Rattle.std.proofs.lemmas.List.{take_rest}
use Rattle.plist_base.proofs.WriterBytes.{Appends-part, front_kept, front_none}
use Rattle.plist_base.proofs.sink.send.Goals as goal

pub loop-done-preserved : goal.loop-done-preserved
loop-done-preserved g c = record {
  within = let len = rw take_rest at c.in-Ok.ensures.bound in search (rules, len);
  sent = Appends-part _ _ _ c.args.bytes.now c.loop-done.done c.in-Ok.count
      c.loop-done.invariant.sent (rw (take_rest c.args.bytes.now c.loop-done.done) at
      c.in-Ok.ensures.bytes);
}

pub returns-in-Ok-eq0-clause-prefix : goal.returns-in-Ok-eq0-clause-prefix
returns-in-Ok-eq0-clause-prefix g c =
    front_none _ _ _ c.args.bytes.now c.loop-done.done c.loop-done.invariant.sent
    (rw c.in-Ok-eq0.field-0-test at c.in-Ok-eq0.ensures.bytes)

pub returns-in-Err-clause-prefix : goal.returns-in-Err-clause-prefix
returns-in-Err-clause-prefix g c =
    front_kept _ _ _ c.args.bytes.now c.loop-done.done c.loop-done.invariant.sent
    c.in-Err.ensures.bytes
