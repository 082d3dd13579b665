use Rattle.std.proofs.lemmas.Option.{slice_get-get_or}
use Rattle.plist_c.proofs.Pushing.{pushed_none, pushed_step, rejected_at}
use Rattle.plist_c.proofs.write.push_records.Goals as goal

pub returns-in-Err-clause-rejected : goal.returns-in-Err-clause-rejected
returns-in-Err-clause-rejected c =
    rw c.outcome.ensures (rejected_at
    (record { events = c.args.records.now; bytes = c.args.bytes.now }) c.loop-index.index _
    c.loop-index.pending c.in-Err.rejection c.loop-index.invariant
    (slice_get-get_or c.args.records.now c.loop-index.index _ c.loop-index-test.true)
    c.in-Err.ensures.rejected)

pub loop-index-preserved : goal.loop-index-preserved
loop-index-preserved c =
    pushed_step c.args.bytes.now c.args.records.now c.loop-index.index _ c.loop-index.pending
    c.push_record.new.pending c.loop-index.invariant c.loop-index-test.true
    c.in_default.ensures.pushed

pub loop-index-init : goal.loop-index-init
loop-index-init c = pushed_none c.args.bytes.now c.args.pending.now c.requires.new
