use Rattle.std.proofs.Common.{inr, rules, refl, sym, ◌∙◌}
use Rattle.std.proofs.lemmas.Bool.{MatchBool-at_false}
use Rattle.std.proofs.lemmas.Result.{err_from_is_err_and}
use Rattle.plist_base.specs.Events.{event_of}
use Rattle.plist_base.specs.Faults.{fault_of}
use Rattle.plist_buffer.specs.EventTable.{plain_events}
use Rattle.plist_binwrite.proofs.SendingFiles.{takes_done, takes_refused, takes_unsent, same_state}
use Rattle.plist_binwrite.proofs.writer.FileWriterWriter.write.Goals as goal

pub returns-in-Err-Misplaced : goal.returns-in-Err-Misplaced
returns-in-Err-Misplaced g c =
    let r = rw c.in-Err-Misplaced.field-0-is at c.in-Err-Misplaced.ensures.refused in
    takes_refused c.args.self.now _ (event_of c.args.event) (search rules)
    (fault_of c.without_position-in-Err-Misplaced.result) r.0.0
    (c.without_position-in-Err-Misplaced.ensures.fault ∙ r.0.1)
    (same_state c.args.self.now c.try_push.new.self r.1 _)

pub returns-in_err-write_file : goal.returns-in_err-write_file
returns-in_err-write_file g c =
    let t = c.in-Ok.ensures.taken in
    let p = err_from_is_err_and c.from_residual.result c.from_residual.ensures.1 in
    rw (p.1, p.2) (takes_unsent c.args.self.now _ (event_of c.args.event) (search rules) t.0
    (plain_events c.events.result.now) (c.events.ensures ∙ t.1.0) _ refl
    c.in_err-write_file.ensures)

pub returns-else-is_whole : goal.returns-else-is_whole
returns-else-is_whole g c =
    let t = c.in-Ok.ensures.taken in
    takes_done c.args.self.now _ (event_of c.args.event) c.if-self.false t.0 c.if-self.false
    (inr (MatchBool-at_false _ _ (sym c.if-is_whole.ensures) t.1.1, t.1.0, refl))
