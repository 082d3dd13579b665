use Rattle.std.proofs.Common.{Ok, Err, refl, rules}
use Rattle.std.proofs.lemmas.Result.{err_from_is_err_and}
use Rattle.plist_base.proofs.Copying.{copied_to_end, copied_to_error, same_writer}
use Rattle.plist_base.proofs.copy.copy_events.Goals as goal

pub returns-in_err-visit : goal.returns-in_err-visit
returns-in_err-visit g c =
    let f = err_from_is_err_and c.from_residual.result c.from_residual.ensures.1 in
    let visit = c.in_err-visit.ensures in
    let same = same_writer g.S.EventSource.yields g.W.Writer.Step (Err c.in_err-visit.field-0.0) _ _ visit in
    rw (f.1, f.2) (copied_to_error g.S.EventSource.yields g.W.Writer.Step _ _ _ _ (search rules)
    (search rules) c.in_err-visit.field-0.0 visit)

pub returns : goal.returns
returns g c =
    let visit = c.in_ok-visit.ensures in
    let same = same_writer g.S.EventSource.yields g.W.Writer.Step (Ok c.in_ok-visit.field-0) _ _ visit in
    copied_to_end g.S.EventSource.yields g.W.Writer.Step _ _ _ _ (search rules) (search rules)
    c.in_ok-visit.field-0 refl visit
