use Rattle.std.proofs.Common.{refl}
use Rattle.std.proofs.lemmas.Result.{err_from_is_err_and}
use Rattle.plist.proofs.BuiltVisits.{collected_end, collected_error, collected_stop}
use Rattle.plist.proofs.collect.collect_visited.Goals as goal

pub returns-in_err-visit : goal.returns-in_err-visit
returns-in_err-visit g c =
    let f = err_from_is_err_and c.from_residual.result c.from_residual.ensures.1 in
    rw (f.1, f.2) (collected_error g.S.EventSource.yields _ _ c.new.ensures refl
    c.in_err-visit.field-0.0 c.in_err-visit.ensures)

pub returns-in_err-result : goal.returns-in_err-result
returns-in_err-result g c =
    let f = err_from_is_err_and c.from_residual-in_err-result.result
    c.from_residual-in_err-result.ensures.1 in
    rw (f.1, f.2) (collected_stop g.S.EventSource.yields _ _ c.new.ensures refl
    c.in_err-result.field-0.0 c.in_ok-visit.field-0 c.in_ok-visit.ensures (c.in_err-result.was))

pub returns : goal.returns
returns g c =
    collected_end g.S.EventSource.yields _ _ c.new.ensures refl c.finish.result
    c.in_ok-visit.field-0 c.in_ok-visit.ensures (c.in_ok-result.was) c.finish.ensures.complete
    c.finish.ensures.refused
