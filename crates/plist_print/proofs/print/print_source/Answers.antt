use Rattle.std.proofs.lemmas.Result.{err_from_is_err_and}
use Rattle.plist_print.proofs.Printers.{run_kept}
use Rattle.plist_print.proofs.print.print_source.Goals as goal

pub returns-in_err-sent : goal.returns-in_err-sent
returns-in_err-sent g c =
    let f = err_from_is_err_and c.from_residual.result c.from_residual.ensures.1 in
    rw (f.1, f.2) (run_kept g.I.EventSource.yields _ _ _ _ _ _ c.in_err-sent.ensures
    c.flush-flushed.ensures.unchanged)
