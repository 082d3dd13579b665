use Rattle.std.proofs.lemmas.Result.{err_from_is_err_and}
use Rattle.plist_base.specs.Sinks.{IsSameSink}
use Rattle.plist_print.proofs.Printers.{prints_before, prints_part, prints_whole, visits_same}
use Rattle.plist_print.proofs.printer.Printer.print_all.Goals as goal
use Rattle.plist_print.proofs.printer.Printer.print_all.Goals.{After-result}

same : (g : _) (c : After-result g) → IsSameSink c.args.self.now.sink c.write_pending.new.self
same g c = visits_same g.I.EventSource.yields g.W.Write.contents c.visit-visited.result
    c.visit-visited.ensures c.write_pending.ensures.put

pub returns : goal.returns
returns g c =
    let wrote = c.write_pending.ensures in
    record {
      ran = prints_whole g.I.EventSource.yields g.W.Write.contents c.requires wrote.put
          c.in_ok-result.ensures.working wrote.empty c.in_ok-visited.field-0 c.in_ok-visited.ensures;
      same = same g (goal.at.returns g c).After-result;
    }

pub returns-in_err-result : goal.returns-in_err-result
returns-in_err-result g c =
    let f = err_from_is_err_and c.from_residual.result c.from_residual.ensures.1 in
    record {
      ran = rw (f.1, f.2) (prints_part g.I.EventSource.yields g.W.Write.contents c.requires
          c.write_pending.ensures.put c.visit-visited.result c.visit-visited.ensures
          c.in_err-result.field-0.0 c.in_err-result.ensures.fault);
      same = same g (goal.at.returns-in_err-result g c).After-result;
    }

pub returns-in_err-visited : goal.returns-in_err-visited
returns-in_err-visited g c =
    let wrote = c.write_pending.ensures in
    let f = err_from_is_err_and c.from_residual-in_err-visited.result
    c.from_residual-in_err-visited.ensures.1 in
    record {
      ran = rw (f.1, f.2) (prints_before g.I.EventSource.yields g.W.Write.contents c.requires
          wrote.put c.in_ok-result.ensures.working wrote.empty c.in_err-visited.field-0.0
          c.in_err-visited.ensures);
      same = same g (goal.at.returns-in_err-visited g c).After-result;
    }
