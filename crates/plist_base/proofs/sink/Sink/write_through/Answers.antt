use Rattle.std.proofs.Common.{ap, refl, ◌++◌}
use Rattle.plist_base.proofs.SinkSteps.{puts_past, puts_then}
use Rattle.plist_base.proofs.sink.Sink.write_through.Goals as goal

pub returns : goal.returns
returns g c =
    let wrote = c.write_pending.ensures in
    puts_then wrote.put (puts_past (record { writer = refl; buffer = refl })
    (ap (λ l. l ++ c.args.bytes.now) wrote.empty) wrote.empty c.write.ensures)
