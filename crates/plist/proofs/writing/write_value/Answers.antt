use Rattle.plist.proofs.WriterEvents.{copy_writes}
use Rattle.plist.proofs.writing.write_value.Goals as goal

pub returns : goal.returns
returns g c = record {
  written = rw (← c.events.ensures.items) (copy_writes g.W.Writer.Step _ _ c.copy_events.result
      c.copy_events.ensures);
}
