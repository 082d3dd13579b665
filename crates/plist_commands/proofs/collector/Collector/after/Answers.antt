use Rattle.plist_commands.proofs.collector.Collector.after.Goals as goal

pub returns-in-Ok : goal.returns-in-Ok
returns-in-Ok c = λ before event taken.
    rw (c.end.ensures.stops, c.end.ensures.keeps, c.end.ensures.pending)
    (c.if-self.true, rw c.in-Ok.is at taken)
