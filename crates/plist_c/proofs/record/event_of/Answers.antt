use Rattle.plist_c.proofs.record.event_of.Goals as goal

pub returns-in-Err-clause-flaw : goal.returns-in-Err-clause-flaw
returns-in-Err-clause-flaw c = c.in-Err.ensures.flaw c.args.bytes.now
