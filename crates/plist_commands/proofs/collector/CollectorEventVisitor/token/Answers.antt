use Rattle.std.proofs.Common.{◌∙◌}
use Rattle.plist_commands.specs.CollectorSteps.{collected}
use Rattle.plist_commands.proofs.CollectorTokens.{last_buffered}
use Rattle.plist_commands.proofs.collector.CollectorEventVisitor.token.Goals as goal

pub returns-in-Ok : goal.returns-in-Ok
returns-in-Ok c = λ old event taken some.
    last_buffered (collected old) (collected c.args.self.now) event c.in-Ok.token taken.1.1.0
    (c.in-Ok.ensures.1 ∙ c.len.ensures)
