use Rattle.std.proofs.Common.{◌∙◌}
use Rattle.plist_commands.proofs.ErrorMessages.{takes_sent}
use Rattle.plist_commands.proofs.messages.AnyMessages.report.Goals as goal
use Rattle.plist_commands.specs.Commands.{Fault, Usage, plain_failure_of}

pub returns-in-Usage : goal.returns-in-Usage
returns-in-Usage g c =
    rw c.in-Usage.is (takes_sent Usage c.send_line.result _ _ c.send_line.ensures.sent c.send_line.ensures.prefix)

pub returns-in_ok-line-in-Fault : goal.returns-in_ok-line-in-Fault
returns-in_ok-line-in-Fault g c =
    let text = c.as_bytes.ensures.value ∙ c.deref.ensures.0 ∙ c.in_ok-line-in-Fault.ensures in
    rw c.in-Fault.is
    (takes_sent (Fault (plain_failure_of c.in-Fault.failure.now)) c.send_line-in-Fault.result _ _
    (rw text at c.send_line-in-Fault.ensures.sent) (rw text at c.send_line-in-Fault.ensures.prefix))
