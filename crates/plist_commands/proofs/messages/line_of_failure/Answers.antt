use Rattle.plist_commands.proofs.ErrorMessages.{line_written}
use Rattle.plist_commands.proofs.messages.line_of_failure.Goals as goal

pub returns-in-Ok : goal.returns-in-Ok
returns-in-Ok c =
    line_written c.new-line.result c.writeln.new.self _ c.new-line.ensures c.in-Ok.ensures.writes
