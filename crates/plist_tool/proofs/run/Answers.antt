use Rattle.plist_tool.proofs.Runs.{runs}
use Rattle.plist_tool.proofs.run.Goals as goal

pub returns-clause-runs : goal.returns-clause-runs
returns-clause-runs g c =
    let ran = c.run_words.ensures in
    runs g.E.Messages.reports _ c.run_words.result c.args.out.now c.run_words.new.out c.args.err.now
    c.run_words.new.err ran.wrong ran.silent ran.usage ran.ends
