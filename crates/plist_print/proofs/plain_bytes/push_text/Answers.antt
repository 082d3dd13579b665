use Rattle.std.proofs.Common.{◌++◌, ◌∙◌, ap, append-nil}
use Rattle.plist_print.proofs.ScalarLines.{plain_text}
use Rattle.plist_print.proofs.plain_bytes.push_text.Goals as goal

pub returns-else-not-push_passing-clause-pushed : goal.returns-else-not-push_passing-clause-pushed
returns-else-not-push_passing-clause-pushed c =
    rw (plain_text _ (c.push_passing.ensures.passed c.if-not-push_passing.false))
    (c.push_passing.ensures.pushed c.if-not-push_passing.false
    ∙ ap (λ bytes. c.args.line.now ++ bytes) (append-nil c.args.text.now))
