use Rattle.std.proofs.Common.{◌≡◌, ◌<◌, ◌++◌, ◌∙◌, ap, arith, codes, sym, true, ℕ}
use Rattle.std.proofs.lemmas.List.{append_assoc}
use Rattle.plist_print.specs.EscapedLines.{stands_for_itself}
use Rattle.plist_print.proofs.ScalarLines.{plain_text}
use Rattle.plist_print.proofs.plain_bytes.push_plain_line.Goals as goal

-- a byte that is printed as it is is ASCII
plain_ascii : (byte : ℕ) → stands_for_itself byte ≡ true → byte < 128
plain_ascii byte plain = grind (arith, plain)

pub returns-clause-pushed : goal.returns-clause-pushed
returns-clause-pushed c passes =
    rw (plain_text _ (c.push_passing.ensures.passed passes))
    (c.push_passing.ensures.pushed passes
    ∙ ap (λ line. c.args.line.now ++ line)
    (sym (append_assoc (codes "String \"" ++ c.args.text.now) (codes "\"") (codes "\n"))))

pub returns-clause-ascii : goal.returns-clause-ascii
returns-clause-ascii c passes = λ i below. plain_ascii _ (c.push_passing.ensures.passed passes i below)
