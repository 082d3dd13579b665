use Rattle.std.proofs.Common.{◌≡◌, ℕ, List, Result, Ok, Err}
use Rattle.std.specs.Prelude.{IfOk, String, string_bytes}
use Rattle.std.specs.declared.alloc.Global.{Global}
use Rattle.plist_base.specs.declared.error.Error.{Error}
use Rattle.plist_base.specs.DateTexts.{PrintsOnly}
use Rattle.plist_callers.proofs.dates.text_again.Goals as goal

-- if only one text can be printed under a premise, then what is printed under it is that text
prints_under : {P : Type 0} (text : List ℕ) (answer : Result (String Global) Error)
    → (P → PrintsOnly text answer) → IfOk answer (λ printed. P → string_bytes printed ≡ text)
prints_under text (Ok printed) h = h
prints_under text (Err error) h = tt

pub returns-clause-same : goal.returns-clause-same
returns-clause-same c =
    prints_under c.args.text.now c.to_xml_format.result
    (λ utc. c.to_xml_format.ensures.only c.args.text.now (c.in_ok-date.ensures.prints utc))
