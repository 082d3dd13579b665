use Rattle.std.proofs.Common.{arith, subst, sym, ◌∙◌}
use Rattle.std.proofs.lemmas.Str.{is_utf8-from_IsUtf8}
use Rattle.std.specs.Str.{IsUtf8}
use Rattle.plist_ascii.specs.Unread.{stops}
use Rattle.plist_ascii.proofs.FrontTexts.{bare_begins}
use Rattle.plist_ascii.proofs.borrowed.bare_front.Goals as goal

pub returns-else-may_be_number-clause-text : goal.returns-else-may_be_number-clause-text
returns-else-may_be_number-clause-text c =
    let text = c.in-Ok.ensures.cases in
    let split = c.in_ok-first.ensures.cases in
    let count = c.run_length-count.ensures in
    rw split.0 (bare_begins (stops c.args.stop) c.in_ok-first.first.now c.in_ok-first.rest.now _
    c.in-Ok.text.now (sym c.lead_of.ensures ∙ c.in-Bare.is) (omega (arith, count.run))
    (omega (arith, count.run, count.within)) (rw split.0 at text.0)
    (is_utf8-from_IsUtf8 _ (subst IsUtf8 (sym text.0) text.1))
    (c.may_be_number.ensures c.if-may_be_number.false))
