use Rattle.std.proofs.Common.{subst, sym, ◌∙◌}
use Rattle.std.proofs.lemmas.Str.{is_utf8-from_IsUtf8}
use Rattle.std.specs.Str.{IsUtf8}
use Rattle.plist_ascii.proofs.FrontTexts.{quoted_begins}
use Rattle.plist_ascii.proofs.borrowed.quoted_front.Goals as goal

pub returns-in-Ok-clause-text : goal.returns-in-Ok-clause-text
returns-in-Ok-clause-text c =
    let text = c.in-Ok.ensures.cases in
    let first = c.in_ok-first.first.now in
    let end = c.in_ok-end.ensures.lookup in
    rw (c.in_ok-first.ensures.cases.0) (quoted_begins first c.in_ok-first.rest.now _
    c.in-Ok.text.now (sym c.lead_of.ensures ∙ c.in-Quote.is) c.run_length-count.ensures.run
    end.3.0 (sym c.if-end-first.false ∙ end.3.1 first) text.0
    (is_utf8-from_IsUtf8 _ (subst IsUtf8 (sym text.0) text.1)))
