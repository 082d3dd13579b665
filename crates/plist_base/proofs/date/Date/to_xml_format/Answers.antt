use Rattle.std.proofs.Common.{◌∙◌, rules, sym, FitsSigned, w64}
use Rattle.std.proofs.lemmas.Int.{to_z-of_z}
use Rattle.plist_base.proofs.DateRounding.{text_at}
use Rattle.plist_base.proofs.date.Date.to_xml_format.Goals as goal

pub returns-in_ok-to_string-in-Some-clause-only : goal.returns-in_ok-to_string-in-Some-clause-only
returns-in_ok-to_string-in-Some-clause-only c =
    let fits : FitsSigned w64 c.unix_secs.result = search rules in
    let only = simp to_z-of_z at c.in-Some.ensures.only in
    λ text is. c.in_ok-to_string-in-Some.ensures.ok
    ∙ sym (only text (text_at c.args.self.now text c.unix_secs.result c.unix_secs.ensures.second
    is))
