use Rattle.std.proofs.Common.{ap, rules, sym, ◌∙◌}
use Rattle.std.proofs.lemmas.Nat.{be_bytes_8}
use Rattle.plist_base.specs.Object.{date}
use Rattle.plist_decode.proofs.fixed_content.decode_date.Goals as goal

pub returns-in-Some : goal.returns-in-Some
returns-in-Some c = λ width first more whole.
    let back = be_bytes_8 c.in-Some.bytes _ (search rules) (search rules) c.from_be_bytes.ensures in
    c.in-Some.ensures.content _ date ∙ ap date (sym back)
