use Rattle.std.proofs.Common.{Ok, Some, ap, take, ◌∙◌}
use Rattle.std.specs.Prelude.{◌-◌, ◌^◌}
use Rattle.plist_ascii.specs.AsciiReader.{place_of}
use Rattle.plist_ascii.specs.Texts.{ends_bare}
use Rattle.plist_callers.proofs.SmallInputs.{no_string_first}
use Rattle.plist_callers.proofs.ascii.comment_closed_too_early.Goals as goal

pub returns-in-Some-Ok-String : goal.returns-in-Some-Ok-String
returns-in-Some-Ok-String c =
    let s = c.in-Some-Ok-String in
    let new = c.new-reader.ensures in
    let given = c.next.ensures.steps.inner.takes _ new.bytes in
    absurd (no_string_first _ _ given.0 _ (place_of c.next.new.self) c.next.result s.field-0-0-0
    (s.is ∙ ap Some (s.field-0-is ∙ ap Ok s.field-0-0-is)) (ap ends_bare new.dialect)
    (ap (take (2 ^ 64 - 1)) c.requires) new.place given.2)
