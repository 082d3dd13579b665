use Rattle.std.proofs.Common.{refl, ap, vec_items}
use Rattle.std.proofs.lemmas.Str.{IsUtf8-string_bytes, is_utf8-from_IsUtf8, IsUtf8-from_is_utf8}
use Rattle.std.proofs.lemmas.Bool.{false_from_ne_true, false≢true}
use Rattle.plist_ascii.proofs.text.text_of.Goals as goal

pub returns-in-Ok-clause-value : goal.returns-in-Ok-clause-value
returns-in-Ok-clause-value c =
    let same = ap vec_items c.in-Ok.ensures.ok in
    let text = is_utf8-from_IsUtf8 _ (IsUtf8-string_bytes c.in-Ok.text) in
    (rw same at text, same)

pub returns-clause-fault : goal.returns-clause-fault
returns-clause-fault c =
    let never = c.in-Err.ensures.succeeds in
    (false_from_ne_true _ (λ t. false≢true (never (IsUtf8-from_is_utf8 _ t))), refl)
