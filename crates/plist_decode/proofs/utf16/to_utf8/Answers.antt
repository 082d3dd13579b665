use Rattle.std.proofs.Common.{◌∙◌, ap, encode_utf8_all, subst, sym, IsUtf8}
use Rattle.plist_base.specs.Utf16Strings.{string_of_utf16}
use Rattle.plist_base.proofs.Utf16Forms.{utf8_of_valid}
use Rattle.plist_decode.proofs.Utf16Writing.{whole_text}
use Rattle.plist_decode.proofs.utf16.to_utf8.Goals as goal

pub from_utf8_unchecked-requires : goal.from_utf8_unchecked-requires
from_utf8_unchecked-requires c =
    let text = c.args.text in
    subst IsUtf8 (sym (whole_text c.write_chars.new.text _ (string_of_utf16 text)
    (c.write_chars.ensures ∙ ap encode_utf8_all c.chars.ensures)
    (c.in_ok-decoded.ensures.len ∙ c.len_utf8.ensures))) (utf8_of_valid text.bytes.now text.valid)
