use Rattle.std.proofs.Common.{◌∙◌, ap, encode_utf8_all, subst, sym, IsUtf8}
use Rattle.plist_base.proofs.Utf16Forms.{utf8_of_valid}
use Rattle.plist_decode.proofs.utf16.write_utf8.Goals as goal

pub from_utf8_unchecked-requires : goal.from_utf8_unchecked-requires
from_utf8_unchecked-requires c =
    let string = c.args.string in
    subst IsUtf8 (sym (c.write_chars.ensures ∙ ap encode_utf8_all c.chars.ensures))
    (utf8_of_valid string.bytes.now string.valid)
