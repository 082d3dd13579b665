use Rattle.std.proofs.Common.{◌∙◌, sym}
use Rattle.plist_buffer.proofs.LongScalars.{ascii_valid}
use Rattle.plist_buffer.proofs.long_scalar.LongScalar.get.Goals as goal

pub from_utf8_unchecked-requires : goal.from_utf8_unchecked-requires
from_utf8_unchecked-requires c =
    rw c.bytes-bytes.ensures
    (ascii_valid _ _ c.args.self.now.stored (sym c.form.ensures ∙ c.in-Ascii.is))
