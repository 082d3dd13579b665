use Rattle.std.proofs.Common.{subst}
use Rattle.std.proofs.lemmas.Str.{IsUtf8-from_is_utf8}
use Rattle.plist_base.specs.Packing.{IsPackable, scalar_of_kind}
use Rattle.plist_base.proofs.packed_scalar.PackedScalar.text_in.Goals as goal

pub from_utf8_unchecked-requires : goal.from_utf8_unchecked-requires
from_utf8_unchecked-requires c =
    let packable = subst (λ kind. IsPackable (scalar_of_kind kind c.args.self.content)) c.requires.kind c.args.self.packed.packable in
    rw (c.requires.bytes, c.from.ensures) (IsUtf8-from_is_utf8 _ packable.1)
