use Rattle.std.proofs.Common.{◌++◌, ap, length}
use Rattle.std.proofs.lemmas.List.{drop-replicate}
use Rattle.plist_base.proofs.packed_scalar.padded_number.Goals as goal

pub returns : goal.returns
returns c = rw (c.content_from.ensures, c.copy_from_slice.ensures.after)
    (ap (λ zeros. c.args.bytes.now ++ zeros) (drop-replicate (length c.args.bytes.now) 8 0))
