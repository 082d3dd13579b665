use Rattle.std.proofs.Common.{rules}
use Rattle.std.proofs.lemmas.Nat.{be_bytes_8}
use Rattle.plist_base.proofs.packed_scalar.content_from.Goals as goal

pub returns : goal.returns
returns c = be_bytes_8 _ _ (search rules) (search rules) c.from_be_bytes.ensures
