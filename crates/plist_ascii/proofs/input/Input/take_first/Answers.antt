use Rattle.std.proofs.Common.{refl, arith}
use Rattle.plist_ascii.proofs.UnreadBytes.{window_taken}
use Rattle.plist_ascii.proofs.input.Input.take_first.Goals as goal

pub returns-then-is_none-clause-bytes : goal.returns-then-is_none-clause-bytes
returns-then-is_none-clause-bytes g c = λ xs e.
    window_taken _ _ _ _ _ _ _ xs (rw c.if-is_none.ensures refl)
    (omega arith) c.requires.within c.consume.ensures.bytes e
