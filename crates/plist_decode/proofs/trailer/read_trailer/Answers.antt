use Rattle.std.proofs.Common.{rules}
use Rattle.plist_decode.proofs.Heads.{trailer_read}
use Rattle.plist_decode.proofs.trailer.read_trailer.Goals as goal

pub returns-clause-value : goal.returns-clause-value
returns-clause-value g c =
    trailer_read _ c.read_exact_at.new.buf c.args.trailer _ (search rules) (search rules)
    c.in_ok-read_exact_at.ensures.bytes
