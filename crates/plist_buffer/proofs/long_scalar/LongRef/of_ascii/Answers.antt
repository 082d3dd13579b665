use Rattle.plist_buffer.proofs.LongScalars.{ascii_long}
use Rattle.plist_buffer.proofs.TextUnits.{ascii_text}
use Rattle.plist_buffer.proofs.long_scalar.LongRef.of_ascii.Goals as goal

pub new-requires : goal.new-requires
new-requires c =
    ascii_long c.args.bytes.now c.if-bytes-gt8.true
    (ascii_text c.args.bytes.now (c.all_pass.ensures c.if-all_pass.true))
