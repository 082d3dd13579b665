use Rattle.std.proofs.Common.{arith, ◌/◌, length}
use Rattle.std.proofs.lemmas.Grind.{common_steps}
use Rattle.plist_print.proofs.Blocks.{chunks_digits}
use Rattle.plist_print.proofs.hexadecimal.push_blocks.Goals as goal

pub returns-clause-pushed : goal.returns-clause-pushed
returns-clause-pushed g c =
    grind (arith, common_steps, chunks_digits g.row.N (length c.args.bytes.now / g.row.N) c.args.bytes.now)
