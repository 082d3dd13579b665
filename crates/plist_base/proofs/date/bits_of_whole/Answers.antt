use Rattle.std.proofs.Common.{arith, refl}
use Rattle.plist_base.specs.Date.{whole_bits}
use Rattle.plist_base.proofs.DateEncoding.{encoded}
use Rattle.plist_base.proofs.date.bits_of_whole.Goals as goal

pub returns-then-number-eq0-clause-is : goal.returns-then-number-eq0-clause-is
unfolding whole_bits
returns-then-number-eq0-clause-is c = rw c.if-number-eq0.true refl

pub overflow_sub-result-2 : goal.overflow_sub-result-2
overflow_sub-result-2 c =
    let k = encoded c.args.number (omega arith) c.requires in omega
    (arith, k.zeros, k.small, c.from-zeros.ensures)
