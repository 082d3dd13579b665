use Rattle.std.proofs.Common.{arith}
use Rattle.plist_decode.proofs.Digits.{digit_fits}
use Rattle.plist_decode.proofs.numbers.number_from_each.Goals as goal

pub overflow_mul-number : goal.overflow_mul-number
overflow_mul-number c =
    omega (
      arith,
      digit_fits _ 0 _ c.loop-byte.invariant.small
          (omega arith) (omega arith),
    )
