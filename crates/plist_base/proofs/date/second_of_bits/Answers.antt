use Rattle.std.proofs.Common.{◌≡◌, ◌+◌, ◌∙◌, pos, neg_ℤ, ◌-ℤ◌, ap, arith, to_z, of_z, w64}
use Rattle.std.proofs.lemmas.Int.{ints}
use Rattle.plist_base.specs.Date.{if_second_of_date}
use Rattle.plist_base.proofs.DateShifts.{below_zero, byte_small, from_zero}
use Rattle.plist_base.proofs.date.second_of_bits.Goals as goal

pub returns-then-bits : goal.returns-then-bits
returns-then-bits c =
    let (near, whole, fraction, small) = c.in_ok-whole.ensures.near in
    let second : to_z w64 c.in_ok-whole.whole ≡ pos c.in_ok-whole.whole =
    omega (arith, ints, small) in
    c.checked_second.ensures ∙ ap if_second_of_date second
    ∙ from_zero c.args.bits _ whole near c.if-bits.true

pub returns : goal.returns
returns c =
    let (near, whole, fraction, small) = c.in_ok-whole.ensures.near in
    let up = c.in_ok-whole.whole + c.from.result in
    let second : to_z w64 (of_z w64 (pos 0 -ℤ to_z w64 up)) ≡ neg_ℤ (pos up) =
    omega (arith, ints, small, byte_small c.in_ok-whole.has_fraction, c.from.ensures) in
    c.checked_second-2.ensures ∙ ap if_second_of_date second
    ∙ below_zero c.args.bits _ whole near _ _ fraction c.from.ensures c.if-bits.false
