use Rattle.std.proofs.Common.{◌≡◌, ◌+◌, ◌-◌, ◌*◌, ◌/◌, ◌≤◌, ◌∙◌, ap, arith, length, rules, take, drop}
use Rattle.std.proofs.Math.Nat.{div-mul-le_self}
use Rattle.plist_base.specs.Container.{number_of}
use Rattle.plist_decode.proofs.NumberRuns.{number_within, numbers_at_hand, numbers_more}
use Rattle.plist_decode.proofs.numbers.take_buffered.Goals as goal

pub loop-i-preserved : goal.loop-i-preserved
loop-i-preserved g c =
    let w = c.args.width in
    let seen = c.buffered-seen.result.now in
    let at = c.loop-i.i * w in
    let width : at + w - at ≡ w = omega arith in
    let within : at + w ≤ length seen =
    omega (
      arith,
      number_within w c.loop-i.i (length seen / w) (omega (arith, c.min-at_hand.ensures)),
      div-mul-le_self (length seen) w,
    ) in
    let number = c.number_from.ensures.value ∙ ap (λ k. number_of (take k (drop at seen))) width in
    record {
      len = search rules;
      capacity = search rules;
      items = numbers_more _ c.loop-i.numbers.items _ c.args.place w c.number_from.result
          c.push_reserved.ensures.items
          (numbers_at_hand _ seen c.loop-i.numbers.items c.args.place w c.len-read.result c.loop-i.i
          c.number_from.result within (search rules) number c.buffered-seen.ensures.bytes)
          c.loop-i.invariant.items;
    }
