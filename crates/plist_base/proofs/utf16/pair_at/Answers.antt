use Rattle.std.proofs.Common.{◌+◌, arith, get_or}
use Rattle.std.proofs.str.Utf16.{IsPair}
use Rattle.plist_base.specs.Container.{numbers_spelled}
use Rattle.plist_base.specs.Utf16.{unit_at}
use Rattle.plist_base.proofs.Utf16Units.{next_pair, nth_unit, unpaired}
use Rattle.plist_base.proofs.utf16.pair_at.Goals as goal

pub returns-then-low-lt56320 : goal.returns-then-low-lt56320
returns-then-low-lt56320 c =
    let at = c.args.at in
    let next = nth_unit c.args.bytes.now (at + 1) (omega (arith, c.if-bytes-at.false)) in
    unpaired _ at c.requires.within c.requires.surrogate.0 c.requires.surrogate.1
    (λ (pair : IsPair (unit_at c.args.bytes.now at)
    (get_or (numbers_spelled 2 c.args.bytes.now) (at + 1) 0)).
    elim c.then-low-lt56320.branch as (λ _. ⊥) [
      | goal.then-low-lt56320-via-then-low-lt56320 w ↦
          omega (arith, pair.2, next, c.unit_at-low.ensures.value, w.if-low-lt56320.true)
      | goal.then-low-lt56320-via-else-low-lt56320+then-low-ge57344 w ↦
          omega (arith, pair.3, next, c.unit_at-low.ensures.value, w.if-low-ge57344.true)
    ])

pub returns : goal.returns
returns c =
    let high = c.unit_at-high.ensures.value in
    let low = c.unit_at-low.ensures.value in
    next_pair _ c.args.at c.requires.within _ c.if-bytes-at.false (
      c.requires.surrogate.0,
      omega (arith, high, c.if-high-ge56320.false),
      omega (arith, low, c.if-low-lt56320.false),
      omega (arith, low, c.if-low-ge57344.false),
    )
    (omega (arith, c.from_u32_unchecked.ensures, high, low))
