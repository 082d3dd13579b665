use Rattle.std.proofs.Common.{ap, arith, length, sym, ◌∙◌}
use Rattle.plist_binread.proofs.OpenObjects.{IsOpen-none}
use Rattle.plist_binread.proofs.walk.Walk.new.Goals as goal

pub invariant_of-result : goal.invariant_of-result
invariant_of-result c = record {
  same = ap length c.new-2.ensures.items ∙ sym (ap length c.new.ensures.items);
  path = IsOpen-none 0 _ _ c.new.ensures.items (ap length c.new-3.ensures);
  packed = λ number below. absurd (omega (arith, below, ap length c.new.ensures.items));
}
