use Rattle.std.proofs.Common.{rules, ◌≡◌, Some, w64, to_z, of_z}
use Rattle.plist_base.specs.Date.{real_bits, second_of_bits}
use Rattle.plist_base.proofs.DateRounding.{second_facts}
use Rattle.plist_base.proofs.date.Date.plist_secs.Goals as goal

pub returns-clause-greatest : goal.returns-clause-greatest
returns-clause-greatest c =
    let e : second_of_bits (real_bits c.args.self.now)
    ≡ Some (to_z w64 (of_z w64 c.unwrap.result)) = search rules in
    (second_facts (real_bits c.args.self.now) _ e).0

pub returns-clause-in_range : goal.returns-clause-in_range
returns-clause-in_range c =
    let e : second_of_bits (real_bits c.args.self.now)
    ≡ Some (to_z w64 (of_z w64 c.unwrap.result)) = search rules in
    (second_facts (real_bits c.args.self.now) _ e).1
