use Rattle.std.proofs.Common.{◌≡◌, arith}
use Rattle.plist_binwrite.specs.inner.Numbering.{stored_number}
use Rattle.plist_binwrite.proofs.NumberingSteps.{numbers_more}
use Rattle.plist_binwrite.proofs.plan.Numbering.number_one.Goals as goal

pub returns-clause-numbers : goal.returns-clause-numbers
returns-clause-numbers c =
    let old = c.args.self.now in
    let none : stored_number c.args.given.now old c.args.index ≡ 0 =
    rw (← c.class_at-class.ensures) (omega arith) in
    rw (c.in_ok-set.ensures.set, c.in-Some.ensures.1, c.class_at-class.ensures)
    (numbers_more c.requires.so_far c.args.index c.requires.item none c.in-Some.ensures.0
    (λ t s. rw (← c.requires.width) (c.size_of_object.ensures.size t s))
    c.saturating_add-self.ensures c.size_of_object.ensures.writable)
