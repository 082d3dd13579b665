use Rattle.std.proofs.Common.{◌≡◌, ◌-◌, get_or, ap, arith, ◌∙◌}
use Rattle.plist_buffer.specs.inner.Entries.{index_after_at}
use Rattle.plist_buffer.proofs.Columns.{end_number, long_columns, start_number}
use Rattle.plist_buffer.proofs.entries.Entries.collection_number.Goals as goal
use Rattle.plist_buffer.proofs.entries.Entries.collection_number.Goals.{After-get-after}

-- the first number is the index after the collection
after_is : (c : After-get-after) → c.get-after.result ≡ index_after_at c.args.self.now c.args.index
after_is c =
    c.get-after.ensures
    ∙ start_number c.self.invariant c.self.view_is c.args.index c.requires.start

pub get-after-requires : goal.get-after-requires
get-after-requires c =
    omega (arith, (long_columns c.self.invariant c.self.view_is).1)

pub overflow_sub-after : goal.overflow_sub-after
overflow_sub-after c =
    omega (arith, after_is (goal.at.overflow_sub-after c).After-get-after)

pub get-requires : goal.get-requires
get-requires c = omega (arith, after_is (goal.at.get-requires c).After-get-after, (long_columns c.self.invariant c.self.view_is).1)

pub returns : goal.returns
returns c =
    c.get.ensures
    ∙ ap (λ n. get_or c.self.inside.numbers (n - 1) 0) (after_is (goal.at.returns c).After-get-after)
    ∙ end_number c.self.invariant c.self.view_is _
    (omega arith) c.requires.end
