use Rattle.std.proofs.Common.{◌++◌, append_assoc, refl, ◌∙◌}
use Rattle.std.specs.Int.{bytes_high_first}
use Rattle.plist_base.proofs.SinkSteps.{puts_pending, puts_then}
use Rattle.plist_binwrite.proofs.forms.put_marked_number.Goals as goal

pub returns : goal.returns
returns g c =
    let before = c.make_room.new.self.buffer.now in
    let marked = rw c.encode.ensures at c.push_array.ensures.pushed in
    puts_then c.make_room.ensures.put
    (puts_pending (record { writer = refl; buffer = refl }) refl
    (c.push_first.ensures.pushed
    ∙ (λ i. marked i ++ c.front_of.ensures i)
    ∙ append_assoc before _ (bytes_high_first c.args.width c.args.number)) refl)
