use Rattle.std.proofs.Common.{◌++◌, ap, append_assoc, refl, ◌∙◌}
use Rattle.plist_base.proofs.SinkSteps.{puts_pending, puts_then}
use Rattle.plist_binwrite.proofs.forms.put_marked.Goals as goal

pub returns : goal.returns
returns g c =
    let before = c.make_room.new.self.buffer.now in
    puts_then c.make_room.ensures.put
    (puts_pending (record { writer = refl; buffer = refl }) refl
    (c.push_array-2.ensures.pushed
    ∙ ap (λ l. l ++ c.args.bytes) (rw c.encode.ensures at c.push_array.ensures.pushed)
    ∙ append_assoc before _ c.args.bytes) refl)
