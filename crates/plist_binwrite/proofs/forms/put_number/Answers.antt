use Rattle.std.proofs.Common.{◌++◌, ap, refl, ◌∙◌}
use Rattle.plist_base.proofs.SinkSteps.{puts_pending, puts_then}
use Rattle.plist_binwrite.proofs.forms.put_number.Goals as goal

pub returns : goal.returns
returns g c =
    let before = c.make_room.new.self.buffer.now in
    puts_then c.make_room.ensures.put
    (puts_pending (record { writer = refl; buffer = refl }) refl
    (c.push_first.ensures.pushed ∙ ap (λ l. before ++ l) c.front_of.ensures) refl)
