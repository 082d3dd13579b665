use Rattle.std.proofs.Common.{◌≡◌, arith, get_or, sym, ◌∙◌}
use Rattle.plist_binwrite.specs.inner.Layout.{number_of_event}
use Rattle.plist_binwrite.proofs.PuttingObjects.{number_told, puts_first}
use Rattle.plist_binwrite.proofs.send.put_once.Goals as goal

pub returns : goal.returns
returns g c =
    let free : get_or c.args.offsets.now (number_of_event c.args.plan.now c.args.index) 0 ≡ 0 =
    rw (← c.object_number-number.ensures) (omega (arith, c.if-offsets-number-ne0.false)) in
    rw c.object_number-number.ensures
    (puts_first c.requires.plan c.args.index c.requires.item free
    (sym c.is_open.ensures ∙ c.if-not-is_open.false) c.unwrap_or.result
    (λ n put. number_told c.position.result _ _ c.unwrap_or.ensures n (c.position.ensures n put))
    c.put_object.ensures)
