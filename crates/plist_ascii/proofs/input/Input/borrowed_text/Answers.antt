use Rattle.std.proofs.Common.{◌+◌, arith, refl}
use Rattle.std.proofs.lemmas.List.{take_rest}
use Rattle.plist_ascii.specs.Unread.{stops}
use Rattle.plist_ascii.proofs.FrontTexts.{begins_some, front_leads}
use Rattle.plist_ascii.proofs.input.Input.borrowed_text.Goals as goal

pub returns-clause-text : goal.returns-clause-text
returns-clause-text g c = λ xs e.
    let h = c.at_hand-bytes.ensures.next xs e in
    front_leads c.args.stop c.at_hand-bytes.result.now _ h.0 xs _ _ c.in_ok-front.front.count
    (c.run_length-blanks.result + c.in_ok-front.front.count) _
    c.at_hand-bytes.ensures.hand h.1 c.run_length-blanks.ensures.run
    (take_rest c.at_hand-bytes.result.now c.run_length-blanks.result) c.in_ok-front.ensures.text refl

pub returns-clause-some : goal.returns-clause-some
returns-clause-some g c =
    let some = begins_some (stops c.args.stop) _ c.in_ok-front.front.count _
    c.in_ok-front.ensures.text in
    omega (arith, some)
