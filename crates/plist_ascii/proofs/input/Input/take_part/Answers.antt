use Rattle.std.proofs.Common.{ap, take, ◌++◌, ◌∙◌}
use Rattle.plist_ascii.proofs.Runs.{part_at}
use Rattle.plist_ascii.proofs.input.Input.take_part.Goals as goal

pub returns-clause-part : goal.returns-clause-part
returns-clause-part g c =
    let grown = c.in_ok-extend_from_slice-2.ensures.items
    ∙ ap (λ z. z ++ take c.run_length-count.result c.at_hand-bytes.result.now)
    (c.in_ok-extend_from_slice.ensures.items ∙ ap (λ z. z ++ c.args.front.now)
    c.in_ok-reserve.ensures.items) in
    part_at c.at_hand-bytes.result.now _ grown c.at_hand-bytes.ensures.hand
    c.at_hand-bytes.ensures.next c.run_length-count.ensures.run c.run_length-count.ensures.within
    c.take_first.ensures.bytes c.take_first.ensures.place
