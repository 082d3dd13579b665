use Rattle.plist_ascii.proofs.Runs.{part_at}
use Rattle.plist_ascii.proofs.input.Input.skip_part.Goals as goal

pub returns-clause-part : goal.returns-clause-part
returns-clause-part g c =
    part_at c.at_hand-bytes.result.now _ tt c.at_hand-bytes.ensures.hand
    c.at_hand-bytes.ensures.next c.run_length-count.ensures.run c.run_length-count.ensures.within
    c.take_first.ensures.bytes c.take_first.ensures.place
