use Rattle.plist_ascii.proofs.UnreadBytes.{hand_first}
use Rattle.plist_ascii.proofs.input.Input.at_hand.Goals as goal

pub returns-in-Some-clause-next : goal.returns-in-Some-clause-next
returns-in-Some-clause-next g c = λ xs e.
    hand_first _ _ _ _ _ xs (λ none. let is = c.in-Some.is in absurd (cc)) e

pub returns-else-most-bytes-clause-next : goal.returns-else-most-bytes-clause-next
returns-else-most-bytes-clause-next g c = λ xs e.
    hand_first _ _ _ _ _ xs (λ _. c.buffered-bytes.ensures.next) e
