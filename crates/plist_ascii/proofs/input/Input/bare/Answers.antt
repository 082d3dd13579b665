use Rattle.std.proofs.Common.{arith, append_assoc, ◌++◌, ◌∷◌, []}
use Rattle.plist_ascii.proofs.Runs.{part_ends, runs_on}
use Rattle.plist_ascii.proofs.Texts.{bare_becomes}
use Rattle.plist_ascii.proofs.input.Input.bare.Goals.{then-branch+in_ok-take_run, else-branch}
use Rattle.plist_ascii.proofs.input.Input.bare.Goals as goal

pub returns-clause-answers : goal.returns-clause-answers
returns-clause-answers g c =
    let part = c.in_ok-take_part.ensures.part in
    let place = c.in_ok-take_part.ensures.place in
    let front = c.new-text.result.items ++ c.args.first ∷ [] in
    bare_becomes c.args.first c.new-text.ensures.items c.bare_event.ensures
    (elim c.if-branch.branch [
      | then-branch+in_ok-take_run w ↦ rw (w.self-is, w.text-is) (
        omega (arith, place, w.in_ok-take_run.ensures.place),
        runs_on part (λ a b p q. cc (append_assoc front a b)) w.in_ok-take_run.ensures.value,
      )
      | else-branch w ↦ rw (w.self-is, w.text-is)
          (place, part_ends part w.if-branch.false (λ a p. p))
    ])
