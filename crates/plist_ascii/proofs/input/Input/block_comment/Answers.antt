use Rattle.std.proofs.Common.{arith, ap, refl, Some, ◌+◌, ◌∙◌}
use Rattle.plist_ascii.specs.TokenPrefixes.{run}
use Rattle.plist_ascii.proofs.Comments.{is_star, star_closes, star_opens, star_misses}
use Rattle.plist_ascii.proofs.TokenOutcomes.{gives_after}
use Rattle.plist_ascii.proofs.input.Input.block_comment.Goals as goal

pub stars-preserved : goal.stars-preserved
stars-preserved g c =
    let value = rw c.in-Some.is at c.in_ok-_star.ensures.value in
    let next = rw c.if-branch.false at c.in_ok-take_if-in-Some.ensures.next in
    let same = c.in_ok-take_if-in-Some.ensures.same c.if-branch.false in
    record {
      answers = λ answer new rest. c.stars.invariant.answers answer new
          (gives_after rest (omega (arith, c.in_ok-_star.ensures.place, same)) (λ xs e.
          let t = value xs e in
          let s = next t.0 t.2 in
          let opens = star_opens xs t.1 s.1 in (
            run is_star xs + 1,
            s.0 ∙ ap Some opens.0,
            omega (arith, t.3, same),
            rw (← opens.0) opens.1,
          )));
      place = omega (arith, c.in_ok-_star.ensures.place, same);
      failures = c.in_ok-take_if-in-Some.ensures.failures ∙ c.in_ok-_star.ensures.failures
          ∙ c.stars.invariant.failures;
    }

pub returns-then-branch-clause-answers : goal.returns-then-branch-clause-answers
returns-then-branch-clause-answers g c =
    let value = rw c.in-Some.is at c.in_ok-_star.ensures.value in
    let next = rw c.if-branch.true at c.in_ok-take_if-in-Some.ensures.next in
    let place = c.in_ok-take_if-in-Some.ensures.rises c.if-branch.true in
    c.stars.invariant.answers _ _ (record {
      rises = omega (arith, c.in_ok-_star.ensures.place, place.0);
      gives = λ xs e.
          let t = value xs e in
          let s = next t.0 t.2 in
          let closes = star_closes xs t.1 s.1 in
          rw closes.0 (refl, s.2 ∙ ap Some closes.1, omega (arith, t.3, place.0));
    })

pub returns-in-None-clause-answers : goal.returns-in-None-clause-answers
returns-in-None-clause-answers g c =
    let value = rw c.in-None.is at c.in_ok-_star.ensures.value in
    c.stars.invariant.answers _ _ (record {
      rises = c.in_ok-_star.ensures.place;
      gives = λ xs e.
          let t = value xs e in rw (star_misses xs t.0) (refl, t.1, t.2);
    })
