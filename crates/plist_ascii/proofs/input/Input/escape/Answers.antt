use Rattle.std.proofs.Common.{Ok, Err, [], ◌∷◌, arith, refl, sym}
use Rattle.std.proofs.lemmas.Bool.{ne_eqb}
use Rattle.plist_base.specs.Faults.{InvalidUtf8AsciiStream}
use Rattle.plist_ascii.specs.TokenPrefixes.{taken}
use Rattle.plist_ascii.specs.Escapes.{escape}
use Rattle.plist_ascii.proofs.TokenOutcomes.{gives_next}
use Rattle.plist_ascii.proofs.input.Input.escape.Goals as goal

pub returns-in-Some-clause-answers : goal.returns-in-Some-clause-answers
unfolding escape
returns-in-Some-clause-answers g c =
    let byte = c.in_ok-byte.ensures in
    gives_next c.octal_escape.ensures.answers c.in_ok-byte.byte byte.value byte.place
    (λ rest. rw (ne_eqb _ _ c.if-byte-eq85.false, c.in-Some.ensures.0) refl)

pub returns-in-Some-simple_of-clause-answers : goal.returns-in-Some-simple_of-clause-answers
unfolding escape
returns-in-Some-simple_of-clause-answers g c =
    let byte = c.in_ok-byte.ensures in
    gives_next {mid = c.expect_byte.new.self}
    {back = λ _. taken 0 (Ok (c.in-Some-simple_of.other ∷ []))}
    (record { rises = omega arith; gives = λ xs e. (refl, e, omega arith) }) c.in_ok-byte.byte
    byte.value byte.place (λ rest. rw (
      ne_eqb _ _ c.if-byte-eq85.false,
      c.in-None.ensures,
      sym c.in-Some-simple_of.ensures,
    ) refl)

pub returns-in-None-simple_of-clause-answers : goal.returns-in-None-simple_of-clause-answers
unfolding escape
returns-in-None-simple_of-clause-answers g c =
    let byte = c.in_ok-byte.ensures in
    gives_next {mid = c.expect_byte.new.self} {back = λ _. taken 0 (Err InvalidUtf8AsciiStream)}
    (record { rises = omega arith; gives = λ xs e. (refl, e, omega arith) }) c.in_ok-byte.byte
    byte.value byte.place (λ rest. rw (
      ne_eqb _ _ c.if-byte-eq85.false,
      c.in-None.ensures,
      sym c.in-None-simple_of.ensures,
    ) refl)
