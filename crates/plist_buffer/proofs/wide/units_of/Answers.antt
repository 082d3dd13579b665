use Rattle.std.proofs.Common.{rules, ◌≡◌, ◌++◌, ◌∙◌, ap, append-nil, append_assoc, length, sym}
use Rattle.std.specs.Str.Iter.{chars_rest}
use Rattle.std.proofs.lemmas.Str.{IsUtf8-past_char}
use Rattle.plist_buffer.proofs.TextUnits.{form_empty, form_step}
use Rattle.plist_buffer.proofs.wide.units_of.Goals as goal

pub loop-c-preserved : goal.loop-c-preserved
loop-c-preserved c =
    let i = c.loop-c.invariant in
    let rest = chars_rest c.next.new.self in
    record {
      utf8 = IsUtf8-past_char _ rest c.in-Some.c i.utf8 c.in-Some.ensures.steps.0;
      units = rw c.in_ok-push_units.ensures
          (append_assoc c.loop-c.units.items _ _
          ∙ ap (λ l. c.loop-c.units.items ++ l)
          (sym (form_step (chars_rest c.loop-c.c-iterator) rest c.in-Some.c i.utf8
          c.in-Some.ensures.steps.0))
          ∙ i.units);
    }

pub returns : goal.returns
returns c =
    let none : length (chars_rest c.loop-c.c-iterator) ≡ 0 = search rules in
    sym (append-nil c.loop-c.units.items)
    ∙ ap (λ l. c.loop-c.units.items ++ l) (sym (form_empty (chars_rest c.loop-c.c-iterator) none))
    ∙ c.loop-c.invariant.units
