use Rattle.std.proofs.Common.{◌≡◌, ◌∙◌, Some, None, ap, refl, rules, sym}
use Rattle.plist_base.specs.IntegerText.{integer_of_text, unsigned_of_text}
use Rattle.plist_base.proofs.Numerals.{integer_prefixed, integer_signed, integer_unsigned, signed_back, signed_err, signed_ok}
use Rattle.plist_base.proofs.integer.Integer.from_str.Goals as goal
use Rattle.plist_base.proofs.integer.Integer.from_str.Goals.{in-Some, in-None+in-Ok, in-None+in-Err}

found : (c : goal.After-ok_or) → c.match-strip_prefix.number ≡ integer_of_text c.args.text.now
found c =
    let text = c.args.text.now in
    elim c.match-strip_prefix.branch [
      | in-Some w ↦ w.number-is ∙ w.unsigned-number.ensures
          ∙ ap (unsigned_of_text 16) w.strip_prefixes.ensures
          ∙ sym (integer_prefixed text w.in-Some.rest.now w.in-Some.ensures.cases.0
          w.in-Some.ensures.cases.1.1 (search rules))
      | in-None+in-Ok w ↦
          let v = w.in-Ok.ensures.value.0 in
          let is = ap Some (signed_back _ _ text w.from.ensures v.0.1 v.1) ∙ signed_ok _ text v in
          w.number-is ∙ integer_signed text _ _ w.in-None.ensures.cases is refl
      | in-None+in-Err w ↦ w.number-is ∙ integer_unsigned text None _ w.in-None.ensures.cases
          (signed_err text w.in-Err.ensures.value.0) refl w.unsigned.ensures
    ]

pub returns : goal.returns
returns c = let is = found c in search (rules, is)
