use Rattle.std.proofs.Common.{◌≡◌, ◌∙◌, Some, None, IfSome, ap, cond, sym}
use Rattle.std.proofs.lemmas.Option.{IfSome_then}
use Rattle.plist_decode.proofs.Fronts.{binary-is, text-is}
use Rattle.plist_decode.specs.Formats.{byte_order_mark_length}
use Rattle.plist_decode.proofs.format.format_of.Goals as goal
use Rattle.plist_decode.proofs.format.format_of.Goals.{After-xml_place, then-branch-2, else-branch-2}

pub returns-then-branch : goal.returns-then-branch
returns-then-branch g c = record {
  value = IfSome_then (g.S.Source.known c.args.source.now) (rw c.if-branch.true at
      c.in_ok-begins_with.ensures.value) binary-is;
  refused = tt;
  offset = tt;
  unchanged = c.begins_with.ensures.unchanged;
  failures = c.in_ok-begins_with.ensures.failures;
}

-- the search for `<` starts after the byte order mark
start : (g : _) (c : After-xml_place g) → IfSome (g.S.Source.known c.begins_with.new.source)
    (λ bytes. c.if-branch-2.start ≡ byte_order_mark_length bytes)
start g c = IfSome_then (g.S.Source.known c.begins_with.new.source)
    c.in_ok-begins_with-2.ensures.value (λ bytes is. elim c.if-branch-2.branch [
      | then-branch-2 w ↦ w.start-is ∙ ap (λ b. cond b 3 0) (sym w.if-branch-2.true ∙ is)
      | else-branch-2 w ↦ w.start-is ∙ ap (λ b. cond b 3 0) (sym w.if-branch-2.false ∙ is)
    ])

pub returns-in-Some : goal.returns-in-Some
returns-in-Some g c = record {
  value = text-is (g.S.Source.known c.args.source.now) _ _ c.if-branch-2.start
      (Some c.in-Some.place) c.begins_with.ensures.unchanged
      c.begins_with-2.ensures.unchanged
      (rw c.if-branch.false at c.in_ok-begins_with.ensures.value) (start g (goal.at.returns-in-Some g c).After-xml_place)
      (rw c.in-Some.is at c.in_ok-place.ensures.value);
  refused = tt;
  offset = tt;
  unchanged = c.xml_place.ensures.unchanged ∙ c.begins_with-2.ensures.unchanged
      ∙ c.begins_with.ensures.unchanged;
  failures = c.in_ok-place.ensures.failures ∙ c.in_ok-begins_with-2.ensures.failures
      ∙ c.in_ok-begins_with.ensures.failures;
}

pub returns-in-None : goal.returns-in-None
returns-in-None g c = record {
  value = text-is (g.S.Source.known c.args.source.now) _ _ c.if-branch-2.start None
      c.begins_with.ensures.unchanged
      c.begins_with-2.ensures.unchanged
      (rw c.if-branch.false at c.in_ok-begins_with.ensures.value) (start g (goal.at.returns-in-None g c).After-xml_place)
      (rw c.in-None.is at c.in_ok-place.ensures.value);
  refused = tt;
  offset = tt;
  unchanged = c.xml_place.ensures.unchanged ∙ c.begins_with-2.ensures.unchanged
      ∙ c.begins_with.ensures.unchanged;
  failures = c.in_ok-place.ensures.failures ∙ c.in_ok-begins_with-2.ensures.failures
      ∙ c.in_ok-begins_with.ensures.failures;
}
