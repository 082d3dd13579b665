use Rattle.std.proofs.Common.{◌^◌, ◌-◌, sym, ◌∙◌}
use Rattle.std.proofs.lemmas.Option.{IfSome_then}
use Rattle.plist_decode.specs.Formats.{input_front}
use Rattle.plist_decode.proofs.Fronts.{white-on, xml-here, xml-none, xml-end, moved, then_some-cond}
use Rattle.plist_decode.proofs.UnknownBytes.{IfSome-both}
use Rattle.plist_decode.proofs.format.xml_place.Goals as goal

pub returns-then-not-is_white : goal.returns-then-not-is_white
returns-then-not-is_white g c =
    let byte = rw c.in-Some.is at c.in_ok-byte.ensures.byte in
    record {
      value = IfSome-both (g.S.Source.known c.args.source.now) c.white.invariant.passed
          (rw c.white.invariant.same at byte)
          (λ bytes i at. c.then_some.ensures ∙ then_some-cond _ c.white.place ∙ sym
          (moved c.args.start c.white.place (input_front bytes) i
          ∙ xml-here (2 ^ 64 - 1) bytes c.white.place c.in-Some.byte c.white-test.true (sym at)
          (sym c.is_white.ensures ∙ c.if-not-is_white.true)));
      refused = tt;
      offset = tt;
      unchanged = c.byte_at.ensures.unchanged ∙ c.white.invariant.same;
      failures = c.in_ok-byte.ensures.failures ∙ c.white.invariant.counts;
    }

pub white-preserved : goal.white-preserved
white-preserved g c =
    let byte = rw c.in-Some.is at c.in_ok-byte.ensures.byte in
    record {
      same = c.byte_at.ensures.unchanged ∙ c.white.invariant.same;
      counts = c.in_ok-byte.ensures.failures ∙ c.white.invariant.counts;
      passed = IfSome-both (g.S.Source.known c.args.source.now) c.white.invariant.passed
          (rw c.white.invariant.same at byte)
          (λ bytes i at. i ∙ white-on (2 ^ 64 - 1) bytes c.white.place c.in-Some.byte
          c.white-test.true (sym at)
          (sym c.is_white.ensures ∙ c.if-not-is_white.false));
    }

pub returns-in_default : goal.returns-in_default
returns-in_default g c =
    let none = rw c.in_default.is at c.in_ok-byte.ensures.byte in
    record {
      value = IfSome-both (g.S.Source.known c.args.source.now) c.white.invariant.passed
          (rw c.white.invariant.same at none)
          (λ bytes i at. sym (moved c.args.start c.white.place (input_front bytes) i
          ∙ xml-none (2 ^ 64 - 1) bytes c.white.place at));
      refused = tt;
      offset = tt;
      unchanged = c.byte_at.ensures.unchanged ∙ c.white.invariant.same;
      failures = c.in_ok-byte.ensures.failures ∙ c.white.invariant.counts;
    }

pub returns : goal.returns
returns g c = record {
  value = IfSome_then (g.S.Source.known c.args.source.now) c.white.invariant.passed
      (λ bytes i. sym (moved c.args.start c.white.place (input_front bytes) i
      ∙ xml-end (2 ^ 64 - 1) bytes c.white.place c.white-test.false));
  refused = tt;
  offset = tt;
  unchanged = c.white.invariant.same;
  failures = c.white.invariant.counts;
}
