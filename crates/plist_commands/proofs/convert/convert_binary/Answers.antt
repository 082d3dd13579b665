use Rattle.std.proofs.Common.{◌≡◌, Ok, refl, rules, subst, true}
use Rattle.std.proofs.lemmas.Result.{MatchResult-from_both}
use Rattle.plist_commands.specs.CollectorSteps.{collected}
use Rattle.plist_commands.specs.Converting.{ReadsSource}
use Rattle.plist_commands.proofs.BufferedItems.{not_read}
use Rattle.plist_commands.proofs.convert.convert_binary.Goals as goal

pub returns-in-Ok-true-clause-answers : goal.returns-in-Ok-true-clause-answers
returns-in-Ok-true-clause-answers g c =
    let is : c.collect_source.result ≡ Ok true = search rules in
    let held = collected c.collect_source.new.collector in (
      Ok true,
      held,
      subst (λ read. ReadsSource g.S.Source.known g.S.Source.failures c.args.source read held) is
          c.collect_source.ensures.answers,
      MatchResult-from_both c.send_events.result _ _ c.send_events.ensures.wrote
          c.send_events.ensures.without_offset,
    )

pub returns-in-Ok-false-clause-converts : goal.returns-in-Ok-false-clause-converts
returns-in-Ok-false-clause-converts g c = record {
  sent = λ e. absurd (cc);
  left = λ e. (
    refl,
    not_read (g.S.Source.known c.args.source)
        (c.in-Ok-false.ensures.collects.none c.in-Ok-false.field-0-test),
  );
  refused = tt;
}
