use Rattle.std.proofs.Common.{◌≡◌, refl, sym}
use Rattle.plist_base.specs.Events.{event_of}
use Rattle.plist.specs.Builder.{built_of}
use Rattle.plist.specs.UnfinishedValues.{kind_of_add_error}
use Rattle.plist.proofs.StepLaws.{by_laws, refused_step}
use Rattle.plist.proofs.ValueLastWins.{carry}
use Rattle.plist.proofs.stream.builder.Builder.add.Goals as goal

pub returns-in-Ok-clause-step : goal.returns-in-Ok-clause-step
returns-in-Ok-clause-step c =
    let before = c.args.self.now in
    let taken = sym c.in-None.ensures in
    by_laws _ _ _ _ before.nested (
      c.if-self.false,
      taken,
      c.if-self.false,
      carry before.unfinished.root
          before.unfinished.collections (event_of c.args.event) _ before.nested taken
          c.in-Ok.ensures,
    ) (c.in-Ok.ensures, c.if-self.false)

pub returns-in-Some-clause-step : goal.returns-in-Some-clause-step
returns-in-Some-clause-step c = by_laws _ _ _ _ c.args.self.now.nested (
  refl,
  refused_step (built_of c.args.self.now) (built_of c.args.self.now) (event_of c.args.event)
      (c.args.self.now ≡ c.args.self.now) (kind_of_add_error c.in-Some.rejection)
      (sym c.in-Some.ensures) c.if-self.false refl,
) tt

pub returns-in-Err-clause-step : goal.returns-in-Err-clause-step
returns-in-Err-clause-step c = by_laws _ _ _ _ c.args.self.now.nested (
  refl,
  (c.if-self.false, sym c.in-None.ensures, refl),
) tt
