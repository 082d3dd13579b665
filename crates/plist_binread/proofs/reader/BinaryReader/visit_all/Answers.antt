use Rattle.std.proofs.Common.{◌≡◌, ◌∙◌, Ok, Some, ap, ◌∷◌, ◌++◌, [], refl, rules, sym}
use Rattle.std.specs.declared.ops.ControlFlow.TheVariants.{Continue, Break}
use Rattle.plist_base.proofs.Visits.{hands_more}
use Rattle.plist_binread.proofs.TokenSteps.{no_tokens}
use Rattle.plist_binread.proofs.reader.BinaryReader.visit_all.Goals as goal

pub loop-turn-preserved : goal.loop-turn-preserved
loop-turn-preserved g c =
    let so_far = c.loop-turn.invariant in
    let is : c.in-Some.turn ≡ Ok (Continue (tt {0})) = search rules in
    let turn = rw is at c.in-Some.ensures.taken in (
      so_far.0 ++ turn.0 ∷ [],
      (
        hands_more _ _ (c.args.self.now, c.args.visitor.now) (c.loop-turn.self, c.loop-turn.visitor)
            (c.turn.new.self, c.turn.new.visitor) so_far.0 turn.0 so_far.1.0 turn.1,
        so_far.1.1 ∙ sym turn.1.given.gives.kept.0,
        c.in-Some.ensures.tokens (ap Some is),
        c.in-Some.ensures.unused,
      ),
    )

pub returns-in-Ok-Break : goal.returns-in-Ok-Break
returns-in-Ok-Break g c =
    let is : c.in-Some.turn ≡ Ok (Break (tt {0})) = search rules in
    let so_far = c.loop-turn.invariant in record {
      events = so_far.0;
      left = (c.loop-turn.self, c.loop-turn.visitor);
      handed = so_far.1.0;
      ended = rw is at c.in-Some.ensures.taken;
    }

pub returns-in-Err : goal.returns-in-Err
returns-in-Err g c =
    let so_far = c.loop-turn.invariant in
    let turn = rw c.in-Err.is at c.in-Some.ensures.taken in
    record {
      events = so_far.0;
      left = (c.loop-turn.self, c.loop-turn.visitor);
      handed = so_far.1.0;
      ended = rw c.take_error.ensures (search turn);
    }

pub returns : goal.returns
returns g c =
    let so_far = c.loop-turn.invariant in record {
      events = so_far.0;
      left = (c.loop-turn.self, c.loop-turn.visitor);
      handed = so_far.1.0;
      ended = c.in_default.ensures.taken;
    }

pub loop-turn-init : goal.loop-turn-init
loop-turn-init g c = (
  [],
  (
    refl,
    c.requires,
    no_tokens g.V.EventVisitor.step g.V.EventVisitor.names c.new-tokens.result _ _ c.new-tokens.ensures,
    λ _. c.new-tokens.ensures,
  ),
)
