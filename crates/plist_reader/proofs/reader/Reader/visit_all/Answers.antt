use Rattle.std.proofs.Common.{◌≡◌, Some, Ok, Err, [], ◌∷◌, ◌++◌, rules, subst}
use Rattle.std.specs.declared.ops.ControlFlow.TheVariants.{Continue, Break}
use Rattle.plist_base.proofs.Visits.{hands_more}
use Rattle.plist_base.specs.Visits.{HandsOverAll, YieldsPlain}
use Rattle.plist_reader.specs.Reader.{Gives}
use Rattle.plist_reader.specs.declared.reader.State.{State}
use Rattle.plist_reader.proofs.Turns.{binary_visit, visits_then}
use Rattle.plist_reader.proofs.reader.Reader.visit_all.Goals as goal

pub returns-in-Binary : goal.returns-in-Binary
returns-in-Binary g c =
    let so_far = c.loop-self.invariant in
    let alloc = c.loop-self.self.alloc in
    let now = subst (λ (s : State g.row.R.Denot g.R.Source). HandsOverAll
    (YieldsPlain (Gives g.R.Source.known g.R.Source.failures)) g.V.EventVisitor.step
    (c.args.self.now, c.args.visitor.now) so_far.0
    (record { alloc = alloc; state = s }, c.loop-self.visitor)) c.in-Binary.is so_far.1 in
    visits_then _ _ _ _ _ _ _ now
    (binary_visit alloc g.V.EventVisitor.step _ _ _ _ _ c.visit.ensures.events)

pub loop-self-preserved : goal.loop-self-preserved
loop-self-preserved g c =
    let so_far = c.loop-self.invariant in
    let is : c.hand_over.result ≡ Some (Ok (Continue (tt {0}))) = search rules in
    let handed = rw is at c.hand_over.ensures.turn in (
      so_far.0 ++ handed.0 ∷ [],
      hands_more _ _ (c.args.self.now, c.args.visitor.now) (c.loop-self.self, c.loop-self.visitor)
          (c.hand_over.new.self, c.hand_over.new.visitor) so_far.0 handed.0 so_far.1 handed.1,
    )

pub returns-in-Some-Ok-Break : goal.returns-in-Some-Ok-Break
returns-in-Some-Ok-Break g c =
    let is : c.hand_over.result ≡ Some (Ok (Break (tt {0}))) = search rules in
    record {
      events = c.loop-self.invariant.0;
      left = (c.loop-self.self, c.loop-self.visitor);
      handed = c.loop-self.invariant.1;
      ended = rw is at c.hand_over.ensures.turn;
    }

pub returns-in-Some-Err : goal.returns-in-Some-Err
returns-in-Some-Err g c =
    let is : c.hand_over.result ≡ Some (Err c.in-Some-Err.error) = search rules in
    record {
      events = c.loop-self.invariant.0;
      left = (c.loop-self.self, c.loop-self.visitor);
      handed = c.loop-self.invariant.1;
      ended = rw is at c.hand_over.ensures.turn;
    }

pub returns-in-None : goal.returns-in-None
returns-in-None g c = record {
  events = c.loop-self.invariant.0;
  left = (c.loop-self.self, c.loop-self.visitor);
  handed = c.loop-self.invariant.1;
  ended = rw c.in-None.is at c.hand_over.ensures.turn;
}
