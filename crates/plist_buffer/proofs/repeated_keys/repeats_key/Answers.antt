use Rattle.std.proofs.Common.{inl, inr, arith, refl, subst, true≢false}
use Rattle.std.proofs.lemmas.Bool.{MatchBool-at_true, MatchBool-at_false}
use Rattle.std.proofs.lemmas.Bool.Decides.{eqb_tells}
use Rattle.plist_base.specs.Trees.{Dictionary}
use Rattle.plist_buffer.specs.EventTable.{plain_events}
use Rattle.plist_buffer.specs.Occurrences.{OccursAt}
use Rattle.plist_buffer.proofs.KeyStamps.{all_once, one_repeats}
use Rattle.plist_buffer.proofs.TreeStarts.{occurs_in}
use Rattle.plist_buffer.proofs.Lengthless.{plain_lengthless}
use Rattle.plist_buffer.proofs.repeated_keys.repeats_key.Goals as goal

pub loop-index-preserved : goal.loop-index-preserved
loop-index-preserved c = record {
  long = c.repeats_at.ensures.long;
  older = λ i h. omega (arith, c.repeats_at.ensures.newer i h);
  once = λ p ms lt s. elim (eqb_tells p c.loop-index.index) [
    | inl e ↦ MatchBool-at_false _ _ c.if-repeats_at.false (c.repeats_at.ensures.repeats ms
        (subst (λ k. OccursAt (plain_events c.args.events.now) (Dictionary ms) k) e.1 s))
    | inr d ↦ c.loop-index.invariant.once p ms (omega (arith, lt, d.1)) s
  ];
}

pub returns-then-repeats_at-clause-once : goal.returns-then-repeats_at-clause-once
returns-then-repeats_at-clause-once c = λ tree alike. (
  (λ e. absurd (true≢false e)),
  (λ once. absurd (one_repeats (plain_events c.args.events.now) tree c.loop-index.index
      (plain_lengthless c.args.events.now tree alike)
      (omega arith)
      (c.repeats_at.ensures.begins c.if-repeats_at.true)
      (λ ms s. MatchBool-at_true _ _ c.if-repeats_at.true (c.repeats_at.ensures.repeats ms s))
      once)),
)

pub returns-clause-once : goal.returns-clause-once
returns-clause-once c = λ tree alike. (
  (λ e. all_once (plain_events c.args.events.now) tree (plain_lengthless c.args.events.now tree
      alike)
      (λ p ms s. c.loop-index.invariant.once p ms
      (omega (arith, occurs_in s)) s)),
  (λ once. refl),
)
