use Rattle.std.proofs.Common.{◌≡◌, ◌-◌, ◌≤◌, length, take, drop, IfSome}
use Rattle.plist_base.proofs.source.read_exact_at.Given as goal

abbrev pub invariant-loop-done : goal.invariant-loop-done
invariant-loop-done g l = record {
  within : l.done ≤ length l.buf;
  same : g.S.Source.known l.source ≡ g.S.Source.known l.initial.source;
  counts : g.S.Source.failures l.source ≡ g.S.Source.failures l.initial.source;
  filled : IfSome (g.S.Source.known l.initial.source)
      (λ bytes. take l.done l.buf ≡ take l.done (drop l.place bytes));
}

abbrev pub decreases-loop-done : goal.decreases-loop-done
decreases-loop-done g l = length l.initial.buf - l.done
