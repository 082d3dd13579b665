use Rattle.std.proofs.Common.{◌^◌, Some, refl, rules, sym, ap, arith}
use Rattle.std.specs.Option.{is_some}
use Rattle.plist_base.specs.Faults.{fault_of}
use Rattle.plist_base.specs.Limits.{RefusesAny}
use Rattle.plist_base.specs.Visits.{item_with}
use Rattle.plist_binread.specs.BinaryReader.{Walks, binary_source, is_new, unlimited_items}
use Rattle.plist_binread.proofs.LimitedSteps.{turns_within}
use Rattle.plist_decode.specs.StepFaults.{item_kept}
use Rattle.plist_binread.proofs.ReaderLimits.{limit-current, refused-given, refused-keeps, refused-other}
use Rattle.plist_decode.proofs.UnknownBytes.{IfSome-all, IfSome-never}
use Rattle.plist_binread.proofs.UnlimitedSteps.{tells_fault}
use Rattle.plist_binread.proofs.VisitorLimits.{Reached, reached_limit, refuses_any}
use Rattle.plist_binread.proofs.reader.BinaryReader.step_within.Goals as goal
use Rattle.plist_binread.proofs.reader.BinaryReader.step_within.Goals.{After-keep_error}

-- the visitor received an event that exceeds a limit
limit : (g : _) (c : After-keep_error g) → Reached c.unwrap-limiter.result c.args.visitor.now c.step-item.new.visitor.visitor.now
    (λ item event. Walks c.args.self.now (item_with (item_kept item c.step-item.new.self.decoder.details) event) c.step-item.new.self)
    c.in-Err.error
limit g c =
    reached_limit g.V.EventVisitor.step _ _ c.step-item.result
    (λ item event. Walks c.args.self.now (item_with (item_kept item c.step-item.new.self.decoder.details) event) c.step-item.new.self)
    c.in-Err.error _ _ refl refl refl (search rules) c.step-item.ensures.walks

pub returns-in-Err : goal.returns-in-Err
returns-in-Err g c =
    let old = c.args.self.now in
    let mid = c.step-item.new.self in
    let error = c.in-Err.error in
    let l = limit g (goal.at.returns-in-Err g c).After-keep_error in
    let walks = l.is in
    let w = walks.gives in
    let r : RefusesAny old.limiter l.event (fault_of error) =
    refuses_any old.limiter c.unwrap-limiter.result _ l.event (fault_of error) (fault_of c.in-Err.error)
    c.unwrap-limiter.ensures refl refl l.refused in
    rw c.keep_error.ensures.answer (
      record {
        gives = record {
          unchanged = w.unchanged;
          items = limit-current (is_new old) l.event (g.R.Source.known (binary_source old))
              old.limiter (Some c.step-item.new.visitor.limiter.now)
              (λ bytes. unlimited_items bytes old) (λ bytes. unlimited_items bytes mid) error r
              w.items;
          admitted = refused-keeps old.limiter (Some c.step-item.new.visitor.limiter.now) l.event error r;
          failures = refused-other old.limiter l.event (fault_of error) _ _ _ r w.failures;
          ended = λ e. (let no = w.ended e in absurd (cc));
          unasked = w.unasked;
          ends = refl;
          begun = refl;
          faults = refused-given 0 (2 ^ 64) old.limiter l.event (fault_of error) r;
          head = IfSome-never _ _ (λ v. absurd (cc));
          cached = IfSome-all _ (λ bytes. tt);
          leaves = search w.leaves;
          objects = tells_fault _ error _ w.objects;
          kept = (ap is_some (sym c.unwrap-limiter.ensures), w.kept.1);
        };
        falls = let falls = walks.falls in omega (arith, falls);
      },
      (let untaken = l.untaken in search rules),
    )

pub returns-in-Ok : goal.returns-in-Ok
returns-in-Ok g c =
    turns_within c.args.self.now c.step-item.new.self _ c.unwrap-limiter.result _ c.unwrap-limiter.ensures refl refl refl refl
    refl g.V.EventVisitor.step _ c.step-item.new.visitor _ _
    c.step-item.new.self.decoder.details c.step-item.result refl (search rules)
    (search rules) (search rules) (search rules) c.step-item.ensures.walks
