use Rattle.std.proofs.Common.{arith, refl, sym}
use Rattle.std.proofs.lemmas.Bool.{eqb-true}
use Rattle.std.proofs.lemmas.List.{nil_from_length}
use Rattle.plist_buffer.proofs.BufferedEvents.{after_repeating, event_in_table, failed, still_same}
use Rattle.plist_buffer.proofs.event_buffer.EventBuffer.try_repeat.Goals as goal

pub invariant_of-self-2 : goal.invariant_of-self-2
invariant_of-self-2 c =
    let none = nil_from_length _ (eqb-true _ _ (sym c.if-not-is_empty.ensures)) in
    let chosen = c.change_by_earlier-change.ensures c.in_default.not-Refused in
    (after_repeating c.args.self.now c.args.index none chosen c.in_default.not-Refused
    c.in_default-repeat_at.ensures.events c.next_expected-self.ensures).kept

pub returns : goal.returns
returns c =
    let s = c.args.self.now in
    let none = nil_from_length _ (eqb-true _ _ (sym c.if-not-is_empty.ensures)) in
    let chosen = c.change_by_earlier-change.ensures c.in_default.not-Refused in
    rw (event_in_table s c.args.index (omega arith)) (record {
      scalar = chosen.0;
      buffers = record {
        taken = (after_repeating s c.args.index none chosen c.in_default.not-Refused
            c.in_default-repeat_at.ensures.events c.next_expected-self.ensures).taken;
        refused = tt;
      };
    })

pub returns-in-Err : goal.returns-in-Err
returns-in-Err c =
    let s = c.args.self.now in
    let chosen = c.change_by_earlier-change.ensures c.in_default.not-Refused in
    rw (event_in_table s c.args.index (omega arith)) (record {
      scalar = chosen.0;
      buffers = failed s _ (still_same s s _ (record { events = refl; expects = refl })
          c.in-Err.ensures.unchanged refl refl) _ chosen.1 c.in_default.not-Refused _
          c.from.ensures;
    })
