use Rattle.std.proofs.Common.{ap, arith, length, refl, sym}
use Rattle.plist_buffer.proofs.EntryEvents.{kept_scalar, scalar_shown}
use Rattle.plist_buffer.proofs.GrownScalars.{grown_long}
use Rattle.plist_buffer.proofs.SetKeys.{keys_back}
use Rattle.plist_buffer.proofs.event_table.EventTable.push_long.Goals as goal

pub invariant_of-self-in-Err : goal.invariant_of-self-in-Err
invariant_of-self-in-Err c =
    let s = c.make_room.new.self in
    let back = keys_back _ c.args.scalar c.truncate.ensures.keys c.len-before.ensures.len
    c.in-Ok.ensures.keys in
    record {
      kept = rw (back, c.in-Err.ensures.unchanged) s.kept;
      few = omega (arith, ap length c.in-Err.ensures.unchanged);
    }

pub returns-in-Err-clause-unchanged : goal.returns-in-Err-clause-unchanged
returns-in-Err-clause-unchanged c =
    let back = keys_back _ c.args.scalar c.truncate.ensures.keys c.len-before.ensures.len
    c.in-Ok.ensures.keys in
    rw (back, c.in-Err.ensures.unchanged) c.make_room.ensures.events

pub invariant_of-self-in_default-push : goal.invariant_of-self-in_default-push
invariant_of-self-in_default-push c =
    let s = c.make_room.new.self in
    record {
      kept = rw c.in_default-push.ensures.pushed
          (kept_scalar s.kept refl (grown_long s c.args.scalar _ c.in-Ok.ensures.keys
          c.in-Ok.ensures.unique c.in-Ok.index c.in-Ok.ensures.stored));
      few = c.in_default-push.ensures.small;
    }

pub returns-clause-events : goal.returns-clause-events
returns-clause-events c =
    let s = c.make_room.new.self in
    rw (sym c.make_room.ensures.events, c.in_default-push.ensures.pushed)
    (scalar_shown s.kept refl (grown_long s c.args.scalar _ c.in-Ok.ensures.keys
    c.in-Ok.ensures.unique c.in-Ok.index c.in-Ok.ensures.stored))
