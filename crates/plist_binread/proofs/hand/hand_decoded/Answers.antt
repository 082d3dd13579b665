use Rattle.plist_decode.specs.StepFaults.{result_with}
use Rattle.plist_binread.proofs.ObjectEvents.{long_sets}
use Rattle.plist_binread.proofs.hand.hand_decoded.Goals as goal

pub returns-in-Long-clause-handed : goal.returns-in-Long-clause-handed
returns-in-Long-clause-handed g c =
    let h = c.hand_far.ensures.handed in
    let fits = rw c.in-Long.is at c.requires in
    record {
      event = h.event;
      is = rw c.in-Long.is (long_sets _ c.args.decoder.now.bounds c.args.place (record {
        kind = c.in-Long.kind;
        start = c.in-Long.start;
        count = c.in-Long.count;
      })
          (result_with c.hand_far.result c.hand_far.new.decoder.details) h.event fits h.is);
      taken = h.taken;
    }
