use Rattle.std.proofs.Common.{refl}
use Rattle.plist_base.specs.Events.{EndCollection, ScalarEvent}
use Rattle.plist_base.specs.Trees.{String}
use Rattle.plist_binread.proofs.ObjectEvents.{text_refused, text_set}
use Rattle.plist_binread.proofs.hand.hand_utf8.Goals as goal

pub returns-in-Ok : goal.returns-in-Ok
returns-in-Ok g c = record {
  event = ScalarEvent (String c.in-Ok.text.now);
  is = text_set c.args.bytes.now _ _ c.in-Ok.ensures.cases.0 c.in-Ok.ensures.cases.1;
  taken = c.string.ensures;
}

pub returns-in-Err : goal.returns-in-Err
returns-in-Err g c = record {
  event = EndCollection;
  is = text_refused c.args.bytes.now EndCollection c.in-Err.ensures.cases.0;
  taken = refl;
}
