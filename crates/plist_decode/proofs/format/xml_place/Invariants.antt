use Rattle.std.proofs.Common.{◌-◌, ◌≡◌, IfSome}
use Rattle.plist_decode.specs.Formats.{input_front, past_white}
use Rattle.plist_decode.proofs.format.xml_place.Given as goal

abbrev pub invariant-white : goal.invariant-white
invariant-white g l = record {
  same : g.S.Source.known l.source ≡ g.S.Source.known l.initial.source;
  counts : g.S.Source.failures l.source ≡ g.S.Source.failures l.initial.source;
  passed : IfSome (g.S.Source.known l.initial.source)
      (λ bytes. past_white l.start (input_front bytes) ≡ past_white l.place (input_front bytes));
}

abbrev pub decreases-white : goal.decreases-white
decreases-white g l = 18446744073709551615 - l.place
