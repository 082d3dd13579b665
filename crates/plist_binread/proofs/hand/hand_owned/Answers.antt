use Rattle.std.proofs.Common.{◌≡◌, ap, refl, subst}
use Rattle.std.specs.Prelude.{IsUtf8, string_bytes}
use Rattle.std.proofs.lemmas.Bool.{false≢true}
use Rattle.std.proofs.lemmas.Str.{IsUtf8-had}
use Rattle.plist_base.specs.Events.{EndCollection, ScalarEvent}
use Rattle.plist_base.specs.Trees.{String}
use Rattle.plist_binread.proofs.ObjectEvents.{text_refused, text_set}
use Rattle.plist_binread.proofs.hand.hand_owned.Goals as goal

pub returns-in-Ok : goal.returns-in-Ok
returns-in-Ok g c =
    let same : string_bytes c.in-Ok.text ≡ c.args.bytes.items =
    ap (λ bytes. bytes.items) c.in-Ok.ensures.ok in
    record {
      event = ScalarEvent (String (string_bytes c.in-Ok.text));
      is = rw c.in-Text.is (text_set c.args.bytes.items _ _ same
          (subst IsUtf8 same (IsUtf8-had _ c.in-Ok.text.ok)));
      taken = c.string.ensures;
    }

pub returns-in-Text : goal.returns-in-Text
returns-in-Text g c = record {
  event = EndCollection;
  is = rw c.in-Text.is (text_refused c.args.bytes.items EndCollection
      (λ u. false≢true (c.in-Err.ensures.succeeds u)));
  taken = refl;
}
