use Rattle.std.proofs.Common.{◌≡◌, refl, rules, subst}
use Rattle.std.proofs.lemmas.Str.{IsUtf8-from_ascii}
use Rattle.plist_base.specs.Events.{ScalarEvent}
use Rattle.plist_base.specs.Trees.{String}
use Rattle.plist_base.proofs.ByteBlocks.{ascii_from_each}
use Rattle.plist_binread.proofs.ObjectEvents.{text_set}
use Rattle.plist_binread.proofs.hand.hand_text.Goals as goal

pub from_utf8_unchecked-text-requires : goal.from_utf8_unchecked-text-requires
from_utf8_unchecked-text-requires g c =
    IsUtf8-from_ascii _ (ascii_from_each _ (c.all_pass.ensures c.if-all_pass.true))

pub returns-in-Some : goal.returns-in-Some
returns-in-Some g c =
    let ascii = ascii_from_each c.args.bytes.now (search rules) in
    record {
      event = ScalarEvent (String c.args.bytes.now);
      is = text_set c.args.bytes.now _ _ refl (IsUtf8-from_ascii _ ascii);
      taken = search rules;
    }

pub returns-then-all_pass : goal.returns-then-all_pass
returns-then-all_pass g c =
    let same : c.ascii_string.new.self ≡ c.args.visitor.now = search rules in
    let ascii = ascii_from_each _ (c.all_pass.ensures c.if-all_pass.true) in
    record {
      event = ScalarEvent (String c.from_utf8_unchecked-text.result.now);
      is = text_set c.args.bytes.now _ _ c.from_utf8_unchecked-text.ensures
          (IsUtf8-from_ascii _ ascii);
      taken = subst (λ old. g.V.EventVisitor.step old
          (ScalarEvent (String c.from_utf8_unchecked-text.result.now)) c.string.result c.string.new.self)
          same c.string.ensures;
    }
