use Rattle.std.proofs.Common.{arith, ap, sym, ◌∙◌}
use Rattle.plist_decode.specs.Packed.{is_marked}
use Rattle.std.proofs.lemmas.List.{get_or_read}
use Rattle.plist_binread.proofs.tokens.Tokens.token_of.Goals as goal

pub returns : goal.returns
returns c = λ _. (
  get_or_read c.args.self.now.list.items _ _ (omega arith) c.index-2.ensures 0,
  omega arith,
  ap is_marked (sym (get_or_read c.args.walk.now.tags.items _ _ (omega arith) c.index.ensures 0))
      ∙ sym c.if-is_open.ensures,
)
