use Rattle.std.proofs.Common.{◌++◌, ◌∷◌, ap, ◌∙◌}
use Rattle.plist_base.specs.Trees.{Uid}
use Rattle.plist_base.specs.Object.{Scalar}
use Rattle.plist_decode.proofs.Decoding.{means_small}
use Rattle.plist_decode.proofs.fixed_content.decode_uid.Goals as goal

pub returns-in-Some : goal.returns-in-Some
returns-in-Some c = rw (← c.get.ensures.value) (λ width first more whole.
    means_small c.small.result (c.of_uid.ensures ∙ ap Uid c.new.ensures)
    (c.in-Some.ensures.value more (λ n. Scalar (Uid n))) c.small.ensures width
    (first ∷ (c.args.rest.bytes.now ++ more)))
