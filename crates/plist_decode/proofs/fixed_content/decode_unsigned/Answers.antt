use Rattle.std.proofs.Common.{◌++◌, ◌∷◌, pos}
use Rattle.plist_base.specs.Trees.{Integer}
use Rattle.plist_base.specs.Object.{Scalar}
use Rattle.plist_decode.proofs.Decoding.{means_small}
use Rattle.plist_decode.proofs.fixed_content.decode_unsigned.Goals as goal

pub returns-in-Some : goal.returns-in-Some
returns-in-Some c = λ width first more whole.
    means_small c.small.result c.of_unsigned.ensures
    (c.in-Some.ensures.value more (λ n. Scalar (Integer (pos n)))) c.small.ensures width
    (first ∷ (c.args.rest.bytes.now ++ more))
