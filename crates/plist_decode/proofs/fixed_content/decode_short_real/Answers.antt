use Rattle.std.proofs.Common.{◌∷◌, ◌++◌}
use Rattle.plist_base.specs.declared.real.RealBits.TheVariants.{Four}
use Rattle.plist_base.specs.Trees.{Real}
use Rattle.plist_base.specs.Object.{Scalar}
use Rattle.plist_decode.proofs.Decoding.{means_small}
use Rattle.plist_decode.proofs.fixed_content.decode_short_real.Goals as goal

pub returns-in-Some : goal.returns-in-Some
returns-in-Some c = λ width first more whole.
    means_small c.small.result c.of_real.ensures
    (c.in-Some.ensures.content more (λ content. Scalar (Real (Four content)))) c.small.ensures width
    (first ∷ (c.args.rest.bytes.now ++ more))
