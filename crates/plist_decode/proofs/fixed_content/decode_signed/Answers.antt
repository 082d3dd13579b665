use Rattle.std.proofs.Common.{◌≡◌, ◌∷◌, ◌++◌, ap, arith, rules, ◌∙◌}
use Rattle.plist_base.specs.PackedScalars.{scalar_of_packed}
use Rattle.plist_base.specs.Trees.{Integer}
use Rattle.plist_base.specs.Object.{Scalar, signed}
use Rattle.plist_decode.proofs.Contents.{signed_bits}
use Rattle.plist_decode.proofs.Decoding.{means_small}
use Rattle.plist_decode.proofs.fixed_content.decode_signed.Goals as goal

pub returns-in-Some : goal.returns-in-Some
returns-in-Some c = λ width first more whole.
    let same : scalar_of_packed c.of_signed.result ≡ Integer c.cast_signed.result = search rules in
    means_small c.small.result
    (same ∙ ap Integer (c.cast_signed.ensures ∙ signed_bits c.in-Some.number (omega arith)))
    (c.in-Some.ensures.value more (λ n. Scalar (Integer (signed 64 n)))) c.small.ensures width
    (first ∷ (c.args.rest.bytes.now ++ more))
