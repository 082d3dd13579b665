use Rattle.std.proofs.Common.{◌∷◌, ◌≡◌, ◌<◌, ◌++◌, pos, ◌∙◌, arith}
use Rattle.plist_base.specs.Trees.{Integer}
use Rattle.plist_base.specs.Object.{Scalar, wide_integer, meaning_of_front}
use Rattle.plist_decode.proofs.Contents.{wide_front, wide_low, wide_high}
use Rattle.plist_decode.proofs.Decoding.{means_small}
use Rattle.plist_decode.proofs.fixed_content.decode_wide_integer.Goals as goal

pub returns-then-high-ne0 : goal.returns-then-high-ne0
returns-then-high-ne0 c =
    let some : 0 < c.number_from-high.result = omega arith in
    rw c.faulty-then-high-ne0.ensures (λ width first more whole. (
      wide_front _ _ c.if-bytes-lt16.false
          ∙ rw (← c.number_from-high.ensures.value, ← c.number_from-low.ensures.value)
          (wide_high _ _ some (omega arith) (omega arith)),
      tt,
    ))

pub returns : goal.returns
returns c = λ width first more whole.
    let is : meaning_of_front 16 wide_integer (c.args.rest.bytes.now ++ more)
    ≡ Scalar (Integer (pos c.number_from-low.result)) = wide_front _ _
    c.if-bytes-lt16.false
    ∙ rw (
      ← c.number_from-high.ensures.value,
      ← c.number_from-low.ensures.value,
      c.if-high-ne0.false,
    )
    (wide_low c.number_from-low.result (omega arith)) in
    means_small c.small.result c.of_unsigned.ensures is c.small.ensures width
    (first ∷ (c.args.rest.bytes.now ++ more))
