use Rattle.std.proofs.Common.{◌∷◌, ◌++◌, refl}
use Rattle.plist_base.proofs.Layouts.{layout-uid}
use Rattle.plist_decode.proofs.Decoding.{means_small}
use Rattle.plist_decode.proofs.Markers.{object_by_half, object_is_boolean}
use Rattle.plist_decode.proofs.object.decode_after_marker.Goals as goal

pub returns-in-Boolean : goal.returns-in-Boolean
returns-in-Boolean c = λ first more whole.
    means_small c.small.result c.of_boolean.ensures
    (object_is_boolean c.args.width c.args.marker c.in-Boolean.value (c.args.rest.bytes.now ++ more)
    c.in-Boolean.ensures.byte) c.small.ensures c.args.width
    (first ∷ (c.args.rest.bytes.now ++ more))

pub returns-in-Integer1 : goal.returns-in-Integer1
returns-in-Integer1 c = rw (← c.in-Integer1.ensures.byte) (c.decode_unsigned.ensures _)

pub returns-in-Integer2 : goal.returns-in-Integer2
returns-in-Integer2 c = rw (← c.in-Integer2.ensures.byte) (c.decode_unsigned-in-Integer2.ensures _)

pub returns-in-Integer4 : goal.returns-in-Integer4
returns-in-Integer4 c = rw (← c.in-Integer4.ensures.byte) (c.decode_unsigned-in-Integer4.ensures _)

pub returns-in-Integer8 : goal.returns-in-Integer8
returns-in-Integer8 c = rw (← c.in-Integer8.ensures.byte) (c.decode_signed.ensures _)

pub returns-in-Integer16 : goal.returns-in-Integer16
returns-in-Integer16 c = rw (← c.in-Integer16.ensures.byte) (c.decode_wide_integer.ensures _)

pub returns-in-Real4 : goal.returns-in-Real4
returns-in-Real4 c = rw (← c.in-Real4.ensures.byte) (c.decode_short_real.ensures _)

pub returns-in-Real8 : goal.returns-in-Real8
returns-in-Real8 c = rw (← c.in-Real8.ensures.byte) (c.decode_real.ensures _)

pub returns-in-Date : goal.returns-in-Date
returns-in-Date c = rw (← c.in-Date.ensures.byte) (c.decode_date.ensures _)

pub returns-in-Uid : goal.returns-in-Uid
returns-in-Uid c = rw (
  ← c.in-Uid.ensures.byte,
  layout-uid c.args.width c.in-Uid.size c.in-Uid.ensures.decoded.0 c.in-Uid.ensures.decoded.1,
) (c.decode_uid.ensures _)

pub returns-in-Data : goal.returns-in-Data
returns-in-Data c = λ first more whole.
    rw (object_by_half c.args.width c.args.marker c.in-Counted.kind c.in-Counted.low _
    c.in-Counted.ensures.decoded c.in-Counted.ensures.byte)
    (rw c.in-Data.is (c.decode_data.ensures _ first more whole))

pub returns-in-Text : goal.returns-in-Text
returns-in-Text c = λ first more whole.
    rw (object_by_half c.args.width c.args.marker c.in-Counted.kind c.in-Counted.low _
    c.in-Counted.ensures.decoded c.in-Counted.ensures.byte)
    (rw c.in-Text.is (c.decode_text.ensures _ first more whole))

pub returns-in-WideText : goal.returns-in-WideText
returns-in-WideText c = λ first more whole.
    rw (object_by_half c.args.width c.args.marker c.in-Counted.kind c.in-Counted.low _
    c.in-Counted.ensures.decoded c.in-Counted.ensures.byte)
    (rw c.in-WideText.is (c.decode_wide_text.ensures _ first more whole))

pub returns-in-Array : goal.returns-in-Array
returns-in-Array c = λ first more whole.
    rw (object_by_half c.args.width c.args.marker c.in-Counted.kind c.in-Counted.low _
    c.in-Counted.ensures.decoded c.in-Counted.ensures.byte)
    (rw c.in-Array.is (c.decode_collection.ensures first more whole))

pub returns-in-Dictionary : goal.returns-in-Dictionary
returns-in-Dictionary c = λ first more whole.
    rw (object_by_half c.args.width c.args.marker c.in-Counted.kind c.in-Counted.low _
    c.in-Counted.ensures.decoded c.in-Counted.ensures.byte)
    (rw c.in-Dictionary.is (c.decode_collection-in-Dictionary.ensures first more whole))

pub returns-in-Unknown : goal.returns-in-Unknown
returns-in-Unknown c = rw (← c.in-Unknown.ensures.byte, c.in-Unknown.ensures.decoded _)
    (λ first more whole. (refl, tt))
