use Rattle.std.proofs.Common.{arith}
use Rattle.std.proofs.lemmas.Str.{is_utf8-from_IsUtf8}
use Rattle.plist_base.proofs.PackedScalars.{packed_text}
use Rattle.plist_base.proofs.packed_scalar.PackedScalar.of_text.Goals as goal

pub invariant_of-result : goal.invariant_of-result
invariant_of-result c = record {
  packed = packed_text c.as_bytes-bytes.result.now c.padded_number.result (omega arith)
      (is_utf8-from_IsUtf8 _ c.as_bytes-bytes.ensures.utf8) (omega arith) c.padded_number.ensures;
}
