use Rattle.std.proofs.Common.{◌≡◌, ◌<◌, ◌+◌, ℕ, List, ap, arith, length, rules, subst, sym, take, true, ◌∙◌}
use Rattle.std.specs.Str.{IsAscii, is_utf8}
use Rattle.std.proofs.lemmas.List.{length-take-le}
use Rattle.std.proofs.lemmas.Str.{IsAscii-take, IsUtf8-from_ascii, IsUtf8-from_is_utf8, is_utf8-from_IsUtf8}
use Rattle.std.proofs.Math.Seq.{take-append_seam}
use Rattle.plist_base.specs.ByteTests.{EachByte}
use Rattle.plist_base.specs.PackedScalars.{scalar_of_packed}
use Rattle.plist_base.specs.Packing.{IsPackable, IsPacked, content_bytes, padded}
use Rattle.plist_base.specs.Trees.{String}
use Rattle.plist_base.proofs.ByteBlocks.{ascii_from_each}
use Rattle.plist_base.proofs.PackedScalars.{packed_text, take_padded}
use Rattle.plist_decode.proofs.Contents.{text-utf8}
use Rattle.plist_decode.proofs.Decoding.{means_small}
use Rattle.plist_decode.proofs.counted_content.short_text.Goals as goal
use Rattle.plist_decode.proofs.counted_content.short_text.Goals.{else-not-is_ascii-via-then-not-is_ascii+else-not-is_utf8, else-not-is_ascii-via-else-not-is_ascii}

-- bytes are UTF-8 if they and the zeros after them are ASCII
ascii_utf8 : (bytes all : List ℕ) → all ≡ padded bytes → EachByte (λ byte. byte < 128) all
    → is_utf8 bytes ≡ true
ascii_utf8 bytes all same ascii = is_utf8-from_IsUtf8 bytes (IsUtf8-from_ascii bytes
    (subst IsAscii (ap (take (length bytes)) same ∙ take-append_seam bytes _)
    (IsAscii-take all (length bytes) (ascii_from_each all ascii))))

pub from_parts-requires : goal.from_parts-requires
from_parts-requires c =
    let bytes = take c.args.count c.args.bytes.now in
    let content = c.short_content-content.result in
    let long = length-take-le c.args.count c.args.bytes.now c.requires.1 in
    let utf8 : is_utf8 bytes ≡ true = elim c.else-not-is_ascii.branch [
      | else-not-is_ascii-via-then-not-is_ascii+else-not-is_utf8 w ↦ search rules
      | else-not-is_ascii-via-else-not-is_ascii w ↦ ascii_utf8 _ c.to_be_bytes.result
          (search rules) (search rules)
    ] in
    subst (λ n. IsPacked (17 + n) content) long (packed_text bytes content
    (omega (arith, long, c.requires.0)) utf8 (search rules) c.short_content-content.ensures)

pub returns : goal.returns
returns c =
    let count = c.args.count in
    let bytes = take count c.args.bytes.now in
    let content = c.short_content-content.result in
    let front : take count (content_bytes content) ≡ bytes =
    ap (λ n. take n (content_bytes content)) (sym (length-take-le count c.args.bytes.now c.requires.1))
    ∙ take_padded bytes content c.short_content-content.ensures in
    let is : scalar_of_packed c.from_parts.result ≡ String bytes = search (rules, front) in
    means_small c.small.result is
    (text-utf8 bytes (IsUtf8-from_is_utf8 _ (subst IsPackable is c.from_parts.result.packed.packable).1))
    c.small.ensures
