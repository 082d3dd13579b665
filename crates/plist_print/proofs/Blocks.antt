-- Bytes that are printed block by block.
use Rattle.std.proofs.Common.{◌≡◌, ℕ, zero, suc, ◌+◌, ◌*◌, ◌/◌, ◌%◌, List, [], ◌∷◌, ◌++◌, take, drop, sym, ap, ◌∙◌, arith, append_assoc, drop-drop}
use Rattle.std.specs.List.{flat_map}
use Rattle.std.specs.Simd.{first_chunks}
use Rattle.std.proofs.lemmas.Grind.{flat_map-append}
use Rattle.std.proofs.lemmas.List.{take-append-drop}
use Rattle.plist_print.specs.declared.lines.Notation.{Notation}
use Rattle.plist_print.specs.declared.lines.Notation.TheVariants as notation
use Rattle.plist_print.specs.EscapedLines.{escaped_byte, hexadecimal, hexadecimal_digit, in_notation}

-- the printed forms of two parts are the printed form of both
pub both_noted : (n : Notation) (left right : List ℕ)
    → in_notation n left ++ in_notation n right ≡ in_notation n (left ++ right)
both_noted notation.Text left right = sym (flat_map-append escaped_byte left right)
both_noted notation.Hexadecimal left right =
    sym (flat_map-append (λ byte. hexadecimal_digit (byte / 16) ∷ hexadecimal_digit (byte % 16) ∷ [])
    left right)

-- the digits of all blocks and of the bytes after them are those of all bytes
pub chunks_digits : (size count : ℕ) (bytes : List ℕ)
    → flat_map hexadecimal (first_chunks size count bytes) ++ hexadecimal (drop (count * size) bytes)
    ≡ hexadecimal bytes
chunks_digits size zero bytes = ap (λ k. hexadecimal (drop k bytes)) {x = 0 * size} {y = 0} (omega arith)
chunks_digits size (suc count) bytes =
    append_assoc (hexadecimal (take size bytes)) _ _
    ∙ ap (λ l. hexadecimal (take size bytes) ++ l)
    (ap (λ l. flat_map hexadecimal (first_chunks size count (drop size bytes)) ++ hexadecimal l)
    (ap (λ k. drop k bytes) {x = suc count * size} {y = size + count * size} (omega arith)
    ∙ sym (drop-drop (count * size) size bytes)) ∙ chunks_digits size count (drop size bytes))
    ∙ both_noted notation.Hexadecimal (take size bytes) (drop size bytes)
    ∙ ap hexadecimal (take-append-drop size bytes)
