-- The lines of dates, numbers and strings.
use Rattle.std.proofs.Common.{◌≡◌, ℕ, ◌≤◌, zero, suc, true, false, List, [], ◌∷◌, length, refl, ap, arith, bit_or, eqb, leb, ltb, eqb-true, eq-eqb, leb-false, ltb-false}
use Rattle.std.proofs.lemmas.Bool.{le-leb}
use Rattle.plist_base.specs.ByteTests.{EachByte}
use Rattle.plist_base.proofs.ByteBlocks.{mask_left, mask_right, none_left, none_of_two, none_right}
use Rattle.plist_print.specs.EscapedLines.{stands_for_itself, escaped_text}

-- ---- strings whose bytes are printed as they are

-- a byte that passes each of the four comparisons is printed as it is
pub plain_byte : (byte : ℕ) → ltb byte 0x20 ≡ false → leb 0x7f byte ≡ false
    → eqb byte 0x5c ≡ false → eqb byte 0x22 ≡ false → stands_for_itself byte ≡ true
plain_byte byte low high backslash quote =
    let least = ltb-false _ _ low in
    let most = leb-false _ _ high in
    rw (le-leb 0x20 byte (omega arith), le-leb byte 0x7e (omega arith), backslash, quote) refl

-- each byte of a block passes if the bitwise OR of the four masks, which mark the bytes that don't
-- pass, is zero
pub plain_block : (n : ℕ) (bytes : List ℕ) → n ≤ 64 → length bytes ≡ n
    → eqb (bit_or (bit_or (bit_or (mask_left ltb bytes 0x20 n) (mask_right leb bytes 0x7f n))
    (mask_left eqb bytes 0x5c n)) (mask_left eqb bytes 0x22 n)) 0 ≡ true
    → EachByte (λ byte. stands_for_itself byte ≡ true) bytes
plain_block n bytes few long none i within =
    let (three, quote) = none_of_two _ _ (eqb-true _ _ none) in
    let (two, backslash) = none_of_two _ _ three in
    let (low, high) = none_of_two _ _ two in
    plain_byte _ (none_left ltb n 0x20 bytes few long (eq-eqb _ _ low) i within)
    (none_right leb n 0x7f bytes few long (eq-eqb _ _ high) i within)
    (none_left eqb n 0x5c bytes few long (eq-eqb _ _ backslash) i within)
    (none_left eqb n 0x22 bytes few long (eq-eqb _ _ quote) i within)

-- a text whose bytes all stand for themselves is printed as it is
pub plain_text : (text : List ℕ) → EachByte (λ byte. stands_for_itself byte ≡ true) text
    → escaped_text text ≡ text
plain_text [] each = refl
plain_text (byte ∷ text) each =
    rw (each zero (omega arith))
    (ap (λ rest. byte ∷ rest) (plain_text text (λ i within. each (suc i) (omega arith))))
