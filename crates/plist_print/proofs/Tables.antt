-- The tables of the hexadecimal digits, and of the bytes of a string that are printed as they are.
use Rattle.std.proofs.Common.{◌≡◌, ℕ, ◌<◌, true, false, eqb, eqb-true, get_or, refl}
use Rattle.std.proofs.lemmas.Bool.{agree_below_at}
use Rattle.plist_print.specs.EscapedLines.{hexadecimal_digit, stands_for_itself}
use Rattle.plist_print.specs.declared.hexadecimal.TheConstants.{DIGIT_TABLE}
use Rattle.plist_print.specs.declared.plain_bytes.TheConstants.{PLAIN}

-- the entry for a value is its digit
pub is_digit : (value : ℕ) → value < 16 → get_or DIGIT_TABLE value 0 ≡ hexadecimal_digit value
is_digit value within = eqb-true _ _ (agree_below_at
    (λ n. eqb (get_or DIGIT_TABLE n 0) (hexadecimal_digit n)) (λ _. true) 16 value refl within)

-- the entry for a byte says whether the byte is printed as it is
pub is_marked : (byte : ℕ) → byte < 256 → get_or PLAIN byte false ≡ stands_for_itself byte
is_marked byte within =
    agree_below_at (λ n. get_or PLAIN n false) stands_for_itself 256 byte refl within
