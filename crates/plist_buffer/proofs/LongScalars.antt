-- Which bytes are long scalars in their forms.
use Rattle.std.proofs.Common.{◌≡◌, ◌<◌, ℕ, zero, suc, true, false, List, [], ◌∷◌, length, refl, arith, IsUtf8, nat_lt}
use Rattle.std.specs.Prelude.{IsAscii}
use Rattle.std.proofs.lemmas.Bool.{and_parts, ltb-true}
use Rattle.std.proofs.lemmas.Str.{IsUtf8-from_ascii}
use Rattle.plist_base.specs.Utf16.{utf16_form}
use Rattle.plist_base.proofs.Utf16Forms.{form_back, form_valid}
use Rattle.plist_buffer.specs.inner.LongContents.{is_ascii_text, IsLongIn}
use Rattle.plist_buffer.specs.declared.long_scalar.Form.{Form}
use Rattle.plist_buffer.specs.declared.long_scalar.Form.TheVariants as form

-- each byte of a string in ASCII is ASCII
ascii_bytes : (text : List ℕ) → is_ascii_text text ≡ true → IsAscii text
ascii_bytes [] all i = omega arith
ascii_bytes (byte ∷ rest) all zero =
    ltb-true byte 128 (and_parts (nat_lt byte 128) (is_ascii_text rest) all).0
ascii_bytes (byte ∷ rest) all (suc i) =
    ascii_bytes rest (and_parts (nat_lt byte 128) (is_ascii_text rest) all).1 i

-- a string that is stored in ASCII is one in UTF-8
pub ascii_valid : (stored : Form) (bytes : List ℕ) → IsLongIn stored bytes → stored ≡ form.Ascii
    → IsUtf8 bytes
ascii_valid stored bytes is one = grind (arith, IsUtf8-from_ascii, ascii_bytes, is.own)

-- a string in ASCII is stored as it is
pub ascii_long : (text : List ℕ) → 8 < length text → is_ascii_text text ≡ true
    → IsLongIn form.Ascii text
ascii_long text long ascii = record { long = long; own = rw ascii refl; valid = λ other. absurd cc }

-- a string that isn't ASCII is stored in UTF-16
pub wide_long : (text : List ℕ) → IsUtf8 text → 8 < length text → is_ascii_text text ≡ false
    → IsLongIn form.Wide (utf16_form text)
wide_long text utf8 long wide = grind (arith, form_back text utf8, form_valid text utf8)
