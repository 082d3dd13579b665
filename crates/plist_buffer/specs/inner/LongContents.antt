-- The forms and bytes of long scalars, and their equality.
use Rattle.std.proofs.Common.{ap, subst}
use Rattle.std.specs.Cmp.{IsEquivalence, decided}
use Rattle.std.specs.List.{list_all}
use Rattle.std.specs.Prelude.{◌≡◌, ℕ, ◌<◌, Bool, true, List, [], ◌∷◌, length, nat_lt, take, if◌then◌else◌}
use Rattle.plist_base.proofs.ScalarTests.{scalar_is, scalar_refl}
use Rattle.plist_base.specs.Scalars.{scalar_eq}
use Rattle.plist_base.specs.Trees.{Scalar, Data, String}
use Rattle.plist_base.specs.Utf16.{IsUtf16, utf16_form, utf8_of_utf16}
use Rattle.plist_buffer.specs.declared.short_bytes.ShortBytes.{ShortBytes}
use Rattle.plist_buffer.specs.declared.long_scalar.LongContent.{LongContent}
use Rattle.plist_buffer.specs.declared.long_scalar.LongContent.TheVariants as content
use Rattle.plist_buffer.specs.declared.long_scalar.Form.{Form}
use Rattle.plist_buffer.specs.declared.long_scalar.Form.TheVariants as form

-- is each byte ASCII?
abbrev pub is_ascii_text : List ℕ → Bool
is_ascii_text text = list_all (λ byte. nat_lt byte 128) text

-- the bytes that are stored in a value itself
abbrev pub short_bytes : ShortBytes → List ℕ
short_bytes short = take short.len short.bytes

-- the form in which the string or data is stored
abbrev pub form_in : LongContent → Form
form_in (content.ShortAscii bytes) = form.Ascii
form_in (content.ShortWide bytes) = form.Wide
form_in (content.ShortData bytes) = form.Data
form_in (content.Borrowed stored bytes) = stored
form_in (content.Owned stored bytes) = stored

-- the stored bytes
abbrev pub bytes_stored : LongContent → List ℕ
bytes_stored (content.ShortAscii bytes) = short_bytes bytes
bytes_stored (content.ShortWide bytes) = short_bytes bytes
bytes_stored (content.ShortData bytes) = short_bytes bytes
bytes_stored (content.Borrowed stored bytes) = bytes.now
bytes_stored (content.Owned stored bytes) = bytes.items

-- the scalar that these bytes encode in a form
abbrev pub scalar_from : Form → List ℕ → Scalar
scalar_from form.Ascii bytes = String bytes
scalar_from form.Wide bytes = String (utf8_of_utf16 bytes)
scalar_from form.Data bytes = Data bytes

-- the form of a string or data
abbrev pub form_of_scalar : Scalar → Form
form_of_scalar (String text) = if is_ascii_text text then form.Ascii else form.Wide
form_of_scalar scalar = form.Data

-- the bytes of a string or data in its form
abbrev pub bytes_of_scalar : Scalar → List ℕ
bytes_of_scalar (String text) = if is_ascii_text text then text else utf16_form text
bytes_of_scalar (Data bytes) = bytes
bytes_of_scalar scalar = []

-- the number of bytes of a string in UTF-8 or of data, and 0 for any other scalar
abbrev pub bytes_in_scalar : Scalar → ℕ
bytes_in_scalar (String text) = length text
bytes_in_scalar (Data bytes) = length bytes
bytes_in_scalar scalar = 0

-- in this form, which is its own, these bytes encode a string or data of more than eight bytes
pub record IsLongIn (stored : Form) (bytes : List ℕ) : Type 0 where
  pub long : 8 < bytes_in_scalar (scalar_from stored bytes)
  pub own : stored ≡ form_of_scalar (scalar_from stored bytes)
  pub valid : stored ≡ form.Wide → IsUtf16 bytes

-- the equality of scalars is an equivalence
pub scalars_equiv : IsEquivalence scalar_eq
scalars_equiv = decided scalar_eq
    (λ a b. (scalar_is a b, λ same. subst (λ c. scalar_eq a c ≡ true) same (scalar_refl a)))

-- equal scalars write the same to a hasher
pub equal_long_write_same : (a b : Scalar) → scalar_eq a b ≡ true
    → bytes_of_scalar a ∷ [] ≡ bytes_of_scalar b ∷ []
equal_long_write_same a b h = ap (λ scalar. bytes_of_scalar scalar ∷ []) (scalar_is a b h)
