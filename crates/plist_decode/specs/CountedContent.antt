-- Objects that have a length, described by the marker's low half and the bytes after the marker.
use Rattle.std.specs.Prelude.{◌≡◌, ℕ, ◌-◌, ◌*◌, ◌≤◌, List, ◌++◌, length, drop, Some}
use Rattle.std.specs.Borrow.{Bor}
use Rattle.plist_base.specs.Faults.{ObjectOffsetTooLarge}
use Rattle.plist_base.specs.Object.{Object, Scalar, Faulty, length_in, meaning_counted, text, wide_text}
use Rattle.plist_base.specs.Trees.{Data}
use Rattle.plist_decode.specs.declared.decoded.ContentKind.{ContentKind}
use Rattle.plist_decode.specs.declared.decoded.ContentKind.TheVariants as kind

-- ---- what the content is

-- the number of bytes in an element of the content
abbrev pub unit_size : ContentKind → ℕ
unit_size kind.Data = 1
unit_size kind.Text = 1
unit_size kind.WideText = 2

-- the object whose content consists of these bytes
abbrev pub content_means : ContentKind → List ℕ → Object
content_means kind.Data = λ content. Scalar (Data content)
content_means kind.Text = text
content_means kind.WideText = wide_text

-- ---- what lies at the front of bytes

-- the bytes after the length are the last ones of `rest`
abbrev pub LiesAfter : (rest : List ℕ) → ℕ × Bor (List ℕ) → Type 0
LiesAfter rest found = drop (length rest - length found.1.now) rest ≡ found.1.now

-- the number of bytes is a multiple of the size of an element
abbrev pub AreUnits : (size : ℕ) (bytes : List ℕ) → Type 0
AreUnits size bytes = (count : ℕ) × (length bytes ≡ count * size)

-- the length and the bytes after it are these, and the object ends before the trailer
abbrev pub IsCount : (low size to_trailer : ℕ) (rest : List ℕ) → ℕ × Bor (List ℕ) → Type 0
IsCount low size to_trailer rest found = (more : List ℕ) → length (rest ++ more) ≡ to_trailer →
    (length_in low (rest ++ more) ≡ Some (found.0, found.1.now ++ more))
    × (found.0 * size ≤ length (found.1.now ++ more))

-- ---- what is decoded

-- the string or data that has as many elements as its length says
abbrev pub counted_with : ContentKind → (low : ℕ) → List ℕ → Object
counted_with kind low rest =
    meaning_counted (unit_size kind) (λ _. content_means kind) (length_in low rest)

-- the length is cut off, or the object doesn't end before the trailer
abbrev pub RefusesCounted : (low size to_trailer : ℕ) (rest : List ℕ) → Type 0
RefusesCounted low size to_trailer rest = (meaning : ℕ → List ℕ → Object) (more : List ℕ)
    → length (rest ++ more) ≡ to_trailer
    → meaning_counted size meaning (length_in low (rest ++ more)) ≡ Faulty ObjectOffsetTooLarge
