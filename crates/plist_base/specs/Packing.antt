-- How a tag and eight bytes store a scalar.
use Rattle.std.specs.Prelude.{◌≡◌, ℕ, ◌+◌, ◌-◌, ◌==◌, ◌≤◌, pos, negsuc, true, false, if◌then◌else◌, nat_le, Some, List, ◌++◌, length, replicate, take, ⊤}
use Rattle.std.specs.Int.{w64, cast_signed, cast_unsigned, from_be_bytes, to_be_bytes}
use Rattle.std.specs.Str.{is_utf8}
use Rattle.std.proofs.Props.{props}
use Rattle.plist_base.specs.Date.{date_of_bytes}
use Rattle.plist_base.specs.Trees.{Scalar, Boolean, Data, Date, Integer, Real, String, Uid}
use Rattle.plist_base.specs.declared.packed_scalar.PackedKind.{PackedKind}
use Rattle.plist_base.specs.declared.packed_scalar.PackedKind.TheVariants as kind
use Rattle.plist_base.specs.declared.real.RealBits.TheVariants.{Four, Eight}

-- the bytes, followed by zeros up to eight bytes
abbrev pub padded : List ℕ → List ℕ
padded bytes = bytes ++ replicate (8 - length bytes) 0

-- the number whose eight bytes begin with these, in big-endian order, and continue with zeros
abbrev pub number_of_padded : List ℕ → ℕ
number_of_padded bytes = from_be_bytes w64 (padded bytes)

-- the eight bytes of a content in big-endian order
abbrev pub content_bytes : ℕ → List ℕ
content_bytes content = to_be_bytes w64 content

-- ---- from a scalar to its tag and its content

-- the scalar can be stored: a string or data has at most eight bytes
abbrev pub IsPackable : Scalar → Type 0
IsPackable (Data bytes) = length bytes ≤ 8
IsPackable (String text) = (length text ≤ 8) × (is_utf8 text ≡ true)
IsPackable (Date bytes) = date_of_bytes bytes ≡ Some bytes
IsPackable scalar = ⊤

-- this fact has at most one proof
pub packable_prop : (scalar : Scalar) → IsProp (IsPackable scalar)
packable_prop (Data bytes) = hlevel props
packable_prop scalar = hlevel props

-- the tag, which encodes the kind of a scalar, the value of a Boolean, and the length of data or of a
-- string
abbrev pub tag_of : Scalar → ℕ
tag_of (Boolean value) = if value then 2 else 1
tag_of (Integer (pos number)) = 3
tag_of (Integer (negsuc number)) = 4
tag_of (Real (Eight bytes)) = 5
tag_of (Real (Four bytes)) = 6
tag_of (Uid number) = 7
tag_of (Data bytes) = 8 + length bytes
tag_of (String text) = 17 + length text
tag_of (Date bytes) = 26

-- the content
abbrev pub content_of : Scalar → ℕ
content_of (Boolean value) = 0
content_of (Integer number) = cast_unsigned w64 number
content_of (Real (Eight bytes)) = number_of_padded bytes
content_of (Real (Four bytes)) = number_of_padded bytes
content_of (Uid number) = number
content_of (Data bytes) = number_of_padded bytes
content_of (String text) = number_of_padded text
content_of (Date bytes) = number_of_padded bytes

-- ---- from a tag and a content to the scalar

-- the kind that a tag encodes
abbrev pub kind_of_tag : ℕ → PackedKind
kind_of_tag tag =
    if nat_le tag 1 then kind.Boolean false
    else (if tag == 2 then kind.Boolean true
    else (if tag == 3 then kind.Unsigned
    else (if tag == 4 then kind.Negative
    else (if tag == 5 then kind.Real
    else (if tag == 6 then kind.ShortReal
    else (if tag == 7 then kind.Uid
    else (if nat_le tag 16 then kind.Data (tag - 8)
    else (if nat_le tag 25 then kind.String (tag - 17)
    else kind.Date))))))))

-- the scalar of this kind and with this content
abbrev pub scalar_of_kind : PackedKind → (content : ℕ) → Scalar
scalar_of_kind (kind.Boolean value) content = Boolean value
scalar_of_kind kind.Unsigned content = Integer (pos content)
scalar_of_kind kind.Negative content = Integer (cast_signed w64 content)
scalar_of_kind kind.Real content = Real (Eight (content_bytes content))
scalar_of_kind kind.ShortReal content = Real (Four (take 4 (content_bytes content)))
scalar_of_kind kind.Uid content = Uid content
scalar_of_kind (kind.Data size) content = Data (take size (content_bytes content))
scalar_of_kind (kind.String size) content = String (take size (content_bytes content))
scalar_of_kind kind.Date content = Date (content_bytes content)

-- the scalar with this tag and this content
abbrev pub unpacked : (tag content : ℕ) → Scalar
unpacked tag content = scalar_of_kind (kind_of_tag tag) content

-- a scalar has this tag and this content
pub record IsPacked (tag content : ℕ) : Type 0 where
  pub packable : IsPackable (unpacked tag content)
  pub tagged : tag_of (unpacked tag content) ≡ tag
  pub contained : content_of (unpacked tag content) ≡ content
