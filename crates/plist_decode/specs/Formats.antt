-- The format that the first bytes of an input indicate.
use Rattle.std.specs.Prelude.{◌≡◌, ℕ, ◌+◌, ◌-◌, ◌^◌, Bool, if◌then◌else◌, ◌==◌, nat_eq, List, [], ◌∷◌, take, drop, slice_index, Option, None, Some, Result, IfErr}
use Rattle.std.specs.Option.{option_map_or}
use Rattle.std.specs.List.{list_any, prefix_len, starts_with}
use Rattle.plist_base.specs.declared.error.Error.{Error}
use Rattle.plist_base.specs.Container.{magic}
use Rattle.plist_base.specs.Faults.{IsIo, kind_of, error_kind_of, offset_of}
use Rattle.plist_base.specs.Outcomes.{DecodesBy}
use Rattle.plist_base.specs.Sources.{CountsIo}
use Rattle.plist_decode.specs.FaultOffsets.{HasOffset}
use Rattle.plist_decode.specs.declared.format.Format.{Format}
use Rattle.plist_decode.specs.declared.format.Format.TheVariants.{Binary, Xml, Ascii}

-- The meaning of a source's bytes was returned, or the I/O error of the read that failed, which has an
-- offset. The bytes are unchanged.
pub record ReadsMeaning {S A : Type 0} (known : S → Option (List ℕ)) (failed : S → ℕ)
    (meaning : List ℕ → A) (old : S) (answer : Result A Error) (new : S) : Type 0 where
  pub value : DecodesBy answer (known old) meaning
  pub refused : IfErr answer (λ error. IsIo (kind_of (error_kind_of error)))
  pub offset : IfErr answer (λ error. HasOffset (offset_of error))
  pub unchanged : known new ≡ known old
  pub failures : CountsIo (Some answer) (failed old) (failed new)

-- the bytes that can be read, which are at most the first 2^64 - 1
abbrev pub input_front : List ℕ → List ℕ
input_front bytes = take (2 ^ 64 - 1) bytes

-- is the byte a tab, LF, form feed, CR or space?
abbrev pub is_white : ℕ → Bool
is_white c = list_any (λ d. c == d) (9 ∷ 10 ∷ 12 ∷ 13 ∷ 32 ∷ [])

-- the length of the byte order mark of UTF-8 with which the bytes begin, or 0
abbrev pub byte_order_mark_length : List ℕ → ℕ
byte_order_mark_length bytes =
    if starts_with nat_eq bytes (0xEF ∷ 0xBB ∷ 0xBF ∷ []) then 3 else 0

-- the offset of the first byte after white space, from an offset on
abbrev pub past_white : (place : ℕ) → List ℕ → ℕ
past_white place bytes = place + prefix_len is_white (drop place bytes)

-- the offset of the first byte after white space, if that byte is `<`
abbrev pub xml_place : (place : ℕ) → List ℕ → Option ℕ
xml_place place bytes =
    let start = past_white place bytes in if slice_index bytes start == 60 then Some start else None

-- the format: binary if the bytes begin with the magic; XML if the first byte after a byte order
-- mark and white space is `<`; and otherwise ASCII
unfoldable pub format_of : List ℕ → Format
format_of bytes =
    if starts_with nat_eq bytes magic then Binary
    else option_map_or Xml (xml_place (byte_order_mark_length bytes) (input_front bytes)) Ascii
