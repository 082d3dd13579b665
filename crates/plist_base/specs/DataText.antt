-- The text form of data: lines of base64 (RFC 4648, section 4).
use Rattle.std.specs.Prelude.{◌≡◌, ◌↔◌, ℕ, ◌*◌, not, List, length, map, take, drop, ◌++◌, Option, None, Some, Err, codes, ⊤}
use Rattle.std.specs.List.{filter, join_with_byte, range_with_len}
use Rattle.std.specs.Char.{is_ascii_whitespace}
use Rattle.std.specs.Int.{div_ceil}
use Rattle.base64.specs.Engines.{standard}
use Rattle.base64.specs.GeneralPurpose.{encode_of, decode_of, decoded_of}
use Rattle.base64.specs.declared.decode.DecodeAllocError.{DecodeAllocError}
use Rattle.base64.specs.declared.decode.DecodeAllocError.TheVariants as decoding
use Rattle.std.specs.Borrow.{Array, Fml, Lends, MutBor, u8}
use Rattle.plist_base.specs.contracts.data.Data.{the_row}
use Rattle.plist_base.specs.declared.data.InvalidXmlData.{InvalidXmlData}
use Rattle.plist_base.specs.declared.data.InvalidXmlData.TheVariants.{Decode, OutOfMemory}

-- the data after new bytes are written over its first ones; its length is unchanged
abbrev pub overwritten : (bytes new : List ℕ) → List ℕ
overwritten bytes new = take (length bytes) (new ++ drop (length new) bytes)

-- when the reference `lent` ends, the bytes to which it points are written over the first ones of
-- the data
abbrev pub LendsBytes : MutBor (List ℕ) → MutBor (List ℕ) → Fml
LendsBytes bytes lent = Lends the_row (Array u8 0) bytes lent (overwritten bytes.now)

-- the new bytes replace all old ones
abbrev pub IsAllNew : (bytes new : List ℕ) → Type 0
IsAllNew bytes new = overwritten bytes new ≡ new

-- ---- what is written

-- the base64 of the first `count` lines; a line has 51 bytes, or fewer if it is the last one
abbrev pub first_lines : ℕ → List ℕ → List (List ℕ)
first_lines count bytes =
    map (λ line. encode_of standard (take 51 (drop (line * 51) bytes))) (range_with_len 0 count)

-- the text form of data, which is all lines, separated by LF
unfoldable pub data_text : List ℕ → List ℕ
data_text bytes = join_with_byte 10 (first_lines (div_ceil (length bytes) 51) bytes)

-- ---- what is read

-- the text without its tabs, LFs, form feeds, CRs and spaces
abbrev pub without_white : List ℕ → List ℕ
without_white text = filter (λ byte. not (is_ascii_whitespace byte)) text

-- the bytes whose padded base64 is the text without white space, if there are any
unfoldable pub data_of_text : List ℕ → Option (List ℕ)
data_of_text text = decoded_of standard (without_white text)

-- the text is read as these bytes if and only if it is their base64 up to white space
abbrev pub IsReadWhereSpelled : (text bytes : List ℕ) → Type 0
IsReadWhereSpelled text bytes =
    (data_of_text text ≡ Some bytes) ↔ (without_white text ≡ encode_of standard bytes)

-- unless it is `OutOfMemory`, the error is the decoder's for the text without white space
abbrev pub IsFaultOfText : List ℕ → InvalidXmlData → Type 0
IsFaultOfText text (Decode fault) = decode_of standard (without_white text) ≡ Err fault
IsFaultOfText text OutOfMemory = ⊤

-- unless the error is `OutOfMemory`, there are no bytes whose base64 is the text
abbrev pub IsNoData : List ℕ → InvalidXmlData → Type 0
IsNoData text (Decode fault) = data_of_text text ≡ None
IsNoData text OutOfMemory = ⊤

-- the error of parsing that reports this error of the decoder
abbrev pub refusal_of_decoding : DecodeAllocError → InvalidXmlData
refusal_of_decoding (decoding.DecodeError fault) = Decode fault
refusal_of_decoding decoding.OutOfMemory = OutOfMemory

-- the printed form of the error
abbrev pub refusal_text : InvalidXmlData → List ℕ
refusal_text (Decode fault) = codes "Invalid XML data"
refusal_text OutOfMemory = codes "OutOfMemory"
