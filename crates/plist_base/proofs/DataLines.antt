-- Lines of base64, and how they are read back.
use Rattle.std.proofs.Common.{◌≡◌, ℕ, zero, suc, ◌+◌, ◌-◌, ◌*◌, ◌%◌, ◌<◌, ◌≤◌, Bool, true, ◌↔◌, not, cond, List, [], ◌∷◌, ◌++◌, length, map, min, take, drop, replicate, slice_index, Some, refl, sym, ap, ◌∙◌, append_assoc, rules, arith}
use Rattle.std.proofs.lemmas.List.{append-nil, length-take-le, length-drop, take_all, take_min}
use Rattle.std.proofs.lemmas.List.Elements.{filter-append}
use Rattle.std.proofs.lemmas.List.Folds.{concat-append}
use Rattle.std.proofs.lemmas.List.FromFn.{map-range_with_len_more}
use Rattle.std.specs.Int.{div_ceil}
use Rattle.std.proofs.lemmas.Grind.{div_ceil_times}
use Rattle.std.proofs.Math.Seq.{take-add}
use Rattle.std.specs.List.{concat, join_with_byte, list_all, range_with_len}
use Rattle.std.specs.Char.{is_ascii_whitespace}
use Rattle.base64.specs.Engines.{standard}
use Rattle.base64.specs.GeneralPurpose.{IsBytes, IsDecodeFailure, decode_of, decoded_of, encode_of}
use Rattle.base64.specs.declared.decode.DecodeAllocError.{DecodeAllocError}
use Rattle.base64.specs.declared.decode.DecodeAllocError.TheVariants as decoding
use Rattle.std.specs.Result.{result_ok, IfErr, IsErrAnd}
use Rattle.std.specs.Prelude.{Result, Ok}
use Rattle.plist_base.specs.declared.data.InvalidXmlData.{InvalidXmlData}
use Rattle.std.proofs.lemmas.Bool.{and_parts}
use Rattle.base64.specs.Rfc4648.{encode_symbols}
use Rattle.base64.proofs.EngineFacts.{decode_of-encode_of, decode_of_iff, encode_of-append, encode_of-nil}
use Rattle.base64.proofs.Streams.{decoded_of-ok}
use Rattle.plist_base.specs.DataText.{first_lines, data_text, without_white, data_of_text, IsFaultOfText, IsNoData, refusal_of_decoding}

-- ---- no white space in base64

abbrev pub is_dark : ℕ → Bool
is_dark byte = not (is_ascii_whitespace byte)

-- the text has no white space
abbrev pub IsDark : List ℕ → Type 0
IsDark text = without_white text ≡ text

dark-append : (a b : List ℕ) → IsDark a → IsDark b → IsDark (a ++ b)
dark-append a b first rest = filter-append _ a b ∙ rw (first, rest) refl

dark_at : (symbols : List ℕ) (i : ℕ) → list_all is_dark symbols ≡ true
    → is_dark (slice_index symbols i) ≡ true
dark_at [] i all = refl
dark_at (x ∷ symbols) zero all = (and_parts _ _ all).0
dark_at (x ∷ symbols) (suc i) all = dark_at symbols i (and_parts _ _ all).1

symbol_is_dark : (i : ℕ) → is_dark (slice_index standard.encode_table i) ≡ true
symbol_is_dark i = dark_at standard.encode_table i refl

dark-symbols : (bytes : List ℕ) → IsDark (encode_symbols standard.encode_table bytes)
unfolding encode_symbols
dark-symbols [] = refl
dark-symbols (a ∷ []) = simp symbol_is_dark
dark-symbols (a ∷ b ∷ []) = simp symbol_is_dark
dark-symbols (a ∷ b ∷ c ∷ rest) = simp (symbol_is_dark, dark-symbols rest)

dark-padding : (n : ℕ) → IsDark (replicate n 61)
dark-padding zero = refl
dark-padding (suc n) = rw (dark-padding n) refl

dark-base64 : (bytes : List ℕ) → IsDark (encode_of standard bytes)
dark-base64 bytes = dark-append (encode_symbols _ _) _ (dark-symbols _) (dark-padding _)

-- ---- the lines

abbrev pub written : List ℕ → ℕ → List ℕ
written bytes line = encode_of standard (take 51 (drop (line * 51) bytes))

-- if white space is removed, the lines follow one another
dark-lines : (bytes lines : List ℕ)
    → without_white (join_with_byte 10 (map (written bytes) lines))
    ≡ concat (map (written bytes) lines)
dark-lines bytes [] = refl
dark-lines bytes (line ∷ []) = dark-base64 (take 51 (drop (line * 51) bytes)) ∙ sym (append-nil _)
dark-lines bytes (line ∷ next ∷ lines) =
    filter-append is_dark (written bytes line) _
    ∙ rw (dark-base64 (take 51 (drop (line * 51) bytes)), dark-lines bytes (next ∷ lines)) refl

concat-lines : (bytes : List ℕ) (count : ℕ) → count * 51 < length bytes + 51
    → concat (first_lines count bytes) ≡ encode_of standard (take (count * 51) bytes)
concat-lines bytes zero fits = sym (encode_of-nil standard)
concat-lines bytes (suc count) fits =
    let front = take (count * 51) bytes in
    let fills : length front ≡ count * 51 = length-take-le (count * 51) bytes (omega (arith, fits))
    in
    let whole : length front % 3 ≡ 0 = omega (arith, fills) in
    let split : take (suc count * 51) bytes ≡ front ++ take 51 (drop (count * 51) bytes) =
    ap (λ n. take n bytes) (omega arith) ∙ take-add (count * 51) 51 _ in
    let next : suc count ≡ count + 1 = omega arith in
    ap (λ k. concat (first_lines k bytes)) next
    ∙ ap concat (map-range_with_len_more (written bytes) 0 count count (omega arith))
    ∙ concat-append (first_lines count bytes) (written bytes count ∷ [])
    ∙ rw (append-nil, split, concat-lines bytes count (omega (arith, fits)))
    (sym (encode_of-append standard front _ whole))

-- ---- one more line

join-next : (first : List ℕ) (lines : List (List ℕ)) (line : List ℕ)
    → join_with_byte 10 (first ∷ (lines ++ line ∷ [])) ≡ join_with_byte 10 (first ∷ lines) ++ 10
    ∷ line
join-next first [] line = refl
join-next first (next ∷ lines) line =
    rw (join-next next lines line)
    (sym (append_assoc first (10 ∷ join_with_byte 10 (next ∷ lines)) (10 ∷ line)))

-- the bytes from `start` to `end` are those of the line that begins at `start`
pub line-slice : (bytes : List ℕ) (start end : ℕ) → end ≡ min (length bytes) (start + 51)
    → start ≤ length bytes → take (end - start) (drop start bytes) ≡ take 51 (drop start bytes)
line-slice bytes start end is fits =
    let short : end - start ≡ min 51 (length (drop start bytes)) = omega
    (arith, is, fits, length-drop start bytes) in
    ap (λ n. take n (drop start bytes)) short ∙ take_min 51 _

-- the first line is written
pub lines-first : (bytes : List ℕ) (line : ℕ) {old mid new : List ℕ}
    → new ≡ mid ++ written bytes line → mid ≡ old
    → old ≡ join_with_byte 10 (first_lines line bytes) → line ≡ 0
    → new ≡ join_with_byte 10 (first_lines (line + 1) bytes)
lines-first bytes line grows same lines none = rw (grows, same, lines, none) refl

-- one more line is written after the first
pub lines-next : (bytes : List ℕ) (line : ℕ) {old mid end new : List ℕ}
    → new ≡ mid ++ written bytes line → mid ≡ old ++ end → end ≡ 10 ∷ []
    → old ≡ join_with_byte 10 (first_lines line bytes) → 0 < line
    → new ≡ join_with_byte 10 (first_lines (line + 1) bytes)
lines-next bytes zero grows ends lf lines some = absurd (omega arith)
lines-next bytes (suc line) grows ends lf lines some =
    let f = written bytes in
    let more : first_lines (suc line + 1) bytes ≡ first_lines (suc line) bytes
    ++ f (suc line) ∷ [] = map-range_with_len_more f 0 (suc line) (suc line) (omega arith) in
    rw (grows, ends, lf, lines, append_assoc, more)
    (sym (join-next (f 0) (map f (range_with_len 1 line)) (f (suc line))))

-- what is written is read back
pub written-reads : (bytes : List ℕ) → IsBytes bytes → data_of_text (data_text bytes) ≡ Some bytes
unfolding data_of_text data_text
written-reads bytes are_bytes =
    let count = div_ceil (length bytes) 51 in
    let whole_lines = div_ceil_times (length _) 51 (omega arith) in
    let all : take (count * 51) bytes ≡ bytes = take_all (count * 51) _ whole_lines.0 in
    let text : without_white (join_with_byte 10 (first_lines count bytes))
    ≡ encode_of standard bytes = dark-lines bytes (range_with_len 0 _)
    ∙ concat-lines _ count whole_lines.1 ∙ ap (encode_of standard) all in
    rw text (decoded_of-ok standard (encode_of standard bytes) bytes
    (decode_of-encode_of standard bytes refl are_bytes))

-- ---- exactly the base64 of bytes is read

bytes-kept : (keep : Bool) (x : ℕ) (xs : List ℕ) → x < 256 → IsBytes xs
    → IsBytes (cond keep (x ∷ xs) xs)
bytes-kept keep x xs first rest = search rules

bytes-dark : (text : List ℕ) → IsBytes text → IsBytes (without_white text)
bytes-dark [] are = are
bytes-dark (x ∷ text) are =
    bytes-kept (is_dark x) x (without_white text) (are 0)
    (bytes-dark text (λ i. are (suc i)))

pub spelled : (text bytes : List ℕ) → IsBytes text → IsBytes bytes
    → (data_of_text text ≡ Some bytes) ↔ (without_white text ≡ encode_of standard bytes)
unfolding data_of_text decoded_of
spelled text bytes are_bytes bytes_are =
    let both = decode_of_iff standard _ _ (refl, refl)
    (bytes-dark text are_bytes) bytes_are in (
      λ is. both.0 (search rules),
      λ is. ap
          result_ok (both.1 is),
    )

-- the bytes to which a text is decoded without its white space are those of the text
pub data_decoded : (text dark bytes : List ℕ) → dark ≡ without_white text
    → decode_of standard dark ≡ Ok bytes → data_of_text text ≡ Some bytes
unfolding data_of_text
data_decoded text dark bytes is decoded =
    decoded_of-ok _ _ _ (rw is at decoded)

-- the lines together are the text
pub text_of_lines : (bytes : List ℕ) (count : ℕ) (text : List ℕ)
    → text ≡ join_with_byte 10 (first_lines count bytes) → count ≡ div_ceil (length bytes) 51
    → text ≡ data_text bytes
unfolding data_text
text_of_lines bytes count text is all = is ∙ ap (λ n. join_with_byte 10 (first_lines n bytes)) all

-- what is true of the error that was made is true of the result's error
pub refused_as : {A : Type 0} (P : InvalidXmlData → Type 0) (made : InvalidXmlData)
    (answer : Result A InvalidXmlData) → IsErrAnd answer (λ refusal. refusal ≡ made) → P made
    → IfErr answer P
refused_as P made answer is holds = search (rules, is)

-- the error of parsing a text is that of decoding it without white space
pub fault_of_text : (text dark : List ℕ) (error : DecodeAllocError) → dark ≡ without_white text
    → IsDecodeFailure standard dark error → IsFaultOfText text (refusal_of_decoding error)
fault_of_text text dark (decoding.DecodeError fault) is refused = rw is at refused
fault_of_text text dark decoding.OutOfMemory is refused = tt

-- a text that can't be decoded isn't the base64 of any bytes
pub no_data : (text dark : List ℕ) (error : DecodeAllocError) → dark ≡ without_white text
    → IsDecodeFailure standard dark error → IsNoData text (refusal_of_decoding error)
unfolding data_of_text decoded_of
no_data text dark (decoding.DecodeError fault) is refused = ap result_ok (rw is at refused)
no_data text dark decoding.OutOfMemory is refused = tt

-- rules for texts that are decoded or refused
pub ruleset refusals = (data_decoded, fault_of_text, no_data, refused_as)
