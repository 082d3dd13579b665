-- Characters that are written to memory in UTF-8.
use Rattle.std.proofs.Common.{◌≡◌, ℕ, ◌+◌, ◌/◌, ◌%◌, ◌<◌, ◌≤◌, List, [], ◌∷◌, ◌++◌, length, take, ap, sym, ◌∙◌, arith, append-nil, append_assoc}
use Rattle.std.specs.Char.{encode_utf8, len_utf8}
use Rattle.std.specs.Str.{encode_utf8_all}
use Rattle.std.proofs.lemmas.Bool.{le-ltb, lt-ltb}
use Rattle.std.proofs.lemmas.List.{length-append}
use Rattle.std.proofs.lemmas.Str.{encodes-IsAscii, encodes-append, length-encode}
use Rattle.std.proofs.Math.Seq.{take-append_seam}
use Rattle.plist_base.specs.ByteTests.{EachByte}
use Rattle.plist_base.proofs.ByteBlocks.{ascii_from_each}
use Rattle.plist_decode.specs.Utf16Writing.{WritesChars}

-- ---- the bytes of a character

-- a byte that isn't the first one of a character
abbrev after : (bits : ℕ) → ℕ
after bits = 128 + bits % 64

-- a character of two bytes
pub encoded_two : (c : ℕ) {a b : ℕ} → 0x80 ≤ c → c < 0x800 → a ≡ 192 + c / 64 → b ≡ after c
    → a ∷ b ∷ [] ≡ encode_utf8 c
unfolding encode_utf8
encoded_two c from below p q =
    rw (le-ltb c 0x80 from, lt-ltb c 0x800 below) (λ i. p i ∷ q i ∷ [])

-- a character of three bytes
pub encoded_three : (c : ℕ) {a b d : ℕ} → 0x800 ≤ c → c < 0x1_0000 → a ≡ 224 + c / 4096
    → b ≡ after (c / 64) → d ≡ after c → a ∷ b ∷ d ∷ [] ≡ encode_utf8 c
unfolding encode_utf8
encoded_three c from below p q r =
    rw (le-ltb c 0x80 (omega (arith, from)), le-ltb c 0x800 from, lt-ltb c 0x1_0000 below)
    (λ i. p i ∷ q i ∷ r i ∷ [])

-- a character of four bytes
pub encoded_four : (c : ℕ) {a b d e : ℕ} → 0x1_0000 ≤ c → a ≡ 240 + c / 262144
    → b ≡ after (c / 4096) → d ≡ after (c / 64) → e ≡ after c
    → a ∷ b ∷ d ∷ e ∷ [] ≡ encode_utf8 c
unfolding encode_utf8
encoded_four c from p q r s =
    rw (
      le-ltb c 0x80 (omega (arith, from)),
      le-ltb c 0x800 (omega (arith, from)),
      le-ltb c 0x1_0000 from,
    ) (λ i. p i ∷ q i ∷ r i ∷ s i ∷ [])

-- ---- characters one after another

-- there is room for the next characters
pub room_for : (size : ℕ) {room : ℕ} {chars : List ℕ} (front rest : List ℕ)
    → chars ≡ front ++ rest → size + length (encode_utf8_all chars) ≡ room
    → size + length (encode_utf8_all front) ≤ room
room_for size front rest parts all = omega (
  arith,
  all,
  ap length (ap encode_utf8_all parts ∙ encodes-append front rest),
  length-append (encode_utf8_all front) (encode_utf8_all rest),
)

-- there is room for the next character
pub room_for_one : (size : ℕ) {room : ℕ} {chars rest : List ℕ} (x : ℕ) → chars ≡ x ∷ rest
    → size + length (encode_utf8_all chars) ≡ room → size + len_utf8 x ≤ room
room_for_one size {rest = rest} x parts all = omega (
  arith,
  room_for size (x ∷ []) rest parts all,
  ap length (append-nil (encode_utf8 x)),
  length-encode x,
)

-- there is room for the next characters, which are ASCII
pub room_for_block : (size : ℕ) {room : ℕ} {chars : List ℕ} (block rest : List ℕ)
    → chars ≡ block ++ rest → EachByte (λ byte. byte < 128) block
    → size + length (encode_utf8_all chars) ≡ room → size + length block ≤ room
room_for_block size block rest parts ascii all = omega (
  arith,
  room_for size block rest parts all,
  ap length (encodes-IsAscii block (ascii_from_each block ascii)),
)

-- characters are written
pub writes_some : {size end : ℕ} {old new chars rest : List ℕ} (front : List ℕ)
    → chars ≡ front ++ rest → take end new ≡ take size old ++ encode_utf8_all front
    → end ≡ size + length (encode_utf8_all front) → length new ≡ length old
    → size + length (encode_utf8_all chars) ≡ length old
    → WritesChars (size, old, chars) (end, new, rest)
writes_some {size} {old = old} {rest = rest} front parts put more same room =
    let whole = ap encode_utf8_all parts ∙ encodes-append front rest in
    record {
      written = ap (λ l. l ++ encode_utf8_all rest) put
          ∙ append_assoc (take size old) (encode_utf8_all front) (encode_utf8_all rest)
          ∙ ap (λ l. take size old ++ l) (sym whole);
      room = omega (
        arith,
        more,
        same,
        room,
        ap length whole,
        length-append (encode_utf8_all front) (encode_utf8_all rest),
      );
      left = omega (arith, ap length parts, length-append front rest);
    }

-- a character is written
pub writes_one : {size end : ℕ} {old new chars rest : List ℕ} (x : ℕ) → chars ≡ x ∷ rest
    → take end new ≡ take size old ++ encode_utf8 x → end ≡ size + len_utf8 x
    → length new ≡ length old → size + length (encode_utf8_all chars) ≡ length old
    → WritesChars (size, old, chars) (end, new, rest)
writes_one {size} {old = old} x parts put more =
    let one = sym (append-nil (encode_utf8 x)) in
    writes_some (x ∷ []) parts (put ∙ ap (λ l. take size old ++ l) one)
    (more ∙ ap (λ n. size + n) (sym (length-encode x)) ∙ ap (λ l. size + length l) one)

-- characters that are ASCII are written
pub writes_block : {size end : ℕ} {old new chars rest : List ℕ} (block : List ℕ)
    → chars ≡ block ++ rest → EachByte (λ byte. byte < 128) block
    → take end new ≡ take size old ++ block → end ≡ size + length block
    → length new ≡ length old → size + length (encode_utf8_all chars) ≡ length old
    → WritesChars (size, old, chars) (end, new, rest)
writes_block {size} {old = old} block parts ascii put more =
    let same = sym (encodes-IsAscii block (ascii_from_each block ascii)) in
    writes_some block parts (put ∙ ap (λ l. take size old ++ l) same)
    (more ∙ ap (λ l. size + length l) same)

-- characters are written, and then others
pub writes_then : {old mid new : ℕ × List ℕ × List ℕ} → WritesChars old mid → WritesChars mid new
    → WritesChars old new
writes_then p q = record {
  written = q.written ∙ p.written;
  room = q.room;
  left = omega (arith, p.left, q.left);
}

-- memory of the text's length that begins with the text is the text
pub whole_text : {size : ℕ} (new rest text : List ℕ) → new ≡ text → size ≡ length text
    → take size (new ++ rest) ≡ text
whole_text new rest text is long =
    ap (λ n. take n (new ++ rest)) (long ∙ ap length (sym is)) ∙ take-append_seam new rest ∙ is
