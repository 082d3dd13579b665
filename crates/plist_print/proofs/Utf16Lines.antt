-- The characters of a string in UTF-16 that are printed one after another.
use Rattle.std.proofs.Common.{◌≡◌, ℕ, ◌<◌, List, [], ◌∷◌, ◌++◌, Option, ap, sym, ◌∙◌, append-nil, append_assoc}
use Rattle.std.specs.Char.{encode_utf8}
use Rattle.std.specs.declared.ops.ControlFlow.TheVariants.{Continue}
use Rattle.std.specs.Str.{encode_utf8_all}
use Rattle.std.proofs.lemmas.Grind.{flat_map-append}
use Rattle.std.proofs.lemmas.Str.{encodes-IsAscii, encodes-append}
use Rattle.plist_base.specs.declared.fixed_buffer.FixedBuffer.{FixedBuffer}
use Rattle.plist_base.specs.ByteTests.{EachByte}
use Rattle.plist_base.proofs.ByteBlocks.{ascii_from_each}
use Rattle.plist_decode.proofs.Utf16Writing.{encoded_four, encoded_three, encoded_two}
use Rattle.plist_print.specs.EscapedLines.{escaped_byte, escaped_chars, escaped_text}
use Rattle.plist_print.specs.declared.printer.Printer.{Printer}
use Rattle.plist_print.specs.Printers.{PrintsBytes}
use Rattle.plist_print.specs.Utf16Lines.{PushesChars}
use Rattle.plist_print.proofs.Printers.{prints_as, prints_pushed}

-- for the bytes of a character that isn't ASCII
pub ruleset encoded = (encoded_two, encoded_three, encoded_four)

-- the printed form of characters and more of them
pub chars-append : (xs ys : List ℕ) → escaped_chars xs ++ escaped_chars ys ≡ escaped_chars (xs ++ ys)
chars-append xs ys =
    sym (ap escaped_text (encodes-append xs ys)
    ∙ flat_map-append escaped_byte (encode_utf8_all xs) (encode_utf8_all ys))

-- a character is pushed
pub pushes_one : {a b : FixedBuffer} {chars rest : List ℕ} (x : ℕ) → chars ≡ x ∷ rest
    → b ≡ a ++ escaped_text (encode_utf8 x) → PushesChars (a, chars) (b, rest)
pushes_one {a} x parts pushed = record {
  front = x ∷ [];
  left = parts;
  pushed = pushed ∙ ap (λ l. a ++ escaped_text l) (sym (append-nil (encode_utf8 x)));
}

-- characters that are ASCII are pushed
pub pushes_block : {a b : FixedBuffer} {chars rest : List ℕ} (block : List ℕ)
    → chars ≡ block ++ rest → EachByte (λ byte. byte < 128) block
    → b ≡ a ++ escaped_text block → PushesChars (a, chars) (b, rest)
pushes_block {a} block parts ascii pushed = record {
  front = block;
  left = parts;
  pushed = pushed ∙ ap (λ l. a ++ escaped_text l)
      (sym (encodes-IsAscii block (ascii_from_each block ascii)));
}

-- for the next characters
pub ruleset pushes_next = (pushes_one, pushes_block)

-- characters are pushed, and then others
pub pushes_then : {a b c : FixedBuffer} {all chars rest : List ℕ}
    → PushesChars (a, all) (b, chars) → PushesChars (b, chars) (c, rest)
    → PushesChars (a, all) (c, rest)
pushes_then {a} {rest = rest} p q = record {
  front = p.front ++ q.front;
  left = p.left ∙ ap (λ l. p.front ++ l) q.left ∙ sym (append_assoc p.front q.front rest);
  pushed = q.pushed ∙ ap (λ l. l ++ escaped_chars q.front) p.pushed
      ∙ append_assoc a (escaped_chars p.front) (escaped_chars q.front)
      ∙ ap (λ l. a ++ l) (chars-append p.front q.front);
}

-- a printer has printed the first characters; `rest` are those that remain
pub record PrintsChars {W : Type 0} (contents : W → Option (List ℕ)) (all : List ℕ) (old : Printer W)
    (rest : List ℕ) (new : Printer W) : Type 0 where
  pub done : List ℕ
  pub left : all ≡ done ++ rest
  pub put : PrintsBytes contents old (escaped_chars done) (Continue tt) new

-- the printed forms of more characters are pushed to the buffer
pub prints_chars : {W : Type 0} {contents : W → Option (List ℕ)} {all chars rest : List ℕ}
    {a b : Printer W} {after : FixedBuffer} → PrintsChars contents all a chars b
    → PushesChars (b.sink.buffer.now, chars) (after, rest) → PrintsChars contents all a rest
    (record { sink = record b.sink { buffer = record b.sink.buffer { now = after } } })
prints_chars {rest = rest} p q = record {
  done = p.done ++ q.front;
  left = p.left ∙ ap (λ l. p.done ++ l) q.left ∙ sym (append_assoc p.done q.front rest);
  put = prints_as (chars-append p.done q.front) (prints_pushed (escaped_chars q.front) p.put q.pushed);
}
