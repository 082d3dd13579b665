-- The characters of a string in UTF-16 that are pushed to a buffer in their printed form.
use Rattle.std.specs.Prelude.{◌≡◌, ℕ, List, ◌++◌}
use Rattle.plist_base.specs.declared.fixed_buffer.FixedBuffer.{FixedBuffer}
use Rattle.plist_print.specs.EscapedLines.{escaped_chars}

-- the printed forms of the first characters are pushed; `old` and `new` are the buffer and the
-- characters that remain
pub record PushesChars (old new : FixedBuffer × List ℕ) : Type 0 where
  pub front : List ℕ
  pub left : old.1 ≡ front ++ new.1
  pub pushed : new.0 ≡ old.0 ++ escaped_chars front
