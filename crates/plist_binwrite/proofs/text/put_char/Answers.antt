use Rattle.std.proofs.Common.{◌≡◌, ◌+◌, ◌-◌, ◌/◌, ◌%◌, ◌≤◌, ◌++◌, ℕ, ap, arith, refl, ◌∙◌}
use Rattle.std.specs.Char.Escape.{encode_utf16}
use Rattle.std.specs.Int.{bytes_high_first}
use Rattle.std.proofs.lemmas.Bool.{le-ltb}
use Rattle.plist_base.proofs.SinkSteps.{puts_as, puts_then}
use Rattle.plist_binwrite.specs.Forms.{table_form}
use Rattle.plist_binwrite.proofs.text.put_char.Goals as goal

-- the bytes of the two units of a character
two_units : (c : ℕ) → 0x1_0000 ≤ c
    → bytes_high_first 2 (0xd800 + (c - 0x1_0000) / 0x400)
    ++ bytes_high_first 2 (0xdc00 + (c - 0x1_0000) % 0x400) ≡ table_form 2 (encode_utf16 c)
two_units c high = rw (le-ltb c 0x1_0000 high) refl

pub returns : goal.returns
returns g c =
    puts_as (two_units c.from-code.result (omega (arith, c.if-code-lt65536.false))
    ∙ ap (λ n. table_form 2 (encode_utf16 n)) c.from-code.ensures)
    (puts_then c.put_number-2.ensures c.put_number-3.ensures)
