use Rattle.std.proofs.Common.{◌++◌, ◌∙◌, ap, refl, take}
use Rattle.plist_decode.proofs.Utf16Writing.{encoded_four, encoded_three, encoded_two}
use Rattle.plist_decode.proofs.utf16.write_wide_char.Goals as goal

pub returns-then-code-lt2048-clause-written : goal.returns-then-code-lt2048-clause-written
returns-then-code-lt2048-clause-written c =
    c.write_bytes.ensures.written ∙ ap (λ l. take c.args.size c.args.text.now ++ l)
    (encoded_two c.args.code c.requires.code.0 c.if-code-lt2048.true refl
    c.byte_after_first-last.ensures)

pub returns-then-code-lt65536-clause-written : goal.returns-then-code-lt65536-clause-written
returns-then-code-lt65536-clause-written c =
    c.write_bytes-then-code-lt65536.ensures.written
    ∙ ap (λ l. take c.args.size c.args.text.now ++ l)
    (encoded_three c.args.code c.if-code-lt2048.false c.if-code-lt65536.true refl
    c.byte_after_first-third.ensures c.byte_after_first-last.ensures)

pub returns-clause-written : goal.returns-clause-written
returns-clause-written c =
    c.write_bytes-2.ensures.written ∙ ap (λ l. take c.args.size c.args.text.now ++ l)
    (encoded_four c.args.code c.if-code-lt65536.false refl
    c.byte_after_first-second.ensures c.byte_after_first-third.ensures
    c.byte_after_first-last.ensures)
