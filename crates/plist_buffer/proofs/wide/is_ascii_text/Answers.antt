use Rattle.std.proofs.Common.{◌∙◌, sym}
use Rattle.plist_buffer.proofs.TextUnits.{ascii_text}
use Rattle.plist_buffer.proofs.wide.is_ascii_text.Goals as goal

pub returns-then-all_pass : goal.returns-then-all_pass
returns-then-all_pass c = record {
  value = c.if-all_pass.true ∙ sym (ascii_text c.args.text.now
      (rw c.as_bytes.ensures.value at (c.all_pass.ensures c.if-all_pass.true)));
}
