use Rattle.std.proofs.Common.{◌≡◌, Some, subst, ◌∙◌, ◌++◌, ◌*◌, ap, arith, string_bytes, rules}
use Rattle.base64.specs.Engines.{standard}
use Rattle.plist_base.specs.DataText.{data_of_text, data_text}
use Rattle.base64.specs.GeneralPurpose.{encode_of}
use Rattle.plist_base.proofs.DataLines.{line-slice, lines-first, lines-next, text_of_lines, written-reads}
use Rattle.plist_base.proofs.data.Data.to_xml_format.Goals as goal
use Rattle.plist_base.proofs.data.Data.to_xml_format.Goals.{then-line-gt0+in_ok-push, else-line-gt0}

pub loop-line-preserved : goal.loop-line-preserved
loop-line-preserved c =
    let bytes = c.as_slice-bytes.result.now in
    let line = c.loop-line.line in
    let test = c.loop-line-test.true in
    let slice = line-slice bytes (line * 51) c.min-end.result c.min-end.ensures (omega arith) in
    let pushed = c.in_ok-encode_string.ensures.ok
    ∙ ap (λ part. string_bytes c.if-line-gt0.text ++ encode_of standard part) slice in
    elim c.if-line-gt0.branch [
      | then-line-gt0+in_ok-push w ↦ lines-next bytes line pushed
          (ap string_bytes w.text-is ∙ w.in_ok-push.ensures.bytes)
          (w.in_ok-push.ensures.ascii (omega arith)) c.loop-line.invariant (omega arith)
      | else-line-gt0 w ↦ lines-first bytes line pushed (ap string_bytes w.text-is)
          c.loop-line.invariant (omega arith)
    ]

pub returns-clause-text : goal.returns-clause-text
returns-clause-text c =
    text_of_lines c.as_slice-bytes.result.now c.loop-line.line (string_bytes c.loop-line.text)
    c.loop-line.invariant (omega arith) ∙ ap data_text (c.as_slice-bytes.ensures.value ∙ c.self.view_is)

pub returns-clause-back : goal.returns-clause-back
returns-clause-back c = rw (returns-clause-text c)
    (subst (λ bytes. data_of_text (data_text bytes) ≡ Some bytes)
    (c.as_slice-bytes.ensures.value ∙ c.self.view_is) (written-reads _ (λ i. search rules)))
