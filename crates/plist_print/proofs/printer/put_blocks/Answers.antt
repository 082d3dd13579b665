use Rattle.std.proofs.Common.{◌≡◌, ◌++◌, [], ap, append_assoc, refl, sym, ◌∙◌}
use Rattle.std.proofs.lemmas.List.{take-append-drop}
use Rattle.plist_base.proofs.SinkSteps.{puts_as, puts_closed, puts_none, puts_then, same_itself}
use Rattle.plist_print.specs.EscapedLines.{in_notation}
use Rattle.plist_print.proofs.Blocks.{both_noted}
use Rattle.plist_print.proofs.printer.put_blocks.Goals as goal

pub loop-block-init : goal.loop-block-init
loop-block-init g c = record { done = []; whole = refl; put = puts_none }

pub loop-block-preserved : goal.loop-block-preserved
loop-block-preserved g c =
    let i = c.loop-block.invariant in
    let form = in_notation c.args.notation in
    let split = c.in-Some.ensures.cases in
    let parts : c.in-Some.block.now ++ c.in-Some.others.now ≡ c.loop-block.rest.now
    = (λ k. split.0 k ++ split.1 k) ∙ take-append-drop 4096 c.loop-block.rest.now in
    record {
      done = i.done ++ form c.in-Some.block.now;
      whole = append_assoc i.done _ _ ∙ ap (λ l. i.done ++ l)
          (both_noted c.args.notation _ _ ∙ ap form parts) ∙ i.whole;
      put = puts_then i.put c.put_block.ensures;
    }

pub returns-then-not-is_open : goal.returns-then-not-is_open
returns-then-not-is_open g c =
    let i = c.loop-block.invariant in
    puts_as i.whole (puts_closed _ (sym c.is_open.ensures ∙ c.if-not-is_open.true) i.put same_itself
    refl (λ works. works))

pub returns : goal.returns
returns g c = puts_as c.loop-block.invariant.whole
    (puts_then c.loop-block.invariant.put c.put_block-2.ensures)
