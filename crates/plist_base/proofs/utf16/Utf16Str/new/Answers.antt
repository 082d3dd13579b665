use Rattle.std.proofs.Common.{arith}
use Rattle.plist_base.proofs.Utf16Blocks.{no_surrogates}
use Rattle.plist_base.proofs.Utf16Forms.{IsBytes, is_utf16}
use Rattle.plist_base.proofs.utf16.Utf16Str.new.Goals as goal
use Rattle.plist_base.proofs.utf16.Utf16Str.new.Goals.{then-all_pass-via-then-all_pass, then-all_pass-via-else-all_pass+then-all_paired}

pub invariant_of-result : goal.invariant_of-result
invariant_of-result c =
    let small : IsBytes c.args.bytes.now = λ i. let fits = c.type_inv.bytes i in omega arith in record {
      valid = is_utf16 _ c.requires small
          (elim c.then-all_pass.branch [
            | then-all_pass-via-then-all_pass w ↦ no_surrogates _ small (c.all_pass.ensures w.if-all_pass.true)
            | then-all_pass-via-else-all_pass+then-all_paired w ↦ w.all_paired.ensures.yes w.if-all_paired.true
          ]);
    }
