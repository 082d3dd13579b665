use Rattle.std.proofs.Common.{[], inr, refl}
use Rattle.std.proofs.KnownBytes.{Appends-nil}
use Rattle.std.proofs.lemmas.Result.{err_from_is_err_and}
use Rattle.plist_print.proofs.print.print_unflushed.Goals as goal

-- the buffer for the lines couldn't be allocated
pub returns-in_err-buffer : goal.returns-in_err-buffer
returns-in_err-buffer g c =
    let f = err_from_is_err_and c.from_residual.result c.from_residual.ensures.1 in
    rw (f.1, f.2) (
      [],
      c.args.source.now,
      refl,
      inr (inr (c.in_err-buffer.ensures.memory, refl), ([], [], Appends-nil _, refl)),
    )
