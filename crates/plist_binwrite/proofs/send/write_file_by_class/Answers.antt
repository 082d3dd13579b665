use Rattle.std.proofs.Common.{rules, subst, sym}
use Rattle.std.proofs.lemmas.Result.{err_from_is_err_and}
use Rattle.plist_base.specs.Bracketing.{AreTreeEvents}
use Rattle.plist_base.specs.Writing.{answer_of}
use Rattle.plist_binwrite.specs.Classes.{files_by, class_in, events_in}
use Rattle.plist_binwrite.specs.SendingAs.{SendsAs}
use Rattle.plist_binwrite.proofs.SendingFiles.{sends_nothing}
use Rattle.plist_binwrite.proofs.send.write_file_by_class.Goals as goal

-- the planned events are those of a tree
pub send_file-requires-clause-whole : goal.send_file-requires-clause-whole
send_file-requires-clause-whole g c =
    subst (λ given. AreTreeEvents (events_in given)) (sym c.in_ok-plan.ensures.plan.1)
    c.requires.whole

pub returns : goal.returns
returns g c =
    subst (λ given. SendsAs (files_by (class_in given)) g.W.Write.contents (events_in given)
    (answer_of c.send_file.result) c.args.writer.now c.send_file.new.writer)
    c.in_ok-plan.ensures.plan.1 c.send_file.ensures

pub returns-in_err-plan : goal.returns-in_err-plan
returns-in_err-plan g c =
    let p = err_from_is_err_and c.from_residual-in_err-plan.result
    c.from_residual-in_err-plan.ensures.1 in
    rw (p.1, p.2) (sends_nothing g.W.Write.contents c.args.given _ _ _
    c.in_err-plan.ensures.refused (search rules))
