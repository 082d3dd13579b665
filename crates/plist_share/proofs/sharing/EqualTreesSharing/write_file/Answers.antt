use Rattle.std.proofs.Common.{refl, rules}
use Rattle.std.proofs.lemmas.Result.{err_from_is_err_and}
use Rattle.plist_base.specs.Bracketing.{AreAlike, bracketing}
use Rattle.plist_base.specs.Trees.{Tree}
use Rattle.plist_base.specs.Writing.{answer_of}
use Rattle.plist_binwrite.specs.Classes.{files_by, listed_class}
use Rattle.plist_binwrite.proofs.SendingFiles.{sends_as}
use Rattle.plist_buffer.specs.EventTable.{plain_events}
use Rattle.plist_buffer.proofs.Lengthless.{plain_lengthless, whole_bracketed}
use Rattle.plist_buffer.proofs.TreeOccurrences.{occurs_whole}
use Rattle.plist_share.specs.SharedFiles.{shared_files}
use Rattle.plist_share.proofs.DistinctSubtrees.{shared_file, size_is}
use Rattle.plist_share.proofs.sharing.EqualTreesSharing.write_file.Goals as goal

pub tree_classes-requires : goal.tree_classes-requires
tree_classes-requires g c = whole_bracketed c.args.events.now c.requires.whole

pub returns : goal.returns
returns g c =
    let events = c.args.events.now in
    let es = plain_events events in
    let class = listed_class c.in_ok-found.found events in
    let trees = c.in_ok-found.ensures.trees in
    let occurs = λ (t : Tree) (alike : AreAlike es (bracketing t)).
    occurs_whole (plain_lengthless events t alike) in
    sends_as (files_by class) shared_files es es refl
    (λ t alike file f. shared_file es class trees t (occurs t alike) file f)
    (λ t alike. size_is es class trees t (occurs t alike)) g.W.Write.contents
    (answer_of c.write_file_by_class.result) c.args.writer.now c.write_file_by_class.new.writer
    c.write_file_by_class.ensures

pub returns-in_err-found : goal.returns-in_err-found
returns-in_err-found g c =
    let p = err_from_is_err_and c.from_residual.result c.from_residual.ensures.1 in
    rw (p.1, p.2) (refl, search rules)
