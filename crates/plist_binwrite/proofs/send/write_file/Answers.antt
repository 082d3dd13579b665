use Rattle.std.proofs.Common.{◌+◌, length, refl, subst}
use Rattle.plist_base.specs.Bracketing.{AreAlike, bracketing}
use Rattle.plist_base.specs.Trees.{Tree}
use Rattle.plist_base.specs.Writing.{answer_of}
use Rattle.plist_buffer.specs.EventTable.{count_collections, plain_events, scalars_of}
use Rattle.plist_buffer.proofs.CollectionNumbers.{occurs_at}
use Rattle.plist_buffer.proofs.Lengthless.{plain_lengthless, whole_bracketed}
use Rattle.plist_binwrite.specs.Classes.{scalar_class}
use Rattle.plist_binwrite.specs.Files.{least_files}
use Rattle.plist_binwrite.proofs.ScalarClasses.{AreIdentities, all_used, equal_scalars}
use Rattle.plist_binwrite.proofs.SendingFiles.{owned_file, sends_as}
use Rattle.plist_binwrite.proofs.WriterClasses.{owned_size, owners_classes}
use Rattle.plist_binwrite.proofs.send.write_file.Goals as goal

pub write_file_by_class-requires-clause-classed : goal.write_file_by_class-requires-clause-classed
write_file_by_class-requires-clause-classed g c =
    let own = equal_scalars c.args.events.now in
    let whole = whole_bracketed c.args.events.now c.requires.whole in
    record {
      listed = tt;
      below = λ p item.
          let tree = occurs_at (plain_events c.args.events.now) whole p item in
          own.below tree.0 p tree.1;
      used = all_used c.args.events.now whole;
      objects = owners_classes own;
    }

pub returns : goal.returns
returns g c =
    let held = c.args.events.now in
    let es = plain_events held in
    let count = length (scalars_of held) + count_collections held in
    let own = λ (tree : Tree) (alike : AreAlike es (bracketing tree)).
    subst (λ es. AreIdentities es (scalar_class held) count)
    (plain_lengthless held tree alike) (equal_scalars held) in
    sends_as _ least_files es es refl (λ tree alike file f. owned_file tree file (own tree alike) f)
    (λ tree alike. owned_size tree (own tree alike)) g.W.Write.contents
    (answer_of c.write_file_by_class.result) _ _ c.write_file_by_class.ensures
