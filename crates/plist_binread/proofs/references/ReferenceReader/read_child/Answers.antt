use Rattle.std.proofs.Common.{Ok, sym, ◌∙◌}
use Rattle.plist_decode.specs.StepFaults.{result_with}
use Rattle.plist_binread.proofs.ChildReferences.{known_slot}
use Rattle.plist_binread.proofs.references.ReferenceReader.read_child.Goals as goal
use Rattle.plist_binread.proofs.references.ReferenceReader.read_child.Goals.{in-Dictionary, in-Array}

pub returns-in-Some-clause-child : goal.returns-in-Some-clause-child
returns-in-Some-clause-child g c =
    known_slot _ c.args.decoder.now.bounds _ c.args.frame.next _ (Ok _) c.requires.references
    (rw c.references-references.ensures at c.reference_place-at.ensures)
    (c.in-Some.ensures _ c.requires.runs.0) tt

pub returns-in-Some-number_at-clause-child : goal.returns-in-Some-number_at-clause-child
returns-in-Some-number_at-clause-child g c =
    known_slot _ c.args.decoder.now.bounds _ c.args.frame.next _ (Ok _) c.requires.references
    (rw c.references-references.ensures at c.reference_place-at.ensures)
    (c.in-Some-number_at.ensures _ c.requires.runs.1) tt

pub returns-in-Some-found-clause-child : goal.returns-in-Some-found-clause-child
returns-in-Some-found-clause-child g c =
    known_slot _ c.args.decoder.now.bounds _ c.args.frame.next _ (Ok _) c.requires.references
    (rw c.references-references.ensures at c.reference_place-at.ensures)
    (elim c.match-references.branch [
      | in-Dictionary w ↦ rw (sym w.found-is ∙ c.in-Some-found.is) at
          (w.number_at-found.ensures _ w.fill.ensures)
      | in-Array w ↦ rw (sym w.found-is ∙ c.in-Some-found.is) at
          (w.number_at-found-in-Array.ensures _ w.fill-in-Array.ensures)
    ]) tt

pub returns-in-None-clause-child : goal.returns-in-None-clause-child
returns-in-None-clause-child g c =
    known_slot _ c.args.decoder.now.bounds _ c.args.frame.next _
    (result_with c.read_reference.result c.read_reference.new.details) c.requires.references
    (rw c.references-references.ensures at c.reference_place-at.ensures)
    c.read_reference.ensures.value c.read_reference.ensures.refused
