-- What is true after the next child has been taken.
use Rattle.std.proofs.Common.{◌≡◌, ℕ, List, get_or, Option, Some, Result, Ok, Err, IfSome, MatchResult, ap, sym, ◌∙◌, arith}
use Rattle.std.specs.List.{slice_get}
use Rattle.plist_base.specs.declared.error.Error.{Error}
use Rattle.plist_base.specs.Visits.{Flow}
use Rattle.plist_base.specs.Events.{PlainEvent}
use Rattle.plist_base.specs.Faults.{IsIo, kind_of, error_kind_of}
use Rattle.plist_base.proofs.Refusals.{MatchFault-weaker}
use Rattle.plist_binread.specs.Walking.{IsCachedIfSmall, IsWalkOf, open_in, remaining_entering, remaining_in}
use Rattle.plist_binread.specs.Step.{ParentIsOpen, TakesChild, YieldsResult, stored_references}
use Rattle.plist_binread.specs.declared.frames.NextChild.{NextChild}
use Rattle.plist_binread.specs.declared.frames.NextChild.TheVariants.{Child}
use Rattle.plist_binread.specs.declared.walk.Walk.{Walk}
use Rattle.plist_decode.specs.declared.head.Bounds.{Bounds}
use Rattle.plist_binread.specs.declared.frames.Frame.{Frame}
use Rattle.plist_binread.proofs.Tags.{open_uncached}
use Rattle.plist_base.specs.Unfolding.{until_fault}
use Rattle.plist_decode.specs.Reading.{object_at}
use Rattle.plist_binread.specs.References.{AreReferencesOf, ReadsChildAt}
use Rattle.plist_binread.specs.Remaining.{place_at, children_at, entries_of, next_number, Explains}
use Rattle.plist_binread.proofs.WalkInvariant.{as_many, entry_there, held_place}
use Rattle.std.proofs.lemmas.Option.{IfSome_then}
use Rattle.plist_decode.proofs.UnknownBytes.{IfSome-both}

-- ---- the next child

abbrev pub ChildTaken : (bytes : List ℕ) → Bounds → (old : Walk) → NextChild → (new : Walk) → Type 0
ChildTaken bytes bounds old child new =
    TakesChild bytes bounds old child new × IsWalkOf bytes bounds new

-- the number of the child of an object
abbrev child_of : (bytes : List ℕ) → Bounds → (object index : ℕ) → ℕ
child_of bytes bounds object index =
    get_or (children_at (slice_get (entries_of bytes bounds) object)) index 0

module _ (known : Option (List ℕ)) (bounds : Bounds) (old mid : Walk) (frame : Frame)
    (parent : ParentIsOpen mid (Child frame))
    (taken : IfSome known (λ bytes. ChildTaken bytes bounds old (Child frame) mid)) where
  -- the object of the frame is the one at the offset that is stored for it
  there : (bytes : List ℕ) → IsWalkOf bytes bounds mid
      → slice_get (entries_of bytes bounds) frame.object
      ≡ Some (record {
        place = get_or mid.contents.items frame.object 0;
        object = object_at bounds (get_or mid.contents.items frame.object 0) bytes;
      })
  there bytes k =
      let entry = entry_there k frame.object parent.0 in
      let place = held_place k frame.object parent.0 (open_uncached _ parent.1) ∙ ap place_at entry in
      entry ∙ ap (λ (p : ℕ). Some (record { place = p; object = object_at bounds p bytes }))
      (sym place)

  -- the references to the children of the collection lie as the walk has stored
  pub child_references : AreReferencesOf known bounds (stored_references mid frame)
  child_references = IfSome_then known taken (λ bytes taken.
      let k = taken.1 in
      let is = there bytes k in
      (rw is at taken.0.1, rw is at (k.refers frame.object parent.0 parent.1)))

  -- if the bytes are known, the number that was read is that of the child, or the read failed
  pub child_read : (answer : Result ℕ Error)
      → ReadsChildAt answer known bounds (get_or mid.contents.items frame.object 0) frame.next
      → IfSome known (λ bytes. ChildTaken bytes bounds old (Child frame) mid
      × MatchResult answer (λ number. number ≡ child_of bytes bounds frame.object frame.next)
      (λ error. IsIo (kind_of (error_kind_of error))))
  child_read answer reads = IfSome-both known taken reads (λ bytes taken reads.
      let is = there bytes taken.1 in
      let count = rw is at taken.0.1 in
      (taken, rw is (reads taken.1.within (omega (arith, count, parent.2)))))

  -- if the read of the reference failed, its error is possible in place of the next item
  pub child_failed : (e : Error)
      → ReadsChildAt (Err e) known bounds (get_or mid.contents.items frame.object 0) frame.next
      → IfSome known (λ bytes. Explains (until_fault (remaining_in bytes bounds old)) e)
  child_failed e reads = IfSome_then known (child_read (Err e) reads) (λ bytes child.
      MatchFault-weaker (kind_of (error_kind_of e)) (λ _. child.0.0.2) (λ none. absurd none)
      (λ none. absurd none) child.1)

  -- the child is entered, and the known bytes are unchanged since its reference was read
  module _ (now : Option (List ℕ)) (same : now ≡ known) (number : ℕ)
      (reads : ReadsChildAt (Ok number) known bounds (get_or mid.contents.items frame.object 0)
      frame.next)
    where
      -- the items of the child are the first of those that remain
      child_first : IfSome known (λ bytes. remaining_in bytes bounds old
          ≡ remaining_entering bytes bounds mid (get_or mid.contents.items frame.object 0) number)
      child_first = IfSome_then known (child_read (Ok number) reads) (λ bytes child.
          let k = child.0.1 in
          let place = held_place k frame.object parent.0 (open_uncached _ parent.1) in
          let many = as_many k in
          rw (child.1, ← many, place) child.0.0.0)

      pub child_yields : (answer : Result Flow Error) (current : PlainEvent) (new : Walk)
          → IfSome now (λ bytes. YieldsResult (remaining_entering bytes bounds mid
          (get_or mid.contents.items frame.object 0) number) answer current
          (remaining_in bytes bounds new))
          → IfSome known (λ bytes. YieldsResult (remaining_in bytes bounds old) answer current
          (remaining_in bytes bounds new))
      child_yields answer current new yields = IfSome-both known child_first (rw same at yields)
          (λ bytes first yields. rw first yields)

      -- the child is cached if its event is that of a small scalar
      pub child_kept : (answer : Result Flow Error) (current : PlainEvent) (tags : List ℕ)
          → IfSome now (λ _. IsCachedIfSmall (λ _. current) (Some number) (Some answer) tags)
          → IfSome known (λ bytes. IsCachedIfSmall (λ _. current)
          (next_number (entries_of bytes bounds) (open_in old)) (Some answer) tags)
      child_kept answer current tags kept = IfSome-both known (child_read (Ok number) reads)
          (rw same at kept) (λ bytes child kept. rw (child.0.0.3, ← child.1) kept)
