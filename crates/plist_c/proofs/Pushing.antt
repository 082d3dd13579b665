-- Records whose events are buffered, one after another.
use Rattle.std.proofs.Common.{◌≡◌, ◌⊎◌, inl, inr, ℕ, true, false, List, [], ◌∷◌, ◌++◌, Option, None, Some, length, map, refl, sym, ap, ◌∙◌, slice_get, take, get_or, is_none, ◌+◌, ◌<◌, ◌≤◌, ◌^◌}
use Rattle.std.proofs.lemmas.List.{map-append, take_more}
use Rattle.plist_base.specs.Bracketing.{AreAlike, AreTreeEvents, bracketing, without_length}
use Rattle.plist_base.specs.Events.{PlainEvent, kind_of_event}
use Rattle.plist_base.specs.Faults.{ExpectedEndOfEventStream, UnexpectedEventType, fault_without_offset}
use Rattle.plist_base.specs.Trees.{Tree}
use Rattle.plist_base.proofs.Lengths.{alike_without_length, continue_alike, whole_alike}
use Rattle.plist_binwrite.specs.SendingAs.{FileKind, IsOfTree}
use Rattle.plist_buffer.specs.EventBuffers.{buffered_events, expected_instead, is_whole, misplaced_fault}
use Rattle.plist_buffer.specs.declared.event_buffer.EventBuffer.{EventBuffer}
use Rattle.plist_buffer.specs.declared.expects.Expect.{Expect}
use Rattle.plist_buffer.specs.Expects.{all_expected, expected_inside}
use Rattle.plist_buffer.proofs.Expectations.{whole_of_tree}
use Rattle.plist_buffer.proofs.Grammar.{bracketed}
use Rattle.plist_c.specs.declared.flat.FlatEvent.{FlatEvent}
use Rattle.plist_c.specs.declared.flat.Outcome.{Outcome}
use Rattle.plist_c.specs.declared.write.Rejection.{Rejection}
use Rattle.plist_c.specs.declared.write.Rejection.TheVariants as rejection
use Rattle.plist_c.specs.Files.{AreRecordsOf, EndsAtRecord, Writes}
use Rattle.plist_c.specs.Outcomes.{plain_outcome}
use Rattle.plist_c.specs.Records.{IsRecordOf}
use Rattle.plist_c.specs.Rooms.{Memory}
use Rattle.plist_c.proofs.Ordered.{begins_next, begins_none}
use Rattle.plist_c.specs.inner.Writing.{HasPushed, IsRejection, PushesRecord, WritesBuffered, outcome_of_rejection}

-- ---- whole values

no_next : (next : Option Expect) → is_none next ≡ true → next ≡ None
no_next None is = refl
no_next (Some expect) is = absurd (cc)

-- a buffer that is whole has the events of a tree
pub whole_is_tree : (pending : EventBuffer) → is_whole pending ≡ true
    → AreTreeEvents (buffered_events pending)
whole_is_tree pending is =
    bracketed (buffered_events pending) (pending.wanted.all
    ∙ ap (λ next. Some (all_expected next (expected_inside (buffered_events pending))))
    (no_next pending.expects is))

-- one that isn't doesn't
part_is_no_tree : (pending : EventBuffer) → is_whole pending ≡ false
    → AreTreeEvents (buffered_events pending) → ⊥
part_is_no_tree pending is tree = let whole = whole_of_tree pending tree in cc

-- ---- the events of records

-- the records are those of the events, which are buffered without the lengths of starts
are_more : (bytes : List ℕ) (records : List FlatEvent) (events : List PlainEvent)
    (flat : FlatEvent) (event : PlainEvent) → AreRecordsOf bytes records events
    → IsRecordOf bytes flat event
    → AreRecordsOf bytes (records ++ flat ∷ []) (events ++ event ∷ [])
are_more bytes [] [] flat event are is = (is, tt)
are_more bytes [] (first ∷ events) flat event are is = absurd are
are_more bytes (one ∷ records) [] flat event are is = absurd are
are_more bytes (one ∷ records) (first ∷ events) flat event are is =
    (are.0, are_more bytes records events flat event are.1 is)

pub pushed_none : (bytes : List ℕ) (pending : EventBuffer) → buffered_events pending ≡ []
    → HasPushed bytes [] pending
pushed_none bytes pending none =
    record { events = []; are = tt; begins = begins_none; held = none }

pub pushed_more : (bytes : List ℕ) (records : List FlatEvent) (flat : FlatEvent)
    (before after : EventBuffer) → HasPushed bytes records before
    → PushesRecord bytes flat before after → HasPushed bytes (records ++ flat ∷ []) after
pushed_more bytes records flat before after here (event, is, part, accepts) = record {
  events = here.events ++ event ∷ [];
  are = are_more bytes records here.events flat event here.are is;
  begins = begins_next here.events event ((continue_alike (buffered_events before) here.events
      (ap (map without_length) here.held ∙ alike_without_length here.events) event).0 accepts.0);
  held = accepts.1.0 ∙ ap (λ l. l ++ without_length event ∷ []) here.held
      ∙ sym (map-append without_length here.events (event ∷ []));
}

-- the record at an index follows those before it
pub pushed_step : (bytes : List ℕ) (records : List FlatEvent) (index : ℕ) (other : FlatEvent)
    (before after : EventBuffer) → HasPushed bytes (take index records) before
    → index < length records → PushesRecord bytes (get_or records index other) before after
    → HasPushed bytes (take (index + 1) records) after
pushed_step bytes records index other before after here below one =
    rw (take_more records index other below)
    (pushed_more bytes (take index records) (get_or records index other) before after here one)

module _ (bytes : List ℕ) (records : List FlatEvent) (pending : EventBuffer)
    (here : HasPushed bytes records pending) where
  -- the buffered events are those of the records, apart from lengths
  alike : AreAlike (buffered_events pending) here.events
  alike = ap (map without_length) here.held ∙ alike_without_length here.events

  -- if the buffer is whole, they are those of a tree
  pub tree_of_whole : is_whole pending ≡ true → AreTreeEvents here.events
  tree_of_whole is = whole_alike _ _ alike (whole_is_tree pending is)

  -- and otherwise they aren't
  pub no_tree_of_part : is_whole pending ≡ false → AreTreeEvents here.events → ⊥
  no_tree_of_part is tree =
      part_is_no_tree pending is (whole_alike _ _ (sym alike) tree)

  instead : (events : List PlainEvent) → buffered_events pending ≡ map without_length events
      → expected_instead (buffered_events pending) ≡ expected_instead events
  instead [] is = rw is refl
  instead (event ∷ events) is = rw is refl

  -- a misplaced event has the same fault after the events of the records
  misplaced : (event : PlainEvent)
      → misplaced_fault (buffered_events pending) event ≡ misplaced_fault here.events event
  misplaced event =
      ap (λ expected. fault_without_offset (UnexpectedEventType expected (kind_of_event event)))
      (instead here.events here.held)

-- the record after those that were taken is rejected
pub rejected_at : (given : Memory) (index : ℕ) (flat : FlatEvent) (pending : EventBuffer)
    (reason : Rejection) → HasPushed given.bytes (take index given.events) pending
    → slice_get given.events index ≡ Some flat → IsRejection given.bytes flat pending reason
    → EndsAtRecord given (outcome_of_rejection reason index)
    ⊎ (outcome_of_rejection reason index
    ≡ plain_outcome (outcome_of_rejection reason index).events 0 25)
rejected_at given index flat pending (rejection.Flawed flaw) here is flawed =
    inl (here.events, flat, here.are, here.begins, is, inl (flaw, flawed, refl))
rejected_at given index flat pending (rejection.Misplaced expected found) here is why =
    let (event, of_event, part, misplaced_event) = why in
    inl (
      here.events,
      flat,
      here.are,
      here.begins,
      is,
      inr (
        event,
        fault_without_offset (UnexpectedEventType expected found),
        of_event,
        inr (
          no_tree_of_part _ _ pending here part,
          λ can. misplaced_event.0 ((continue_alike (buffered_events pending) here.events
              (alike _ _ pending here) event).1 can),
          misplaced_event.1 ∙ misplaced _ _ pending here event,
        ),
        record { number = refl; detail = refl; expected = refl; offset = (refl, refl) },
        refl,
      ),
    )
rejected_at given index flat pending (rejection.Surplus found) here is why =
    let (event, of_event, whole, is_found) = why in
    inl (
      here.events,
      flat,
      here.are,
      here.begins,
      is,
      inr (
        event,
        fault_without_offset (ExpectedEndOfEventStream found),
        of_event,
        inl (
          tree_of_whole _ _ pending here whole,
          ap (λ kind. fault_without_offset (ExpectedEndOfEventStream kind)) is_found,
        ),
        record { number = refl; detail = refl; expected = refl; offset = (refl, refl) },
        refl,
      ),
    )
rejected_at given index flat pending rejection.OutOfMemory here is rejected = inr refl

-- ---- what is written

module _ (files : FileKind) (given : Memory) (pending : EventBuffer)
    (here : HasPushed given.bytes given.events pending) (outcome : Outcome) (old new : List ℕ) where
  -- the records end too early
  pub written_early : is_whole pending ≡ false
      → outcome ≡ plain_outcome (length given.events) 0 23 → new ≡ old
      → Writes files given outcome old new
  written_early part is same =
      inr (
        same,
        inr (inr (inl (
          here.events,
          here.are,
          here.begins,
          no_tree_of_part _ _ pending here part,
          is,
        ))),
      )

  -- what writing the buffered events does is what writing the records does
  pub written : is_whole pending ≡ true
      → WritesBuffered files (buffered_events pending) (length given.events) (old, new) outcome
      → Writes files given outcome old new
  written whole writes = by writes
    where
      the_tree : (tree : Tree) × AreAlike here.events (bracketing tree)
      the_tree = tree_of_whole _ _ pending here whole

      of_tree : (says : Tree → Type 0) → IsOfTree (buffered_events pending) says → says the_tree.0
      of_tree says is = is.1 the_tree.0 (alike _ _ pending here ∙ the_tree.1)

      by : WritesBuffered files (buffered_events pending) (length given.events) (old, new) outcome
          → Writes files given outcome old new
      by (inl (made, is, inl (fits, copied, is_outcome))) = inl (
        the_tree.0,
        made,
        (here.events, here.are, the_tree.1),
        of_tree (λ tree. files.IsFile tree made) is,
        copied,
        fits,
        is_outcome,
      )
      by (inl (made, is, inr (lacks, same, is_outcome))) = inr (
        same,
        inl (
          the_tree.0,
          (here.events, here.are, the_tree.1),
          inl (made, of_tree (λ tree. files.IsFile tree made) is, lacks, is_outcome),
        ),
      )
      by (inr (same, inl (large, is_outcome))) = inr (
        same,
        inl (
          the_tree.0,
          (here.events, here.are, the_tree.1),
          inr (of_tree (λ tree. 2 ^ 64 ≤ files.size tree) large, is_outcome),
        ),
      )
      by (inr (same, inr memory)) = inr (
        same,
        inr (inr (inr (memory
            ∙ ap (λ n. plain_outcome n 0 25) (sym (ap (λ (o : Outcome). o.events) memory))))),
      )

-- ---- the file that is made

-- what was appended to an empty vector is what it contains
pub made_file : (files : FileKind) (plain held : List PlainEvent) (start made : List ℕ)
    → plain ≡ held → start ≡ []
    → (file : List ℕ) × IsOfTree plain (λ tree. files.IsFile tree file) × (made ≡ start ++ file)
    → IsOfTree held (λ tree. files.IsFile tree made)
made_file files plain held start made same none (file, is, appends) =
    let whole : made ≡ file = appends ∙ ap (λ l. l ++ file) none in
    rw (← same, whole) is
