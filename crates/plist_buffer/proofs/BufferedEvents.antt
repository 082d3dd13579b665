-- The buffered events after scalars that waited were appended to the table, after another scalar
-- waits, and after another event was appended.
use Rattle.std.proofs.Common.{◌≡◌, ◌≢◌, ℕ, ◌<◌, List, [], ◌∷◌, ◌++◌, Option, Some, Result, Ok, Err, IsErrAnd, true, length, take, drop, refl, sym, ap, ◌∙◌, append_assoc, append-nil, arith, rules}
use Rattle.std.proofs.lemmas.List.{map-append, take-append-drop}
use Rattle.std.proofs.Math.ListN.{get_or-append}
use Rattle.std.specs.Option.{is_none}
use Rattle.plist_base.specs.Bracketing.{without_length}
use Rattle.plist_base.specs.Events.{PlainEvent, ScalarEvent}
use Rattle.plist_base.specs.PackedScalars.{scalar_of_packed}
use Rattle.plist_base.specs.Trees.{Scalar}
use Rattle.plist_buffer.specs.StoredScalars.{event_of_small, events_of_small}
use Rattle.plist_buffer.specs.EventTable.{event_at, plain_events, table_event}
use Rattle.plist_buffer.specs.EventBuffers.{buffered_events, Buffers, BuffersSame, CanTake, TestsWhole}
use Rattle.plist_buffer.specs.declared.event_buffer.EventBuffer.{EventBuffer}
use Rattle.plist_buffer.specs.declared.event_buffer.PushError.{PushError}
use Rattle.plist_buffer.specs.declared.event_buffer.PushError.TheVariants.{OutOfMemory}
use Rattle.plist_buffer.specs.declared.event_table.EventTable.{EventTable}
use Rattle.plist_buffer.specs.declared.expects.Expect.{Expect}
use Rattle.plist_buffer.specs.declared.expects.Expect.TheVariants.{Items}
use Rattle.plist_buffer.specs.declared.expects.Transition.{Transition}
use Rattle.plist_buffer.specs.declared.expects.Transition.TheVariants.{Kept, Refused}
use Rattle.plist_base.specs.declared.packed_scalar.PackedScalar.{PackedScalar}
use Rattle.plist_buffer.specs.Expects.{ExpectsNext, expected_inside, innermost, change_on, next_expected}
use Rattle.plist_buffer.specs.inner.Entries.{is_leaf}
use Rattle.plist_buffer.proofs.EntryEvents.{leaf_without_length}
use Rattle.plist_buffer.proofs.Expectations.{can_take, expects_next, tests_next}

-- the first k of the scalars that waited were appended to the table, and the others still wait
pub still_buffered : {waiting slice left : List PackedScalar} (held : EventTable)
    {after : List PlainEvent} (k : ℕ) → slice ≡ waiting
    → after ≡ plain_events held ++ events_of_small (take k slice) → left ≡ drop k waiting
    → after ++ events_of_small left ≡ plain_events held ++ events_of_small waiting
still_buffered {waiting} held k same grown rest = grind (
  arith,
  append_assoc {A = PlainEvent},
  map-append event_of_small (take k waiting) (drop k waiting),
  take-append-drop k waiting,
)

-- an allocation failed in the table, which is unchanged
pub still_same : (s t u : EventBuffer) → BuffersSame s t
    → plain_events u.held ≡ plain_events t.held → u.waiting ≡ t.waiting → u.expects ≡ t.expects
    → BuffersSame s u
still_same s t u same held waiting expects = record {
  events = (λ i. held i ++ events_of_small (waiting i)) ∙ same.events;
  expects = expects ∙ same.expects;
}

-- an event of the table is a buffered one
pub event_in_table : (s : EventBuffer) (index : ℕ) → index < length (plain_events s.held)
    → event_at (buffered_events s) index ≡ table_event s.held index
event_in_table s index within = grind (arith, get_or-append (plain_events s.held))

-- the event and those of `s` are in the table and wait, and `next` is expected after them
pub record Holds (s : EventBuffer) (e : PlainEvent) (table : List PlainEvent)
    (waiting : List PackedScalar) (next : Option Expect) : Type 0 where
  pub kept : record {
    wanted : ExpectsNext (table ++ events_of_small waiting) next;
    items : 0 < length waiting → next ≡ Some Items;
  }
  pub taken : CanTake s e
      × ((table ++ events_of_small waiting ≡ buffered_events s ++ without_length e ∷ [])
      × TestsWhole (is_none next) (buffered_events s ++ e ∷ []))

-- `t` has the events of `s`, and expects the same
module _ (s t : EventBuffer) (same : BuffersSame s t) (e : PlainEvent) {c : Transition}
    (is : c ≡ change_on s.expects e) (allowed : c ≢ Refused) where
  -- an allocation failed
  pub failed : (r : Result (Unit {0}) PushError) → IsErrAnd r (λ error. error ≡ OutOfMemory)
      → Buffers s e r t
  failed (Ok done) out = absurd out
  failed (Err error) out = record {
    taken = tt;
    refused = rw out (can_take s e is allowed, same.events, ap is_none same.expects);
  }

  -- an event was appended to the table, and no scalar waits
  pub after_appending : {table : List PlainEvent} {next : Option Expect} → t.waiting ≡ []
      → table ≡ plain_events t.held ++ without_length e ∷ []
      → next ≡ next_expected c t.expects (innermost (expected_inside table))
      → Holds s e table t.waiting next
  after_appending {table} none grown found =
      let in_table : (events : List PlainEvent) → events ++ events_of_small t.waiting ≡ events
      = λ events. ap (λ l. events ++ events_of_small l) none ∙ append-nil events in
      let more = in_table table ∙ grown
      ∙ ap (λ l. l ++ without_length e ∷ []) (sym (in_table (plain_events t.held)) ∙ same.events) in
      let found_after = found ∙ (λ i. next_expected c (same.expects i)
      (innermost (expected_inside (sym (in_table table) i)))) in
      record {
        kept = record {
          wanted = expects_next s e is allowed more found_after;
          items = λ some. absurd (omega (arith, some, ap length none));
        };
        taken = (can_take s e is allowed, (more, tests_next s e is allowed more found_after));
      }

-- another scalar waits, which is an item of an array
pub after_waiting : (s t : EventBuffer) → BuffersSame s t → (x : PackedScalar)
    {waiting : List PackedScalar} {c : Transition} → c ≡ change_on s.expects (event_of_small x)
    → c ≡ Kept → waiting ≡ t.waiting ++ x ∷ []
    → Holds s (event_of_small x) (plain_events t.held) waiting t.expects
after_waiting s t same x is kept grown =
    let more = ap (λ l. plain_events t.held ++ l) (ap events_of_small grown
    ∙ map-append event_of_small t.waiting (x ∷ []))
    ∙ sym (append_assoc (plain_events t.held) (events_of_small t.waiting) (event_of_small x ∷ []))
    ∙ ap (λ l. l ++ event_of_small x ∷ []) same.events in
    record {
      kept = record {
        wanted = expects_next s (event_of_small x) is (λ refused. cc) more (rw kept same.expects);
        items = λ some. same.expects ∙ items s.expects (scalar_of_packed x) (sym is ∙ kept);
      };
      taken = (
        can_take s (event_of_small x) is (λ refused. cc),
        (more, tests_next s (event_of_small x) is (λ refused. cc) more (rw kept same.expects)),
      );
    }
  where
    items : (next : Option Expect) (x : Scalar) → change_on next (ScalarEvent x) ≡ Kept
        → next ≡ Some Items
    items next x is = search rules

-- the scalar of an earlier event was appended to the table, and no scalar waits
pub after_repeating : (s : EventBuffer) (index : ℕ) {c : Transition} {table : List PlainEvent}
    {next : Option Expect} → s.waiting ≡ []
    → (is_leaf (table_event s.held index) ≡ true)
    × (c ≡ change_on s.expects (table_event s.held index)) → c ≢ Refused
    → table ≡ plain_events s.held ++ table_event s.held index ∷ []
    → next ≡ next_expected c s.expects (innermost (expected_inside table))
    → Holds s (table_event s.held index) table s.waiting next
after_repeating s index none (leaf, is) allowed grown =
    after_appending s s (record { events = refl; expects = refl }) (table_event s.held index) is
    allowed none
    (grown ∙ ap (λ e. plain_events s.held ++ e ∷ []) (sym (leaf_without_length _ leaf)))
