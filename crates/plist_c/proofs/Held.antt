-- The records and the bytes of the events that were stored so far.
use Rattle.std.proofs.Common.{◌≡◌, ℕ, ◌+◌, List, [], ◌∷◌, ◌++◌, length, take, sym, ap, ◌∙◌, append_assoc, append-nil, arith, length-append}
use Rattle.plist_base.specs.Events.{PlainEvent, text_or_data}
use Rattle.plist_c.specs.declared.filler.Filler.{Filler}
use Rattle.plist_c.specs.declared.flat.Outcome.{Outcome}
use Rattle.plist_c.specs.Flat.{AreUtf8Events, IsUtf8Event, bytes_of, flat_events, flat_of}
use Rattle.plist_c.specs.Outcomes.{plain_outcome}
use Rattle.plist_c.specs.Reading.{StoresEvents}
use Rattle.plist_c.specs.inner.Filling.{StoresNone, StoresOne, memory_of}

bytes_more : (events : List PlainEvent) (event : PlainEvent)
    → bytes_of (events ++ event ∷ []) ≡ bytes_of events ++ text_or_data event
bytes_more [] event = append-nil (text_or_data event)
bytes_more (first ∷ events) event =
    ap (λ l. text_or_data first ++ l) (bytes_more events event)
    ∙ sym (append_assoc (text_or_data first) (bytes_of events) (text_or_data event))

flat_at : (n m : ℕ) (event : PlainEvent) → n ≡ m → flat_of n event ≡ flat_of m event
flat_at n m event is = ap (λ place. flat_of place event) is

flat_more : (place : ℕ) (events : List PlainEvent) (event : PlainEvent)
    → flat_events place (events ++ event ∷ [])
    ≡ flat_events place events ++ flat_of (place + length (bytes_of events)) event ∷ []
flat_more place [] event =
    ap (λ one. one ∷ []) (flat_at place (place + 0) event (omega arith))
flat_more place (first ∷ events) event =
    let size = length (text_or_data first) in
    let rest = length (bytes_of events) in
    ap (λ l. flat_of place first ∷ l) (flat_more (place + size) events event
    ∙ ap (λ one. flat_events (place + size) events ++ one ∷ [])
    (flat_at (place + size + rest) (place + length (text_or_data first ++ bytes_of events)) event
    (omega (arith, length-append (text_or_data first) (bytes_of events)))))

utf8_more : (events : List PlainEvent) (event : PlainEvent) → AreUtf8Events events
    → IsUtf8Event event → AreUtf8Events (events ++ event ∷ [])
utf8_more [] event are is = (is, tt)
utf8_more (first ∷ events) event are is = (are.0, utf8_more events event are.1 is)

-- what a filler has stored
abbrev pub HeldBy : List PlainEvent → Filler → Type 0
HeldBy done filler = StoresEvents done (plain_outcome filler.count filler.used 0) (memory_of filler)

-- one more event is stored
pub held_more : (done : List PlainEvent) (event : PlainEvent) (old new : Filler)
    → HeldBy done old → IsUtf8Event event → StoresOne old event new
    → HeldBy (done ++ event ∷ []) new
held_more done event old new held utf8 one = record {
  count = one.count ∙ omega (arith, held.count, length-append done (event ∷ []));
  used = one.used ∙ omega (
    arith,
    held.used,
    ap length (bytes_more done event),
    length-append (bytes_of done) (text_or_data event),
  );
  records = one.events ∙ ap (λ l. l ++ flat_of old.used event ∷ []) held.records
      ∙ ap (λ one. flat_events 0 done ++ one ∷ [])
      (flat_at old.used (0 + length (bytes_of done)) event (omega (arith, held.used)))
      ∙ sym (flat_more 0 done event);
  bytes = one.bytes ∙ ap (λ l. l ++ text_or_data event) held.bytes ∙ sym (bytes_more done event);
  utf8 = utf8_more done event held.utf8 utf8;
}

-- nothing is stored yet
pub held_none : (filler : Filler) → filler.count ≡ 0 → filler.used ≡ 0 → HeldBy [] filler
held_none filler count used = record {
  count = count;
  used = used;
  records = ap (λ n. take n filler.events.now) count;
  bytes = ap (λ n. take n filler.bytes.now) used;
  utf8 = tt;
}

-- the same is stored if nothing more is
pub held_still : (done : List PlainEvent) (old new : Filler) → StoresNone old new → HeldBy done old
    → HeldBy done new
held_still done old new none held = rw (none.count, none.used, none.events, none.bytes) held

-- the outcome counts what is stored
pub held_as : (done : List PlainEvent) (filler : Filler) (outcome : Outcome)
    → outcome.events ≡ filler.count → outcome.bytes ≡ filler.used → HeldBy done filler
    → StoresEvents done outcome (memory_of filler)
held_as done filler outcome count used held = record {
  count = count ∙ held.count;
  used = used ∙ held.used;
  records = ap (λ n. take n filler.events.now) count ∙ held.records;
  bytes = ap (λ n. take n filler.bytes.now) used ∙ held.bytes;
  utf8 = held.utf8;
}
