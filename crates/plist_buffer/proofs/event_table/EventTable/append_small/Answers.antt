use Rattle.std.proofs.Common.{rules, arith, ◌≡◌, ℕ, ◌+◌, ◌<◌, false, List, [], ◌∷◌, ◌++◌, length, take, None, Result, OnOk, slice_index_or, append_assoc}
use Rattle.std.proofs.lemmas.List.{map-append, take_more}
use Rattle.std.proofs.lemmas.Option.{IfSome_then}
use Rattle.std.specs.Result.{is_err}
use Rattle.plist_base.specs.Events.{PlainEvent}
use Rattle.plist_buffer.specs.EventTable.{plain_events}
use Rattle.plist_buffer.specs.StoredScalars.{event_of_small, events_of_small}
use Rattle.plist_buffer.specs.declared.entries.ScalarNumber.TheVariants.{Small}
use Rattle.plist_base.specs.declared.packed_scalar.PackedScalar.{PackedScalar}
use Rattle.plist_buffer.proofs.event_table.EventTable.append_small.Goals as goal

on_ok : {T E : Type 0} (r : Result T E) {P : Type 0} → false ≡ is_err r → OnOk r P → P
on_ok r is h = search rules

-- after the first i scalars, the next one was appended
one_more : (before : List PlainEvent) {now after : List PlainEvent} (xs : List PackedScalar) (i : ℕ)
    (x : PackedScalar) → i < length xs → x ≡ slice_index_or xs i x
    → now ≡ before ++ events_of_small (take i xs) → after ≡ now ++ event_of_small x ∷ []
    → after ≡ before ++ events_of_small (take (i + 1) xs)
one_more before xs i x lt is so_far grown =
    grind (arith, append_assoc before, take_more xs i x lt, map-append event_of_small (take i xs))

pub loop-index-preserved : goal.loop-index-preserved
loop-index-preserved c =
    let ok = c.if-is_err.ensures.value in
    record {
      events = one_more (plain_events c.args.self.now) c.args.scalars.now c.loop-index.index
          c.index-scalars-index.result c.loop-index-test.true c.index-scalars-index.is
          c.loop-index.invariant.events (on_ok c.push_found.result ok c.push_found.ensures.events);
      found = λ k x lt.
          IfSome_then (slice_index_or c.find_each-found.result k None)
          (c.loop-index.invariant.found k x lt)
          (λ number h. on_ok c.push_found.result ok c.push_found.ensures.kept (Small number) _ h);
    }
