-- The scalars of a table after one was inserted into one of its two sets.
use Rattle.std.proofs.Common.{◌≡◌, ◌⊎◌, ℕ, Bool, true, if◌then◌else◌, List, [], ◌∷◌, ◌++◌, map, position, Some, sym, ◌∙◌, rules}
use Rattle.std.specs.Prelude.{slice_get}
use Rattle.std.specs.List.{IsDistinct}
use Rattle.plist_base.specs.Events.{PlainEvent}
use Rattle.plist_base.specs.PackedScalars.{packed_eq}
use Rattle.plist_buffer.specs.EventTable.{lists_in}
use Rattle.plist_buffer.specs.StoredScalars.{event_of_small, event_of_long, events_of_small}
use Rattle.plist_buffer.specs.declared.event_table.EventTable.{EventTable}
use Rattle.plist_buffer.specs.declared.entries.ScalarNumber.TheVariants.{Small, Long}
use Rattle.plist_buffer.specs.declared.long_scalar.LongScalar.{LongScalar}
use Rattle.plist_base.specs.declared.packed_scalar.PackedScalar.{PackedScalar}
use Rattle.plist_buffer.specs.inner.Entries.{AreDistinct, ScalarLists, all_scalars, event_numbered, lists_of}
use Rattle.plist_buffer.proofs.EntryEvents.{Grown, numbered_is}
use Rattle.plist_buffer.proofs.SameScalars.{small_same, same_small, long_eq, long_same, same_long, small_or_long}
use Rattle.plist_buffer.proofs.SetKeys.{distinct_both, distinct_first, distinct_second, grown, key_at, key_found, keys_apart, mapped}

-- all scalars are different if those of each set are
both_apart : (small : List PackedScalar) (long : List LongScalar)
    → AreDistinct (map event_of_small small) → AreDistinct (map event_of_long long)
    → AreDistinct (all_scalars (lists_of small long))
both_apart small long first second =
    distinct_both (map event_of_small small) (map event_of_long long) first second (λ i j e p q.
    let a = mapped event_of_small small i e p in
    let b = mapped event_of_long long j e q in
    small_or_long a.0 b.0 (sym a.1 ∙ b.1))

-- a scalar was added to one of the two lists, or to neither
added : {a b c : List PlainEvent} (lists : List PlainEvent → ScalarLists)
    → (a ≡ b) ⊎ (a ≡ c) → (lists a ≡ lists b) ⊎ (lists a ≡ lists c)
added lists is = search rules

-- a long scalar was found
pub found_long : (held : EventTable) (x : LongScalar) (i : ℕ)
    → Some i ≡ position (long_eq x) held.long.keys
    → event_numbered (lists_in held) (Long i) ≡ event_of_long x
found_long held x i is = numbered_is (lists_in held) (Long i) _
    (key_found long_eq event_of_long x (long_same x) held.long.keys (Some i) is)

-- a small scalar was inserted, unless it was there
pub grown_small : (held : EventTable) {new : List PackedScalar} (x : PackedScalar) (b : Bool)
    → new ≡ (if b then held.small.keys else held.small.keys ++ x ∷ []) → IsDistinct packed_eq new
    → (i : ℕ) → (y : PackedScalar) × (slice_get new i ≡ Some y) × (packed_eq x y ≡ true)
    → Grown (lists_in held) (lists_of new held.long.keys) (Small i) (event_of_small x)
grown_small held {new} x b is unique i (y, here, same) = record {
  was = added (λ small. record { small = small; long = map event_of_long held.long.keys })
      (grown packed_eq event_of_small b held.small.keys new x is);
  stored = key_at packed_eq event_of_small new i x y (small_same x y) here same;
  apart = both_apart new held.long.keys (keys_apart packed_eq event_of_small same_small new unique)
      (distinct_second _ _ held.kept.apart);
}

-- a long scalar was inserted, unless it was there
pub grown_long : (held : EventTable) {new : List LongScalar} (x : LongScalar) (b : Bool)
    → new ≡ (if b then held.long.keys else held.long.keys ++ x ∷ []) → IsDistinct long_eq new
    → (i : ℕ) → (y : LongScalar) × (slice_get new i ≡ Some y) × (long_eq x y ≡ true)
    → Grown (lists_in held) (lists_of held.small.keys new) (Long i) (event_of_long x)
grown_long held {new} x b is unique i (y, here, same) = record {
  was = added (λ long. record { small = events_of_small held.small.keys; long = long })
      (grown long_eq event_of_long b held.long.keys new x is);
  stored = key_at long_eq event_of_long new i x y (long_same x y) here same;
  apart = both_apart held.small.keys new (distinct_first _ _ held.kept.apart)
      (keys_apart long_eq event_of_long same_long new unique);
}
