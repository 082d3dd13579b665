-- The contents of open collections after one is changed or closed.
use Rattle.std.proofs.Common.{◌≡◌, ◌<◌, List, [], ◌∷◌, length, None, Option, Some, String, Global, refl, sym, ap, subst, arith, string_bytes}
use Rattle.plist_buffer.specs.declared.expects.Expect.TheVariants as expect
use Rattle.plist.specs.declared.open_collections.Level.{Level}
use Rattle.plist.specs.declared.open_collections.Level.TheVariants as level
use Rattle.plist.specs.declared.open_collections.OpenDictionary.{OpenDictionary}
use Rattle.plist.specs.declared.value.Value.{Value}
use Rattle.plist_base.specs.Events.{PlainEvent}
use Rattle.plist.specs.Building.{refusal_at, refusal_of}
use Rattle.plist.specs.OpenCollections.{Contents, HaveContents, contents_by_level, within}
use Rattle.plist.specs.inner.CollectionSteps.{AddsKey, ChangesInnermost, TakesKey, expected_in}

-- if there is a level, there is a collection
pub some_open : (levels : List Level) (arrays : List (List Value))
    (dictionaries : List OpenDictionary) → HaveContents levels arrays dictionaries
    → 0 < length levels → 0 < length (contents_by_level levels arrays dictionaries)
some_open [] arrays dictionaries ok some = absurd (omega arith)
some_open (level.Array ∷ levels) [] dictionaries ok some = absurd ok
some_open (level.Array ∷ levels) (items ∷ arrays) dictionaries ok some = omega arith
some_open (level.Dictionary ∷ levels) arrays [] ok some = absurd ok
some_open (level.Dictionary ∷ levels) arrays (dictionary ∷ dictionaries) ok some = omega arith

-- a key is added where one is expected
pub key_added : (levels : List Level) (arrays : List (List Value))
    (old new : List OpenDictionary) (key : String Global)
    → expected_in (contents_by_level levels arrays old) ≡ expect.Pairs → AddsKey old key new
    → TakesKey (contents_by_level levels arrays old) (string_bytes key) (contents_by_level levels arrays new)
key_added [] arrays old new key e added = cc
key_added (level.Array ∷ levels) [] old new key e added = cc
key_added (level.Array ∷ levels) (items ∷ arrays) old new key e added = cc
key_added (level.Dictionary ∷ levels) arrays [] new key e added = cc
key_added (level.Dictionary ∷ levels) arrays (dictionary ∷ old) new key e added =
    by dictionary.key e added
  where
    with : Option (String Global) → List Contents
    with before = contents_by_level (level.Dictionary ∷ levels) arrays
        (record dictionary { key = before } ∷ old)

    by : (before : Option (String Global)) → expected_in (with before) ≡ expect.Pairs
        → new ≡ record dictionary { key = Some key } ∷ old
        → TakesKey (with before) (string_bytes key)
        (contents_by_level (level.Dictionary ∷ levels) arrays new)
    by None e added =
        ap (λ l. Some (within (contents_by_level (level.Dictionary ∷ levels) arrays l))) (sym added)
    by (Some other) e added = cc

-- each level still has its contents after a dictionary that takes a key has changed
pub still_open : (levels : List Level) (arrays : List (List Value))
    (old new : List OpenDictionary) → HaveContents levels arrays old
    → expected_in (contents_by_level levels arrays old) ≡ expect.Pairs → ChangesInnermost old new
    → HaveContents levels arrays new
still_open [] arrays old new ok e changes = tt
still_open (level.Array ∷ levels) [] old new ok e changes = absurd ok
still_open (level.Array ∷ levels) (items ∷ arrays) old new ok e changes = cc
still_open (level.Dictionary ∷ levels) arrays [] new ok e changes = absurd ok
still_open (level.Dictionary ∷ levels) arrays (dictionary ∷ old) new ok e changes =
    subst (HaveContents (level.Dictionary ∷ levels) arrays) (sym changes.1) ok

-- an event is rejected by what is expected in the innermost collection
pub refusal_within : (collections : List Contents) (event : PlainEvent)
    → refusal_at (within collections) event ≡ refusal_of (expected_in collections) event
refusal_within [] event = refl
refusal_within (contents ∷ outer) event = refl

pub ruleset open_levels = (some_open, key_added, still_open, refusal_within)
