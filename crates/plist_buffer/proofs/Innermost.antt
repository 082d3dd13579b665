-- The innermost open start decides what is expected in its collection.
use Rattle.std.proofs.Common.{◌≡◌, ◌⊎◌, ℕ, ◌<◌, true, List, [], ◌∷◌, ◌++◌, length, drop, map, Option, None, Some, refl, rules, arith}
use Rattle.plist_base.specs.Events.{PlainEvent, StartArray, StartDictionary, EndCollection, ScalarEvent, shape_of}
use Rattle.plist_buffer.specs.declared.expects.Expect.{Expect}
use Rattle.plist_buffer.specs.declared.expects.Expect.TheVariants.{Items, Pairs}
use Rattle.plist_buffer.specs.declared.event_table.EventTable.{EventTable}
use Rattle.plist_base.specs.declared.event.EventShape.{EventShape}
use Rattle.plist_base.specs.declared.event.EventShape.TheVariants as shape
use Rattle.plist_buffer.specs.EventTable.{event_at, plain_events}
use Rattle.plist_buffer.specs.Expects.{expected_after_start, expected_inside, innermost}
use Rattle.plist_buffer.specs.inner.UnclosedStarts.{unclosed_after_event, unclosed_from}
use Rattle.plist_buffer.proofs.EntryEvents.{below, unclosed_is, was_start}
use Rattle.plist_buffer.proofs.TreeOccurrences.{past_one}
use Rattle.plist_buffer.proofs.OpenStarts.{is_start}
use Rattle.plist_buffer.proofs.TreeStarts.{first_event}

-- ---- open starts, and the collections that they begin

-- an open collection
pub data OpenKind : Type 0 where
  OpenArray : OpenKind
  OpenDictionary : OpenKind

-- the open collections after an event, innermost first
abbrev pub open_after_event : PlainEvent → List OpenKind → List OpenKind
open_after_event (StartArray hint) kinds = OpenArray ∷ kinds
open_after_event (StartDictionary hint) kinds = OpenDictionary ∷ kinds
open_after_event EndCollection kinds = drop 1 kinds
open_after_event (ScalarEvent x) kinds = kinds

-- the open collections after these events, innermost first
abbrev pub open_after : List PlainEvent → List OpenKind → List OpenKind
open_after [] kinds = kinds
open_after (event ∷ events) kinds = open_after events (open_after_event event kinds)

-- what is expected in a collection
abbrev pub expects_in : OpenKind → Expect
expects_in OpenArray = Items
expects_in OpenDictionary = Pairs

module _ (all : List PlainEvent) where
  abbrev expect_at : ℕ → Expect
  expect_at q = expected_after_start (event_at all q)

  one_inside : (e : PlainEvent) (p : ℕ) (unclosed : List ℕ) (kinds : List OpenKind)
      → event_at all p ≡ e → map expect_at unclosed ≡ map expects_in kinds
      → map expect_at (unclosed_after_event e p unclosed) ≡ map expects_in (open_after_event e kinds)
  one_inside e p unclosed kinds is same = grind arith

  all_inside : (es : List PlainEvent) (p : ℕ) (unclosed : List ℕ) (kinds : List OpenKind)
      → drop p all ≡ es → map expect_at unclosed ≡ map expects_in kinds
      → map expect_at (unclosed_from es p unclosed) ≡ map expects_in (open_after es kinds)
  all_inside [] p unclosed kinds is same = same
  all_inside (e ∷ es) p unclosed kinds is same =
      all_inside es _ _ _ (past_one e es all p is)
      (one_inside e p unclosed kinds (first_event all p e es is) same)

  pub inside_is : expected_inside all ≡ map expects_in (open_after all [])
  inside_is = all_inside all 0 [] [] refl refl

-- ---- what the table returns

abbrev pub expect_of_kind : EventShape → Option Expect
expect_of_kind shape.StartArray = Some Items
expect_of_kind shape.StartDictionary = Some Pairs
expect_of_kind other = None

start_expects : (e : PlainEvent) → is_start e ≡ true
    → expect_of_kind (shape_of e) ≡ Some (expected_after_start e)
start_expects e is = search rules

module _ (table : EventTable) where
  abbrev events : List PlainEvent
  events = plain_events table

  module _ (q : ℕ) (outer : List ℕ) (is : table.unclosed ≡ outer ++ q ∷ []) where
    pub last_within : q < length events
    last_within = below is_start events q refl (was_start table.kept.entries_are q outer is)

    -- the kind of the innermost open start determines what is expected
    pub last_expects : (k : EventShape) → k ≡ shape_of (event_at events q)
        → expect_of_kind k ≡ innermost (expected_inside events)
    last_expects k k_is =
        grind (
          arith,
          start_expects (event_at events q) (was_start table.kept.entries_are q outer is),
          unclosed_is table.kept.entries_are q outer is,
        )

    pub last_is_start : (k : EventShape) → k ≡ shape_of (event_at events q)
        → (k ≡ shape.Scalar) ⊎ (k ≡ shape.EndCollection) → None ≡ innermost (expected_inside events)
    last_is_start k k_is other = grind (arith, last_expects k k_is)

  pub none_expects : table.unclosed ≡ [] → None ≡ innermost (expected_inside events)
  none_expects none = cc table.kept.entries_are.starts
