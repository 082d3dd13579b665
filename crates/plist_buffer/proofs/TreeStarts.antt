-- The events at which trees begin.
use Rattle.std.proofs.Common.{◌≡◌, ◌⊎◌, ℕ, ◌+◌, ◌<◌, ◌≤◌, false, None, List, ◌∷◌, ◌++◌, length, drop, ap, arith, length-append, length-drop, add-zero, rules}
use Rattle.std.proofs.lemmas.List.{get_or-drop}
use Rattle.plist_base.specs.Trees as trees
use Rattle.plist_base.specs.Events.{PlainEvent, StartArray, StartDictionary, EndCollection, ScalarEvent}
use Rattle.plist_base.specs.Trees.{Tree, Leaf, Array, Dictionary, Trees, Members}
use Rattle.plist_buffer.specs.Occurrences.{event_count, OccursAt}
use Rattle.plist_buffer.specs.EventTable.{is_end, event_at}
use Rattle.plist_base.specs.declared.event.EventShape.{EventShape}
use Rattle.plist_base.specs.declared.event.EventShape.TheVariants as shape

pub first_event : (es : List PlainEvent) (p : ℕ) (e : PlainEvent) (r : List PlainEvent)
    → drop p es ≡ e ∷ r → event_at es p ≡ e
first_event es p e r h =
    cc (add-zero p, get_or-drop p es 0 EndCollection)

pub within : (es : List PlainEvent) (p : ℕ) (a r : List PlainEvent) → drop p es ≡ a ++ r
    → 0 < length a → p + length a ≤ length es
within es p a r h k = omega (arith, length-drop p es, ap length h, length-append a r)

pub size_positive : (t : Tree) → 0 < event_count t
size_positive (Leaf x) = omega arith
size_positive t = omega arith

pub occurs_within : {es : List PlainEvent} {t : Tree} {p : ℕ} → OccursAt es t p
    → p + event_count t ≤ length es
occurs_within {es} {t} {p} s = within es p _ _ s.is (size_positive t)

pub occurs_in : {es : List PlainEvent} {t : Tree} {p : ℕ} → OccursAt es t p → p < length es
occurs_in {es} {t} s = omega (arith, occurs_within s, size_positive t)

-- the first event of each kind of tree
module _ {es : List PlainEvent} {p : ℕ} where
  pub starts_array : {ts : Trees} → OccursAt es (Array ts) p → event_at es p ≡ StartArray None
  starts_array {ts} s =
      first_event es p _ _ s.is

  pub starts_dictionary : {ms : Members} → OccursAt es (Dictionary ms) p
      → event_at es p ≡ StartDictionary None
  starts_dictionary {ms} s =
      first_event es p _
      _ s.is

  pub stands_single : {x : trees.Scalar} → OccursAt es (Leaf x) p → event_at es p ≡ ScalarEvent x
  stands_single {x} s = first_event es p _ _ s.is

-- a scalar and an end don't begin a collection
pub no_start : {k : EventShape} → (k ≡ shape.Scalar) ⊎ (k ≡ shape.EndCollection)
    → (k ≡ shape.StartArray → ⊥) × (k ≡ shape.StartDictionary → ⊥)
no_start is = search rules

pub begins : {es : List PlainEvent} (t : Tree) (p : ℕ) → OccursAt es t p
    → is_end (event_at es p) ≡ false
begins (Leaf x) p s = ap is_end (stands_single s)
begins (Array ts) p s = ap is_end (starts_array s)
begins (Dictionary ms) p s = ap is_end (starts_dictionary s)
