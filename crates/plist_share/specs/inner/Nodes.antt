-- Collections, described by the classes of their children.
use Rattle.std.specs.Prelude.{◌≡◌, ◌≢◌, ◌↔◌, ℕ, ◌+◌, ◌<◌, ◌≤◌, Bool, true, false, List, ◌++◌, length, map, Option, None, Some, slice_get, ⊤}
use Rattle.plist_base.specs.Trees.{Tree, Leaf, Array, Dictionary}
use Rattle.plist_buffer.specs.EventTable.{HasItem, item_indices, key_indices, plain_events, value_indices}
use Rattle.plist_buffer.specs.declared.event_table.EventTable.{EventTable}
use Rattle.plist_buffer.specs.Occurrences.{OccursAt}
use Rattle.plist_binwrite.specs.Classes.{AreClasses, HasEachCollection, listed_class}
use Rattle.plist_binwrite.specs.declared.classes.ClassList.{ClassList}
use Rattle.plist_share.specs.declared.classes.Collection.{Collection}

-- a collection: whether it is a dictionary, and the classes of its children
abbrev pub Node : Type 0
Node = Bool × List ℕ

-- the node of a collection
abbrev pub node_of : Collection → Node
node_of collection = (collection.is_dictionary, collection.children.items)

-- the new list begins with all nodes of the old one, and only the node at `index` may have been
-- appended
pub record Extends (old : List Node) (index : ℕ) (new : List Node) : Type 0 where
  pub keeps : (i : ℕ) → i < length old → slice_get new i ≡ slice_get old i
  pub only : (i : ℕ) → i < length new → i ≢ index → i < length old

-- the node of the tree at index p, with a dictionary's keys before its values, or `None` for a
-- scalar
abbrev pub node_at : (class : ℕ → ℕ) → Tree → ℕ → Option Node
node_at class (Leaf x) p = None
node_at class (Array ts) p = Some (false, map class (item_indices ts (p + 1)))
node_at class (Dictionary ms) p =
    Some (true, map class (key_indices ms (p + 1)) ++ map class (value_indices ms (p + 1)))

-- the class of a collection is `count` plus the collection's index among those found so far;
-- nothing is said about a scalar
abbrev pub IsClass : (count : ℕ) → (nodes : List Node) → Option Node → (class : ℕ) → Type 0
IsClass count nodes None class = ⊤
IsClass count nodes (Some node) class =
    (i : ℕ) × (class ≡ count + i) × (slice_get nodes i ≡ Some node)

-- if a collection begins at the index, `class` is its class
abbrev pub IsClassAt : EventTable → ClassList → (nodes : List Node) → (index class : ℕ) → Type 0
IsClassAt held found nodes index class = (t : Tree) → OccursAt (plain_events held) t index
    → IsClass found.bound nodes (node_at (listed_class found held) t index) class

-- each collection from index `from` on has its class, and each node is that of such a collection
pub record AreClassesFrom (held : EventTable) (found : ClassList) (nodes : List Node) (from : ℕ)
    : Type 0 where
  pub each : (p : ℕ) → from ≤ p → IsClassAt held found nodes p (listed_class found held p)
  pub used : (i : ℕ) → i < length nodes → (p : ℕ) × (from ≤ p) × HasItem (plain_events held) p
      × (listed_class found held p ≡ found.bound + i)

-- each tree has a class below the bound, each number below the bound is the class of a tree, and
-- two trees have the same class if and only if they are equal
pub record SeparatesAll (held : EventTable) (found : ClassList) : Type 0 where
  pub objects : AreClasses (plain_events held) (listed_class found held)
  pub trees : (t u : Tree) (p q : ℕ) → OccursAt (plain_events held) t p
      → OccursAt (plain_events held) u q
      → (listed_class found held p ≡ listed_class found held q) ↔ (t ≡ u)
  pub long : HasEachCollection found held
  pub below : (p : ℕ) → HasItem (plain_events held) p → listed_class found held p < found.bound
  pub used : (k : ℕ) → k < found.bound
      → (p : ℕ) × HasItem (plain_events held) p × (listed_class found held p ≡ k)
