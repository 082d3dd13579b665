-- What limits and a budget of bytes imply for a value.
use Rattle.std.specs.Prelude.{ℕ, ◌-◌, ◌≤◌, List, length, ⊤}
use Rattle.plist_base.specs.declared.limits.Limits.{Limits}
use Rattle.plist_base.specs.Events.{PlainEvent}
use Rattle.plist_base.specs.Budgets.{total_bytes}
use Rattle.plist_base.specs.Trees.{Tree, Leaf, Array, Dictionary, Trees, NoTrees, TreeAnd, Members, NoMembers, MemberAnd}
use Rattle.plist_base.specs.Bracketing.{bracketing}

-- at most this many collections of a tree are nested in one another
abbrev mutual
  pub NestsWithin : Tree → (depth : ℕ) → Type 0
  NestsWithin (Leaf scalar) depth = ⊤
  NestsWithin (Array items) depth = (1 ≤ depth) × ItemsNestWithin items (depth - 1)
  NestsWithin (Dictionary pairs) depth = (1 ≤ depth) × PairsNestWithin pairs (depth - 1)

  -- each of these items nests at most this many collections
  pub ItemsNestWithin : Trees → (depth : ℕ) → Type 0
  ItemsNestWithin NoTrees depth = ⊤
  ItemsNestWithin (TreeAnd tree trees) depth = NestsWithin tree depth × ItemsNestWithin trees depth

  -- each value of these pairs nests at most this many collections
  pub PairsNestWithin : Members → (depth : ℕ) → Type 0
  PairsNestWithin NoMembers depth = ⊤
  PairsNestWithin (MemberAnd key tree members) depth =
      NestsWithin tree depth × PairsNestWithin members depth

-- there are no more events than the limits allow
abbrev pub FitLimits : Limits → List PlainEvent → Type 0
FitLimits limits events = length events ≤ limits.items

-- there are no more events than the limits allow, and their strings and data have at most this many
-- bytes in all
abbrev pub FitBudget : Limits → (bytes : ℕ) → List PlainEvent → Type 0
FitBudget limits bytes events = FitLimits limits events × (total_bytes events ≤ bytes)

-- a value's tree nests at most `depth` collections, and has at most `items` events
abbrev pub IsWithinLimits : Limits → Tree → Type 0
IsWithinLimits limits tree =
    NestsWithin tree limits.depth × FitLimits limits (bracketing tree)

-- a value is within these limits, and its strings and data have at most this many bytes in all
abbrev pub IsWithinBudget : Limits → (bytes : ℕ) → Tree → Type 0
IsWithinBudget limits bytes tree =
    NestsWithin tree limits.depth × FitBudget limits bytes (bracketing tree)
