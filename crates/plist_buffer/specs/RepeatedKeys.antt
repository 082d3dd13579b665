-- Trees whose dictionaries contain no key twice, and tests of this.
use Rattle.std.specs.Prelude.{◌≡◌, ◌≢◌, ◌↔◌, ℕ, Bool, false, List, MatchBool, ⊤}
use Rattle.plist_base.specs.Bracketing.{bracketing, AreAlike}
use Rattle.plist_buffer.specs.EventTable.{plain_events}
use Rattle.plist_buffer.specs.Occurrences.{OccursAt}
use Rattle.plist_buffer.specs.declared.event_table.EventTable.{EventTable}
use Rattle.plist_base.specs.Trees.{Tree, Leaf, Array, Dictionary, Trees, NoTrees, TreeAnd, Members, NoMembers, MemberAnd}

-- no pair has the key
abbrev pub Lacks : (key : List ℕ) → Members → Type 0
Lacks key NoMembers = ⊤
Lacks key (MemberAnd other tree members) = (key ≢ other) × Lacks key members

-- no key occurs twice among the pairs
abbrev pub HasDistinctKeys : Members → Type 0
HasDistinctKeys NoMembers = ⊤
HasDistinctKeys (MemberAnd key tree members) = Lacks key members × HasDistinctKeys members

-- no dictionary of the tree contains a key twice
abbrev mutual
  pub HasKeysOnce : Tree → Type 0
  HasKeysOnce (Leaf scalar) = ⊤
  HasKeysOnce (Array items) = ItemsHaveKeysOnce items
  HasKeysOnce (Dictionary pairs) = HasDistinctKeys pairs × ValuesHaveKeysOnce pairs

  -- no dictionary in the items contains a key twice
  pub ItemsHaveKeysOnce : Trees → Type 0
  ItemsHaveKeysOnce NoTrees = ⊤
  ItemsHaveKeysOnce (TreeAnd tree trees) = HasKeysOnce tree × ItemsHaveKeysOnce trees

  -- no dictionary in the values contains a key twice
  pub ValuesHaveKeysOnce : Members → Type 0
  ValuesHaveKeysOnce NoMembers = ⊤
  ValuesHaveKeysOnce (MemberAnd key tree members) =
      HasKeysOnce tree × ValuesHaveKeysOnce members

-- `answer` says whether the dictionary that begins at an index contains a key twice
abbrev pub TestsRepeats : EventTable → (index : ℕ) → Bool → Type 0
TestsRepeats held index answer = (pairs : Members) → OccursAt (plain_events held)
    (Dictionary pairs) index
    → MatchBool answer (HasDistinctKeys pairs → ⊥) (HasDistinctKeys pairs)

-- `answer` says whether any dictionary of the tree with these events contains a key twice
abbrev pub TestsKeysOnce : EventTable → Bool → Type 0
TestsKeysOnce held answer = (tree : Tree) → AreAlike (plain_events held) (bracketing tree)
    → (answer ≡ false) ↔ HasKeysOnce tree
