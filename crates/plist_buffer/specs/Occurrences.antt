-- Where trees occur among events.
use Rattle.std.specs.Prelude.{◌≡◌, ℕ, ◌+◌, List, [], ◌∷◌, ◌++◌, length, drop}
use Rattle.plist_base.specs.Bracketing.{lengthless}
use Rattle.plist_base.specs.Events.{PlainEvent}
use Rattle.plist_base.specs.Trees.{Tree, Leaf, Array, Dictionary, Trees, NoTrees, TreeAnd, Members, NoMembers, MemberAnd, String}

-- the number of a tree's events
abbrev pub event_count : Tree → ℕ
event_count t = length (lengthless t)

-- the events of t occur in es from index p on
pub record OccursAt (es : List PlainEvent) (t : Tree) (p : ℕ) : Type 0 where
  pub rest : List PlainEvent
  pub is : drop p es ≡ lengthless t ++ rest

-- a tree and all trees in it, each with the index of its first event; a key is a string
abbrev mutual
  pub positions : Tree → ℕ → List (ℕ × Tree)
  positions (Leaf scalar) p = (p, Leaf scalar) ∷ []
  positions (Array items) p = (p, Array items) ∷ positions_in_items items (p + 1)
  positions (Dictionary pairs) p = (p, Dictionary pairs) ∷ positions_in_pairs pairs (p + 1)

  -- the positions in items, the first of which begins at index p
  pub positions_in_items : Trees → ℕ → List (ℕ × Tree)
  positions_in_items NoTrees p = []
  positions_in_items (TreeAnd tree trees) p = positions tree p
      ++ positions_in_items trees (p + event_count tree)

  -- the positions of the keys of pairs, and those in their values; the first pair begins at index p
  pub positions_in_pairs : Members → ℕ → List (ℕ × Tree)
  positions_in_pairs NoMembers p = []
  positions_in_pairs (MemberAnd key tree pairs) p =
      (p, Leaf (String key)) ∷ (positions tree (p + 1) ++ positions_in_pairs pairs
      (p + 1 + event_count tree))
