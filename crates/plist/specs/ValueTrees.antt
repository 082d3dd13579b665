-- The tree of a value, and the pairs of a dictionary.
use Rattle.std.specs.Prelude.{ℕ, List, map, string_bytes}
use Rattle.plist_base.specs.declared.error.EventKind.{EventKind}
use Rattle.plist_base.specs.declared.error.EventKind.TheVariants as kind
use Rattle.plist_base.specs.Events.{kind_of_scalar}
use Rattle.plist_base.specs.Trees.{Tree, Leaf, Array, Trees, Members, trees_of, members_of}
use Rattle.plist_base.specs.Trees as tree
use Rattle.plist.specs.LastWins.{last_values}
use Rattle.plist.specs.declared.dictionary.Dictionary.{Dictionary, out-Dictionary, roll-Dictionary}
use Rattle.plist.specs.declared.value.Value.{Value, fold-Value}
use Rattle.plist.specs.declared.value.Value.TheOpen.{Dictionary-F, Value-F}

-- the tree of a value whose items are trees already, and whose pairs are members already
abbrev pub tree_step : Value-F Tree Members → Tree
tree_step (Value-F.Array items) = Array (trees_of items.items)
tree_step (Value-F.Dictionary members) = tree.Dictionary members
tree_step (Value-F.Boolean b) = Leaf (tree.Boolean b)
tree_step (Value-F.Data bytes) = Leaf (tree.Data bytes.items)
tree_step (Value-F.Date bytes) = Leaf (tree.Date bytes)
tree_step (Value-F.Real bits) = Leaf (tree.Real bits)
tree_step (Value-F.Integer n) = Leaf (tree.Integer n)
tree_step (Value-F.String text) = Leaf (tree.String (string_bytes text))
tree_step (Value-F.Uid n) = Leaf (tree.Uid n)

-- the members of a dictionary whose values are trees already; its keys are distinct, so its last
-- values are its pairs
abbrev pub members_step : Dictionary-F Tree Members → Members
members_step dictionary = members_of (last_values dictionary.pairs)

-- the tree of a value
abbrev pub tree_of : Value → Tree
tree_of = fold-Value Tree Members tree_step members_step

-- a dictionary's pairs, with each key as its bytes
abbrev pub pairs_of : Dictionary → List (List ℕ × Value)
pairs_of dictionary = (out-Dictionary dictionary).pairs

-- the dictionary of these pairs
abbrev pub dictionary_of : List (List ℕ × Value) → Dictionary
dictionary_of pairs = roll-Dictionary (record { pairs = pairs })

-- the trees of an array's items
abbrev pub item_trees : List Value → Trees
item_trees items = trees_of (map tree_of items)

-- a dictionary's pairs, with each value as its tree
abbrev pub tree_pairs : List (List ℕ × Value) → List (List ℕ × Tree)
tree_pairs pairs = map (λ p. (p.0, tree_of p.1)) pairs

-- the members of a dictionary with these pairs
abbrev pub pair_trees : List (List ℕ × Value) → Members
pair_trees pairs = members_of (last_values (tree_pairs pairs))

-- the kind of a tree's first event
abbrev pub kind_of_tree : Tree → EventKind
kind_of_tree (Leaf scalar) = kind_of_scalar scalar
kind_of_tree (Array items) = kind.StartArray
kind_of_tree (tree.Dictionary pairs) = kind.StartDictionary
