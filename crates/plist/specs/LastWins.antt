-- A tree in which each key occurs once: in its first position, with its last value.
use Rattle.std.specs.Prelude.{◌≡◌, ℕ, List, [], ◌∷◌, ◌++◌, Option, None, Some, if◌then◌else◌, bytes_eq}
use Rattle.std.specs.List.{list_any}
use Rattle.std.specs.Map.{lookup, keys_of}
use Rattle.std.specs.Option.{option_or}
use Rattle.indexmap.specs.IndexMap.{insert_entry, insert_all}
use Rattle.plist_base.specs.Trees.{Tree, Leaf, Array, Dictionary, Trees, NoTrees, TreeAnd, Members, NoMembers, MemberAnd, trees_of, members_of}

-- pairs of a key and a tree
abbrev pub TreePairs : Type 0
TreePairs = List (List ℕ × Tree)

-- the pairs after this one is inserted: a key that is there keeps its index and takes the value,
-- and a new one is last
abbrev pub with_pair : TreePairs → (key : List ℕ) → Tree → TreePairs
with_pair rows key tree = insert_entry bytes_eq rows key tree

-- the pairs, each key in its first position with its last value
abbrev pub last_values : TreePairs → TreePairs
last_values rows = insert_all bytes_eq [] rows

-- the keys after this one is inserted: one that is there stays, and a new one is last
abbrev pub and_key : (keys : List (List ℕ)) → (key : List ℕ) → List (List ℕ)
and_key keys key = if list_any (bytes_eq key) keys then keys else keys ++ key ∷ []

-- the keys seen so far, and then the new ones among these keys, each once
abbrev pub first_keys_after : (seen keys : List (List ℕ)) → List (List ℕ)
first_keys_after seen [] = seen
first_keys_after seen (key ∷ keys) = first_keys_after (and_key seen key) keys

-- the keys, each once, in the order of their first occurrence
abbrev pub first_keys : List (List ℕ) → List (List ℕ)
first_keys keys = first_keys_after [] keys

-- the value of the last pair with the key
abbrev pub last_value : (key : List ℕ) → TreePairs → Option Tree
last_value key [] = None
last_value key (row ∷ rows) =
    option_or (last_value key rows) (if bytes_eq key row.0 then Some row.1 else None)

-- the result has the keys in the order of their first occurrence, each with its last value
abbrev pub AreLastValues : (rows result : TreePairs) → Type 0
AreLastValues rows result =
    (keys_of result ≡ first_keys (keys_of rows))
    × ((key : List ℕ) → lookup (bytes_eq key) result ≡ last_value key rows)

-- the tree in which each key has its first position and its last value
abbrev mutual
  pub last_wins : Tree → Tree
  last_wins (Leaf scalar) = Leaf scalar
  last_wins (Array items) = Array (trees_of (last_wins_in_items items))
  last_wins (Dictionary pairs) = Dictionary (members_of (last_values (last_wins_in_pairs pairs)))

  -- the items, with `last_wins` applied to each
  pub last_wins_in_items : Trees → List Tree
  last_wins_in_items NoTrees = []
  last_wins_in_items (TreeAnd tree trees) = last_wins tree ∷ last_wins_in_items trees

  -- the pairs, with `last_wins` applied to each value; a key may still occur more than once
  pub last_wins_in_pairs : Members → TreePairs
  last_wins_in_pairs NoMembers = []
  last_wins_in_pairs (MemberAnd key tree members) =
      (key, last_wins tree) ∷ last_wins_in_pairs members
