-- The open collections of a value that is being built, with the values that they contain so far.
use Rattle.std.specs.Prelude.{ℕ, ◌≤◌, List, [], ◌∷◌, drop, map, string_bytes, take, ⊤}
use Rattle.std.specs.Option.{option_map_or}
use Rattle.plist.specs.declared.open_collections.Level.{Level}
use Rattle.plist.specs.declared.open_collections.Level.TheVariants as level
use Rattle.plist.specs.declared.open_collections.OpenDictionary.{OpenDictionary}
use Rattle.plist.specs.declared.value.Value.{Value}
use Rattle.plist.specs.Building.{OpenCollection, InArray, InDictionary, AfterKey, Unfinished, NotBegun, Within}
use Rattle.plist.specs.ValueTrees.{pairs_of, tree_of, tree_pairs}
use Rattle.plist.specs.LastWins.{last_values}

-- the items of each open array, innermost first, which are stored in one list: those from its start
-- to the start of the array in it, or to the end
abbrev pub items_by_array : (starts : List ℕ) → (items : List Value) → List (List Value)
items_by_array [] items = []
items_by_array (start ∷ starts) items =
    drop start items ∷ items_by_array starts (take start items)

-- each array starts no later than the array in it, and the innermost one no later than at this
-- index; `starts` has the innermost one first
abbrev pub AreStarts : (starts : List ℕ) → (most : ℕ) → Type 0
AreStarts [] most = ⊤
AreStarts (start ∷ starts) most = (start ≤ most) × AreStarts starts start

-- an open array with its items so far, or an open dictionary
pub data Contents : Type 0 where
  Items : (items : List Value) → Contents
  Pairs : OpenDictionary → Contents

-- an open dictionary, with each value as its tree; its keys are distinct, so its last values are
-- its pairs
abbrev pub open_dictionary : OpenDictionary → OpenCollection
open_dictionary dictionary =
    let pairs = last_values (tree_pairs (pairs_of dictionary.pairs)) in
    option_map_or (λ key. AfterKey pairs (string_bytes key)) dictionary.key (InDictionary pairs)

-- an open collection, with each value as its tree
abbrev pub open_of : Contents → OpenCollection
open_of (Items items) = InArray (map tree_of items)
open_of (Pairs dictionary) = open_dictionary dictionary

-- the contents of each level, innermost first, given the open arrays and dictionaries
abbrev pub contents_by_level : List Level → List (List Value) → List OpenDictionary → List Contents
contents_by_level [] arrays dictionaries = []
contents_by_level (level.Array ∷ levels) [] dictionaries = []
contents_by_level (level.Array ∷ levels) (items ∷ arrays) dictionaries =
    Items items ∷ contents_by_level levels arrays dictionaries
contents_by_level (level.Dictionary ∷ levels) arrays [] = []
contents_by_level (level.Dictionary ∷ levels) arrays (dictionary ∷ dictionaries) =
    Pairs dictionary ∷ contents_by_level levels arrays dictionaries

-- each level has its open array or dictionary
abbrev pub HaveContents : List Level → List (List Value) → List OpenDictionary → Type 0
HaveContents [] arrays dictionaries = ⊤
HaveContents (level.Array ∷ levels) [] dictionaries = ⊥
HaveContents (level.Array ∷ levels) (items ∷ arrays) dictionaries =
    HaveContents levels arrays dictionaries
HaveContents (level.Dictionary ∷ levels) arrays [] = ⊥
HaveContents (level.Dictionary ∷ levels) arrays (dictionary ∷ dictionaries) =
    HaveContents levels arrays dictionaries

-- the unfinished tree that consists of these open collections, innermost first
abbrev pub within : List Contents → Unfinished
within [] = NotBegun
within (contents ∷ outer) = Within (open_of contents) (map open_of outer)
