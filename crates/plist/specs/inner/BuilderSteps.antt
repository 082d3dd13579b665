-- What a builder contains after one more event, one collection at a time.
use Rattle.std.specs.Prelude.{ℕ, List, [], ◌∷◌, ◌++◌, Option, Some, None}
use Rattle.plist_base.specs.Events.{PlainEvent, StartArray, StartDictionary, EndCollection, ScalarEvent}
use Rattle.plist_base.specs.Trees.{Tree, Leaf, Array, Dictionary, String, trees_of, members_of}
use Rattle.plist.specs.LastWins.{TreePairs}
use Rattle.plist.specs.Building.{OpenCollection, InArray, InDictionary, AfterKey, Unfinished, NotBegun, Within, Complete}

-- `add` is how a pair is added to those before it
module _ (add : TreePairs → List ℕ → Tree → TreePairs) where
  -- the unfinished tree after a tree is completed inside these collections
  abbrev pub and_tree : Tree → (outer : List OpenCollection) → Unfinished
  and_tree tree [] = Complete tree
  and_tree tree (InArray items ∷ outer) = Within (InArray (items ++ tree ∷ [])) outer
  and_tree tree (InDictionary pairs ∷ outer) = Within (InDictionary pairs) outer
  and_tree tree (AfterKey pairs key ∷ outer) = Within (InDictionary (add pairs key tree)) outer

  -- the unfinished tree after an event where a value is expected, or `None` if it can't follow the
  -- preceding ones
  abbrev pub at_value : (outer : List OpenCollection) → PlainEvent → Option Unfinished
  at_value outer (StartArray length) = Some (Within (InArray []) outer)
  at_value outer (StartDictionary length) = Some (Within (InDictionary []) outer)
  at_value outer EndCollection = None
  at_value outer (ScalarEvent scalar) = Some (and_tree (Leaf scalar) outer)

  -- the unfinished tree after an event where an item or an array's end is expected
  abbrev pub in_array : (items : List Tree) → (outer : List OpenCollection) → PlainEvent
      → Option Unfinished
  in_array items outer EndCollection = Some (and_tree (Array (trees_of items)) outer)
  in_array items outer event = at_value (InArray items ∷ outer) event

  -- the unfinished tree after an event where a key or a dictionary's end is expected, or `None` if
  -- it can't follow the preceding ones
  abbrev pub in_dictionary : (pairs : TreePairs) → (outer : List OpenCollection) → PlainEvent
      → Option Unfinished
  in_dictionary pairs outer EndCollection = Some (and_tree (Dictionary (members_of pairs)) outer)
  in_dictionary pairs outer (ScalarEvent (String key)) = Some (Within (AfterKey pairs key) outer)
  in_dictionary pairs outer event = None

  -- the unfinished tree after the event, or `None` if it can't follow the preceding ones
  abbrev pub and_event : Unfinished → PlainEvent → Option Unfinished
  and_event NotBegun event = at_value [] event
  and_event (Within (InArray items) outer) event = in_array items outer event
  and_event (Within (InDictionary pairs) outer) event = in_dictionary pairs outer event
  and_event (Within (AfterKey pairs key) outer) event = at_value (AfterKey pairs key ∷ outer) event
  and_event (Complete tree) event = None
