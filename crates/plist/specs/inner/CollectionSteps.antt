-- What changes the open collections of a value that is being built.
use Rattle.std.specs.Prelude.{◌≡◌, ℕ, List, [], ◌∷◌, ◌++◌, Option, Some, None, IsSome, MatchOption, String, string_bytes, ⊤}
use Rattle.std.specs.declared.alloc.Global.{Global}
use Rattle.plist_base.specs.Events.{ScalarEvent}
use Rattle.plist_buffer.specs.declared.expects.Expect.{Expect}
use Rattle.plist_buffer.specs.declared.expects.Expect.TheVariants.{OneValue}
use Rattle.plist_base.specs.Trees.{Tree, Array, trees_of, members_of}
use Rattle.plist_base.specs.Trees as tree
use Rattle.plist.specs.declared.dictionary.Dictionary.{Dictionary}
use Rattle.plist.specs.declared.open_collections.OpenDictionary.{OpenDictionary}
use Rattle.plist.specs.declared.value.Value.{Value}
use Rattle.plist.specs.Building.{OpenCollection, InArray, InDictionary, AfterKey, expected_within}
use Rattle.plist.specs.ValueTrees.{pairs_of, tree_of, tree_pairs}
use Rattle.plist.specs.LastWins.{last_values, with_pair}
use Rattle.plist.specs.OpenCollections.{Contents, Items, Pairs, open_dictionary, open_of, within}
use Rattle.plist.specs.inner.BuilderSteps.{and_event}

-- the arrays after an item is appended to the innermost one
abbrev pub with_item : List (List Value) → Value → List (List Value)
with_item [] item = []
with_item (items ∷ arrays) item = (items ++ item ∷ []) ∷ arrays

-- what is expected in the innermost collection, or a value if none is open
abbrev pub expected_in : List Contents → Expect
expected_in [] = OneValue
expected_in (contents ∷ outer) = expected_within (open_of contents)

-- the innermost dictionary is replaced
abbrev pub ChangesInnermost : (old new : List OpenDictionary) → Type 0
ChangesInnermost [] new = new ≡ []
ChangesInnermost (dictionary ∷ outer) new = (changed : OpenDictionary) × (new ≡ changed ∷ outer)

-- a pair of the last key and this value is added to the innermost dictionary
abbrev pub AddsPair : (old : List OpenDictionary) → Value → (new : List OpenDictionary) → Type 0
AddsPair [] value new = new ≡ []
AddsPair (dictionary ∷ outer) value new = MatchOption dictionary.key (new ≡ dictionary ∷ outer)
    (λ key. (changed : OpenDictionary) × (new ≡ changed ∷ outer)
    × (open_dictionary changed ≡ InDictionary (with_pair
    (last_values (tree_pairs (pairs_of dictionary.pairs))) (string_bytes key) (tree_of value))))

-- the innermost collection can't end: none is open, or a key has no value yet
abbrev pub CannotEnd : List Contents → Type 0
CannotEnd [] = ⊤
CannotEnd (Items items ∷ outer) = ⊥
CannotEnd (Pairs dictionary ∷ outer) = IsSome dictionary.key

-- the tree that an open collection becomes if it ends
abbrev pub ended_tree : OpenCollection → Tree
ended_tree (InArray items) = Array (trees_of items)
ended_tree (InDictionary pairs) = tree.Dictionary (members_of pairs)
ended_tree (AfterKey pairs key) = tree.Dictionary (members_of pairs)

-- the innermost collection was closed, and is this value
abbrev pub Closes : (old : List Contents) → Value → (new : List Contents) → Type 0
Closes [] value new = ⊥
Closes (contents ∷ outer) value new =
    (new ≡ outer) × (tree_of value ≡ ended_tree (open_of contents))
    × (CannotEnd (contents ∷ outer) → ⊥)

-- the key is added to the unfinished tree
abbrev pub TakesKey : (old : List Contents) → (key : List ℕ) → (new : List Contents) → Type 0
TakesKey old key new =
    and_event with_pair (within old) (ScalarEvent (tree.String key)) ≡ Some (within new)

-- the key is added to the innermost dictionary
abbrev pub AddsKey : (old : List OpenDictionary) → String Global → (new : List OpenDictionary)
    → Type 0
AddsKey [] key new = new ≡ []
AddsKey (dictionary ∷ outer) key new = new ≡ record dictionary { key = Some key } ∷ outer

-- no dictionary is open, or a key of the innermost one has no value yet
abbrev pub LacksValue : List OpenDictionary → Type 0
LacksValue [] = ⊤
LacksValue (dictionary ∷ outer) = IsSome dictionary.key

-- the innermost dictionary was removed, and these are its pairs; or nothing changed, since none is
-- open or a key has no value yet
abbrev pub EndsInnermost : (old : List OpenDictionary) → Option Dictionary
    → (new : List OpenDictionary) → Type 0
EndsInnermost old None new = (new ≡ old) × LacksValue old
EndsInnermost old (Some pairs) new = old ≡ record { pairs = pairs; key = None } ∷ new
