-- The numbers of different subtrees of some trees, and the sizes of their shared files.
use Rattle.std.specs.Prelude.{◌≡◌, [], ◌∷◌, pos, refl}
use Rattle.std.specs.Str.{chars}
use Rattle.plist_base.specs.Trees.{Tree, Leaf, Array, Dictionary, String, Integer, trees_of, members_of}
use Rattle.plist_base.specs.Utf16.{units_of}
use Rattle.plist_binwrite.specs.Forms.{least_width, length_form}
use Rattle.plist_share.specs.SharedFiles.{distinct_subtrees, shared_file_size}

-- ---- [["x"], ["x"]]

-- the array ["x"]
x : Tree
x = Array (trees_of (Leaf (String (120 ∷ [])) ∷ []))

-- the subtrees are the whole, ["x"] and "x"
twice : distinct_subtrees (Array (trees_of (x ∷ x ∷ []))) ≡ 3
unfolding x
twice = refl

-- the file with these three objects has 50 bytes
twice_size : shared_file_size (Array (trees_of (x ∷ x ∷ []))) ≡ 50
unfolding x least_width length_form units_of chars
twice_size = refl

-- ---- each array contains the preceding one twice

-- the empty array
a0 : Tree
a0 = Array (trees_of [])

-- the empty array, twice
a1 : Tree
unfolding a0
a1 = Array (trees_of (a0 ∷ a0 ∷ []))

-- the array `a1`, twice
a2 : Tree
unfolding a1
a2 = Array (trees_of (a1 ∷ a1 ∷ []))

-- four arrays are nested, and each has one object
doubled : distinct_subtrees (Array (trees_of (a2 ∷ a2 ∷ []))) ≡ 4
unfolding a0 a1 a2
doubled = refl

-- the file with these four objects has 54 bytes
doubled_size : shared_file_size (Array (trees_of (a2 ∷ a2 ∷ []))) ≡ 54
unfolding a0 a1 a2 least_width length_form units_of chars
doubled_size = refl

-- ---- [{"a": 1, "b": 2}, {"b": 2, "a": 1}]

-- the first dictionary
ab : Tree
ab = Dictionary (members_of ((97 ∷ [], Leaf (Integer (pos 1))) ∷ (98 ∷ [], Leaf (Integer (pos 2)))
    ∷ []))

-- the second dictionary, whose pairs are in the other order
ba : Tree
ba = Dictionary (members_of ((98 ∷ [], Leaf (Integer (pos 2))) ∷ (97 ∷ [], Leaf (Integer (pos 1)))
    ∷ []))

-- the two dictionaries are different, and share their keys and values
reordered : distinct_subtrees (Array (trees_of (ab ∷ ba ∷ []))) ≡ 7
unfolding ab ba
reordered = refl
