-- Worked examples: the bytes of some objects, and the numbers of objects and bytes of small files.
use Rattle.std.specs.Prelude.{◌≡◌, pos, negsuc, true, [], ◌∷◌, refl}
use Rattle.std.specs.Str.{chars, is_utf8}
use lib.Utf8.{encode}
use Rattle.plist_base.specs.Trees as trees
use Rattle.plist_base.specs.Trees.{Leaf, Array, Dictionary, trees_of, members_of}
use Rattle.plist_base.specs.Container.{head_of}
use Rattle.plist_base.specs.Object.{object_in}
use Rattle.plist_base.specs.Unfolding.{visits_of, visits}
use Rattle.plist_base.specs.Utf16.{units_of}
use Rattle.plist_binwrite.specs.Forms.{least_width, length_form, scalar_form}
use Rattle.plist_binwrite.specs.Sizes.{object_count, file_size}

-- ---- objects

-- 255 fits into one byte
one_byte : scalar_form (trees.Integer (pos 255)) ≡ 0x10 ∷ 0xff ∷ []
unfolding least_width
one_byte = refl

-- 256 doesn't fit into one byte
two_bytes : scalar_form (trees.Integer (pos 256)) ≡ 0x11 ∷ 1 ∷ 0 ∷ []
unfolding least_width
two_bytes = refl

-- a negative integer has eight bytes
minus_one : scalar_form (trees.Integer (negsuc 0))
    ≡ 0x13 ∷ 0xff ∷ 0xff ∷ 0xff ∷ 0xff ∷ 0xff ∷ 0xff ∷ 0xff ∷ 0xff ∷ []
minus_one = refl

-- an integer from 2^63 on has sixteen bytes
sixteen_bytes : scalar_form (trees.Integer (pos 18446744073709551615))
    ≡ 0x14 ∷ 0 ∷ 0 ∷ 0 ∷ 0 ∷ 0 ∷ 0 ∷ 0 ∷ 0 ∷ 0xff ∷ 0xff ∷ 0xff ∷ 0xff ∷ 0xff ∷ 0xff ∷ 0xff ∷ 0xff
    ∷ []
unfolding least_width
sixteen_bytes = refl

-- 65536 doesn't fit into two bytes
wide_uid : scalar_form (trees.Uid 65536) ≡ 0x83 ∷ 0 ∷ 1 ∷ 0 ∷ 0 ∷ []
unfolding least_width
wide_uid = refl

-- é isn't ASCII, so it is written in UTF-16
accent : scalar_form (trees.String (0xc3 ∷ 0xa9 ∷ [])) ≡ 0x61 ∷ 0 ∷ 0xe9 ∷ []
unfolding least_width length_form units_of chars
accent = refl

-- ---- files

-- no file that is written is smaller than that of a Boolean
truth_size : file_size (Leaf (trees.Boolean true)) ≡ 42
unfolding least_width length_form units_of chars
truth_size = refl

-- a string that occurs twice has one object
twice_count : object_count
    (Array (trees_of (Leaf (trees.String (97 ∷ [])) ∷ Leaf (trees.String (97 ∷ [])) ∷ []))) ≡ 2
twice_count = refl

-- the two references to that object have one byte each
twice_size : file_size
    (Array (trees_of (Leaf (trees.String (97 ∷ [])) ∷ Leaf (trees.String (97 ∷ [])) ∷ []))) ≡ 47
unfolding least_width length_form units_of chars
twice_size = refl

-- a key and an equal string share an object
key_count : object_count (Dictionary (members_of ((107 ∷ [], Leaf (trees.String (107 ∷ []))) ∷ [])))
    ≡ 2
key_count = refl

-- each array has an object of its own, even if it is equal to another
arrays_count : object_count (Array (trees_of (Array (trees_of []) ∷ Array (trees_of []) ∷ []))) ≡ 3
arrays_count = refl

-- the walk through the file of [["x"], "y"] enters objects 0 and 1
nested_visits : visits
    (98 ∷ 112 ∷ 108 ∷ 105 ∷ 115 ∷ 116 ∷ 48 ∷ 48 ∷ 0xa2 ∷ 1 ∷ 2 ∷ 0xa1 ∷ 3 ∷ 0x51 ∷ 0x78 ∷ 0x51
    ∷ 0x79 ∷ 8 ∷ 11 ∷ 15 ∷ 13 ∷ 0 ∷ 0 ∷ 0 ∷ 0 ∷ 0 ∷ 0 ∷ 1 ∷ 1 ∷ 0 ∷ 0 ∷ 0 ∷ 0 ∷ 0 ∷ 0 ∷ 0 ∷ 4 ∷ 0
    ∷ 0 ∷ 0 ∷ 0 ∷ 0 ∷ 0 ∷ 0 ∷ 0 ∷ 0 ∷ 0 ∷ 0 ∷ 0 ∷ 0 ∷ 0 ∷ 0 ∷ 17 ∷ []) ≡ 0 ∷ 1 ∷ []
unfolding head_of object_in visits_of visits is_utf8 chars encode
nested_visits = refl
