-- The content of a property list if it is of one kind, and `None` if it is of another one.
use Rattle.std.specs.Prelude.{ℕ, ℤ, Bool, List, Option, Some, None}
use Rattle.plist_base.specs.declared.real.RealBits.{RealBits}
use Rattle.plist_base.specs.Trees.{Tree, Leaf, Array, Dictionary, Trees, Members, Boolean, Data, Date, Integer, Real, String, Uid}

-- the items of an array
abbrev pub array_in : Tree → Option Trees
array_in (Array items) = Some items
array_in tree = None

-- the pairs of a dictionary
abbrev pub dictionary_in : Tree → Option Members
dictionary_in (Dictionary members) = Some members
dictionary_in tree = None

-- a Boolean
abbrev pub boolean_in : Tree → Option Bool
boolean_in (Leaf (Boolean flag)) = Some flag
boolean_in tree = None

-- the bytes of data
abbrev pub data_in : Tree → Option (List ℕ)
data_in (Leaf (Data bytes)) = Some bytes
data_in tree = None

-- the eight bytes of a date
abbrev pub date_in : Tree → Option (List ℕ)
date_in (Leaf (Date bytes)) = Some bytes
date_in tree = None

-- the bytes of a real
abbrev pub real_in : Tree → Option RealBits
real_in (Leaf (Real bits)) = Some bits
real_in tree = None

-- an integer
abbrev pub integer_in : Tree → Option ℤ
integer_in (Leaf (Integer number)) = Some number
integer_in tree = None

-- the bytes of a string
abbrev pub text_in : Tree → Option (List ℕ)
text_in (Leaf (String bytes)) = Some bytes
text_in tree = None

-- the number of a Uid
abbrev pub uid_in : Tree → Option ℕ
uid_in (Leaf (Uid number)) = Some number
uid_in tree = None
