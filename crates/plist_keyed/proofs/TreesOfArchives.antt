-- Worked examples: trees of archives.
use Rattle.std.specs.Prelude.{◌≡◌, refl, [], ◌∷◌, Ok, Err, codes}
use Rattle.plist_base.specs.Trees as trees
use Rattle.plist_base.specs.Trees.{Tree, Leaf, Array, Dictionary, NoTrees, TreeAnd, NoMembers, MemberAnd}
use Rattle.plist_keyed.specs.Archives.{UidOutOfRange, RecursiveUid, resolved, resolved_tree}

-- the object of Uid 0 in most archives; a reference to it means that there is no object
abbrev null : Tree
null = Leaf (trees.String (codes "$null"))

-- an object without Uids
abbrev x : Tree
x = Leaf (trees.String (codes "x"))

-- a linked list of one name
a_name_and_nothing_next : resolved_tree (null ∷ Dictionary
    (MemberAnd (codes "name") (Leaf (trees.Uid 2))
    (MemberAnd (codes "next") (Leaf (trees.Uid 0)) NoMembers)) ∷ x ∷ []) 1
    ≡ Ok (Dictionary (MemberAnd (codes "name") x (MemberAnd (codes "next") null NoMembers)))
unfolding resolved
a_name_and_nothing_next = refl

-- an object may be named twice
named_twice : resolved_tree (null ∷ Array
    (TreeAnd (Leaf (trees.Uid 2)) (TreeAnd (Leaf (trees.Uid 2)) NoTrees)) ∷ x ∷ []) 1
    ≡ Ok (Array (TreeAnd x (TreeAnd x NoTrees)))
unfolding resolved
named_twice = refl

-- an object that is a Uid has the tree of the object that it names
a_uid_for_an_object : resolved_tree (null ∷ Leaf (trees.Uid 2) ∷ x ∷ []) 1 ≡ Ok x
unfolding resolved
a_uid_for_an_object = refl

-- cycles of one object and of two, and a cycle that is reached from outside
holds_itself : resolved_tree (null ∷ Array (TreeAnd (Leaf (trees.Uid 1)) NoTrees) ∷ []) 1
    ≡ Err (RecursiveUid 1)
unfolding resolved
holds_itself = refl

names_itself : resolved_tree (null ∷ Leaf (trees.Uid 1) ∷ []) 1 ≡ Err (RecursiveUid 1)
unfolding resolved
names_itself = refl

a_cycle_of_two : resolved_tree (Leaf (trees.Uid 1) ∷ Array
    (TreeAnd x (TreeAnd (Leaf (trees.Uid 2)) NoTrees)) ∷ Leaf (trees.Uid 1) ∷ []) 0
    ≡ Err (RecursiveUid 1)
unfolding resolved
a_cycle_of_two = refl

-- the first fault, depth first
the_first_fault : resolved_tree (null ∷ Array
    (TreeAnd (Leaf (trees.Uid 7)) (TreeAnd (Leaf (trees.Uid 1)) NoTrees)) ∷ []) 1
    ≡ Err (UidOutOfRange 7)
unfolding resolved
the_first_fault = refl

no_object : resolved_tree (null ∷ []) 1 ≡ Err (UidOutOfRange 1)
unfolding resolved
no_object = refl
