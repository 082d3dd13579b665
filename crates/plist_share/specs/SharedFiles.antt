-- What the sharing writer writes for a tree: a file of it with one object for each different
-- subtree. The subtrees are the scalars, the keys as strings, and the collections. Two collections
-- that differ only in order or in repeated keys are different.
use Rattle.std.specs.Prelude.{◌≡◌, ℕ, ◌^◌, ◌<◌, ◌≤◌, Bool, true, false, ◌&&◌, List, length, map, Ok}
use Rattle.std.specs.List.{sum_by}
use Rattle.std.specs.Set.{distinct_count, unique_keys}
use Rattle.std.specs.Str.{bytes_eq}
use Rattle.plist_base.specs.Bracketing.{bracketing}
use Rattle.plist_base.specs.Scalars.{scalar_eq}
use Rattle.plist_base.specs.Trees.{Tree, Leaf, Array, Dictionary, Trees, NoTrees, TreeAnd, Members, NoMembers, MemberAnd}
use Rattle.plist_base.specs.Container.{Head, head_of}
use Rattle.plist_base.specs.Unfolding.{items_of_file}
use Rattle.plist_buffer.specs.Occurrences.{positions}
use Rattle.plist_binwrite.specs.Sizes.{HasObjects, object_size, size_with}
use Rattle.plist_binwrite.specs.SendingAs.{FileKind}
use Rattle.plist_binwrite.specs.Forms.{reference_width}
use Rattle.plist_binwrite.specs.Written.{IsWrittenAs}

-- equality of trees
abbrev mutual
  pub tree_eq : Tree → Tree → Bool
  tree_eq (Leaf x) (Leaf y) = scalar_eq x y
  tree_eq (Array ts) (Array us) = trees_eq ts us
  tree_eq (Dictionary ms) (Dictionary ns) = members_eq ms ns
  tree_eq t u = false

  -- equality of the items of arrays
  pub trees_eq : Trees → Trees → Bool
  trees_eq NoTrees NoTrees = true
  trees_eq (TreeAnd t ts) (TreeAnd u us) = tree_eq t u && trees_eq ts us
  trees_eq ts us = false

  -- equality of the pairs of dictionaries
  pub members_eq : Members → Members → Bool
  members_eq NoMembers NoMembers = true
  members_eq (MemberAnd k t ms) (MemberAnd l u ns) =
      bytes_eq k l && (tree_eq t u && members_eq ms ns)
  members_eq ms ns = false

-- the tree and all trees in it, with each key as a string, in the order of their events
abbrev pub subtrees : Tree → List Tree
subtrees tree = map (λ (one : ℕ × Tree). one.1) (positions tree 0)

-- the number of different subtrees of a tree
abbrev pub distinct_subtrees : Tree → ℕ
distinct_subtrees tree = distinct_count tree_eq (subtrees tree)

-- no file with these items has fewer objects than the tree has different subtrees
abbrev pub IsLeastOfAll : Tree → Type 0
IsLeastOfAll tree = (file : List ℕ) → items_of_file file ≡ map Ok (bracketing tree)
    → (head : Head) × (head_of file ≡ Ok head) × (distinct_subtrees tree ≤ length head.places)

-- the number of bytes of the whole file, which has one object for each different subtree
abbrev pub shared_file_size : Tree → ℕ
shared_file_size tree = let count = distinct_subtrees tree in
    let size = object_size (reference_width count) in
    size_with count (sum_by size (unique_keys tree_eq (subtrees tree)))

-- the bytes are such a file of the tree
pub record IsSharedFileOf (tree : Tree) (file : List ℕ) : Type 0 where
  pub written : IsWrittenAs tree file
  pub count : HasObjects file (distinct_subtrees tree)
  pub least : IsLeastOfAll tree
  pub size : length file ≡ shared_file_size tree
  pub fits : shared_file_size tree < 2 ^ 64

-- the files that `SharingWriter` writes
abbrev pub shared_files : FileKind
shared_files = record { IsFile = IsSharedFileOf; size = shared_file_size }
