-- No file of a tree has fewer objects than the tree has different subtrees.
use Rattle.std.proofs.Common.{◌≡◌, ◌≤◌, ℕ, List, [], length, map, take, Result, Ok, Err, refl, sym, ap, ◌∙◌, append-nil, add-zero}
use Rattle.std.specs.Set.{unique_keys}
use Rattle.std.proofs.lemmas.List.{length-map}
use Rattle.plist_base.specs.Faults.{Fault}
use Rattle.plist_base.specs.Trees.{Tree}
use Rattle.plist_base.specs.Bracketing.{bracketing}
use Rattle.plist_base.proofs.Paths.{path_none}
use Rattle.plist_base.specs.Container.{Head, head_of}
use Rattle.plist_base.specs.Unfolding.{table_of, unfolding_of, items_with, items_of_file}
use Rattle.plist_binwrite.proofs.Least.{no_fault, all_items}
use Rattle.plist_binwrite.proofs.Totals.{unique_distinct, pigeons}
use Rattle.plist_buffer.proofs.Uniques.{all_map, all_unique}
use Rattle.plist_buffer.specs.Occurrences.{positions}
use Rattle.plist_share.specs.SharedFiles.{tree_eq, subtrees, distinct_subtrees, IsLeastOfAll}
use Rattle.plist_share.proofs.Meaning.{Means, Numbered, one_tree, all_numbered}
use Rattle.plist_share.proofs.Parsing.{unfolding_parses}
use Rattle.plist_share.proofs.TreeEquality.{tree_tells}

least_with : (file : List ℕ) (t : Tree) (head : Result Head Fault) → head_of file ≡ head
    → items_with file head ≡ map Ok (bracketing t)
    → (head : Head) × (head_of file ≡ Ok head) × (distinct_subtrees t ≤ length head.places)
least_with file t (Err f) h p = no_fault f [] (bracketing t) p
least_with file t (Ok head) h p =
    let table = table_of (take head.trailer file) head.reference_width head.places in
    let size : length table ≡ length head.places = length-map head.places _ in
    let all = all_items (unfolding_of table (length head.places) [] head.trailer head.root)
    (bracketing t) p in
    let good = unfolding_parses table (length head.places) [] head.trailer
    (path_none (length table)) (add-zero (length head.places) ∙ sym size) in
    let means = ((good head.root).0 t [] []
    (append-nil _ ∙ all ∙ ap (map Ok) (sym (append-nil (bracketing t))))).0 in (
      head,
      h,
      rw (← size) (pigeons tree_eq tree_tells (length table) (Means table) (one_tree table)
          (unique_keys tree_eq (subtrees t))
          (all_unique (Numbered table) tree_eq (subtrees t)
          (all_map (Numbered table) (λ one. one.1) (positions t 0) (all_numbered table t 0 head.root means)))
          (unique_distinct tree_eq tree_tells (subtrees t))),
    )

-- no file with a tree's items has fewer objects than the tree has different subtrees
pub least : (tree : Tree) → IsLeastOfAll tree
unfolding items_of_file
least tree file p = least_with file tree (head_of file) refl p
