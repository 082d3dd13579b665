-- A file with one object for each class has one for each different subtree.
use Rattle.std.proofs.Common.{◌≡◌, ◌↔◌, ℕ, ◌+◌, ◌^◌, ◌<◌, nat_eq, List, length, map, sym, ap, ◌∙◌, subst, sum_by}
use Rattle.std.proofs.lemmas.List.Folds.{fold-map}
use Rattle.std.specs.Set.{unique_keys}
use Rattle.std.proofs.lemmas.Bool.Decides.{eqb_tells}
use Rattle.std.proofs.lemmas.List.{length-map}
use Rattle.plist_base.specs.Events.{PlainEvent}
use Rattle.plist_base.specs.Trees.{Tree}
use Rattle.plist_binwrite.specs.Classes.{representatives, count_by, objects_by, size_by, IsFileBy}
use Rattle.plist_binwrite.specs.Sizes.{object_size, size_with}
use Rattle.plist_buffer.specs.Occurrences.{OccursAt, positions}
use Rattle.plist_binwrite.specs.Forms.{reference_width}
use Rattle.plist_buffer.proofs.TreePositions.{Stands, positions_stand}
use Rattle.plist_buffer.proofs.Uniques.{unique_seen}
use Rattle.plist_buffer.proofs.SameScalars.{tells_both}
use Rattle.plist_share.specs.SharedFiles.{tree_eq, subtrees, distinct_subtrees, IsSharedFileOf, shared_file_size}
use Rattle.plist_share.proofs.Least.{least}
use Rattle.plist_share.proofs.TreeEquality.{tree_tells}
use Rattle.plist_binwrite.proofs.ClassObjects.{same_class}

abbrev tree_positions : ℕ × Tree → Tree
tree_positions a = a.1

-- the number of bytes of the objects, one for each different subtree of the tree
abbrev shared_objects_size : (width : ℕ) → Tree → ℕ
shared_objects_size width tree = sum_by (object_size width) (unique_keys tree_eq (subtrees tree))

module _ (es : List PlainEvent) (class : ℕ → ℕ) (given : (t u : Tree) (p q : ℕ) → OccursAt es t p
    → OccursAt es u q → (class p ≡ class q) ↔ (t ≡ u)) where
  separate_alike : (a b : ℕ × Tree) → OccursAt es a.1 a.0 → OccursAt es b.1 b.0
      → nat_eq (class a.0) (class b.0) ≡ tree_eq a.1 b.1
  separate_alike a b s r =
      tells_both nat_eq tree_eq (class a.0) (class b.0) a.1 b.1 (eqb_tells _ _) (tree_tells _ _)
      (given a.1 b.1 a.0 b.0 s r).0 (given a.1 b.1 a.0 b.0 s r).1

  module _ (t : Tree) (s : OccursAt es t 0) where
    trees_kept : map tree_positions (representatives class t) ≡ unique_keys tree_eq (subtrees t)
    trees_kept =
        unique_seen (same_class class) tree_eq tree_positions (Stands es) separate_alike (positions t 0)
        (positions_stand es t 0 s)

    pub count_is : count_by class t ≡ distinct_subtrees t
    count_is = sym (length-map (representatives class t) tree_positions) ∙ ap length trees_kept

    objects_are : (width : ℕ) → objects_by class width t ≡ shared_objects_size width t
    objects_are width =
        sym (fold-map (λ a t. a + object_size width t) tree_positions 0 (representatives class t))
        ∙ ap (sum_by (object_size width)) trees_kept

    pub size_is : size_by class t ≡ shared_file_size t
    size_is =
        let objects : objects_by class (reference_width (count_by class t)) t
        ≡ shared_objects_size (reference_width (distinct_subtrees t)) t = objects_are
        (reference_width (count_by class t))
        ∙ ap (λ n. shared_objects_size (reference_width n) t) count_is in
        λ i. size_with (count_is i) (objects i)

    pub shared_file : (file : List ℕ) → IsFileBy class t file → IsSharedFileOf t file
    shared_file file f = record {
      written = f.written;
      count = λ head is. f.count head is ∙ count_is;
      least = least t;
      size = f.size ∙ size_is;
      fits = subst (λ n. n < 2 ^ 64) size_is f.fits;
    }
