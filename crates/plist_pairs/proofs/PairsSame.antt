-- Equality of pairs is an equivalence if equality of their values is.
use Rattle.std.proofs.Common.{ℕ, Bool, List}
use Rattle.std.specs.Str.{bytes_eq}
use Rattle.std.specs.Cmp.{IsEquivalence, equiv, partial_equiv_from_equiv}
use Rattle.std.specs.Cmp.Lexicographic.{nat_list_eq_equiv}
use Rattle.std_collections.specs.HashMap.Eq.{hash_map_eq_symm, hash_map_eq_trans, hash_map_eq_refl}
use Rattle.std_collections.specs.Layout.HashMap.{HashMap, hash_map}
use Rattle.plist_pairs.specs.Bulk.{Rows}
use Rattle.plist_pairs.specs.TreeEquality.{same_pairs}

-- the pairs as the model of a hash map
abbrev pub as_map : {V : Type 0} → Rows V → HashMap (List ℕ) V (Unit {0})
as_map ps = hash_map ps tt 0

-- `same_pairs` is an equivalence if equality of values is
pub same_pairs_equiv : {V : Type 0} {E : V → V → Bool} → IsEquivalence E
    → IsEquivalence (same_pairs E)
same_pairs_equiv {E = E} laws =
    equiv (record {
      symm = λ ps qs. hash_map_eq_symm bytes_eq E laws.symm (as_map ps) (as_map qs);
      trans =
          λ ps qs rs. hash_map_eq_trans bytes_eq E nat_list_eq_equiv
          (partial_equiv_from_equiv laws).trans (as_map ps) (as_map qs) (as_map rs);
    }) (λ ps. hash_map_eq_refl bytes_eq E laws.refl (as_map ps))
