-- `Pairs` in recursive types: the type of the values may itself contain such pairs.
use Rattle.std.specs.Prelude.{◌≡◌, ℕ, List, [], ◌∷◌, map, length, string_bytes, String, zip, bytes_eq}
use Rattle.std.specs.List.{IsDistinct, IsDistinct-prop}
use Rattle.std.specs.Map.{values_of}
use mathlib.Core.Path.{refl, sym, ap, ◌∙◌}
use mathlib.Core.HLevel.{×_prop}
use mathlib.Core.Former.{Former, one_more, this, const, pair, list, via, children}
use native.Mathlib.Nat.{ℕ_set}
use native.Mathlib.Omega.{arith}
use lib.ListN.{length-map}
use base.Stored.{gcons, code_map, coded_ℕ, coded_list, coded×}
use denote.RattleType.{RattleType}
use denote.HoleLaws.{Alike}
use denote.HolePlaces.{Recodes, struct_places, laid}
use denote.Hole.Carrier.{listed}
use denote.Hole.Fix.{over}
use denote.Param.Weighed.{Weighed, most}
use denote.Model.Placed.{held, view_places_where}
use Rattle.std.specs.formers.vec.Vec as vec
use Rattle.std.specs.declared.alloc.Global.{Global}
use Rattle.std.specs.contracts.alloc.Global as heap
use Rattle.std.specs.contracts.impls.GlobalAllocator.TheImpl.{ghosts}
use Rattle.std.proofs.Common.{BuildHasherDefault, FoldHasher}
use Rattle.std_collections.specs.Layout.Former.{entry, on_value, entries_puts, values_listed}
use Rattle.indexmap.specs.IndexSet.{IndexSet}
use Rattle.plist_pairs.specs.declared.pairs.Pairs.TheInside.{Inside}
use Rattle.plist_pairs.specs.declared.pairs.Pairs.TheView.{view, invariant}
use Rattle.plist_pairs.specs.contracts.pairs.Pairs as C
use Rattle.plist_pairs.specs.contracts.pairs.Pairs.TheInside as I

-- pairs of a key and one of g's values
abbrev pub the_former : Former {0} → Former {0}
the_former g = list (entry g (List ℕ))

-- the weight of pairs, which is the greatest weight of a value
abbrev pub the_weighed : {g : Former {0}} → Weighed g → Weighed (the_former g)
the_weighed w = record {
  weight = λ X μ ps. most (w.weight X μ) (values_of ps);
  puts = λ X μ. entries_puts w (List ℕ) X μ;
}

-- no pairs, whose values are of an empty type
pub the_empty : List (List ℕ × ⊥)
the_empty = []

-- the values of the pairs
abbrev pub the_items : (X : Type 0) → List (List ℕ × X) → List X
the_items X ps = values_of ps

-- the values of the pairs are the former's children
pub the_items_listed : (X : Type 0) (ps : List (List ℕ × X))
    → listed _ (children (the_former this) X ps) ≡ the_items X ps
the_items_listed X ps = values_listed (List ℕ) X ps

-- the type of the set that stores the keys
abbrev Keys : Type 0
Keys = IndexSet (String Global) (BuildHasherDefault FoldHasher)

-- the former of both fields
abbrev fields : Former {0}
fields =
    via (pair (const Keys) (vec.the_former this Global)) Inside (λ X a. (a.keys, a.items))
    (λ X v. record { keys = v.0; items = v.1 }) (λ X a. refl) (λ X v. refl)

-- it is the same whether `h` is applied to the values before or after they are paired with keys
zip-map : {X Y : Type 0} (h : X → Y) (ks : List (List ℕ)) (vs : List X)
    → zip ks (map h vs) ≡ map (on_value h) (zip ks vs)
zip-map h [] vs = refl
zip-map h (k ∷ ks) [] = refl
zip-map h (k ∷ ks) (v ∷ vs) = ap (λ l. (k, h v) ∷ l) (zip-map h ks vs)

zip-held : (X : Type 0) (ks : List (List ℕ)) (vs : List X) → length vs ≡ length ks
    → held (the_former this) X (zip ks vs) ≡ held (list this) X vs
zip-held X [] [] e = refl
zip-held X [] (v ∷ vs) e = absurd (omega arith)
zip-held X (k ∷ ks) [] e = absurd (omega arith)
zip-held X (k ∷ ks) (v ∷ vs) e =
    λ i. (one_more (zip-held X ks vs (omega arith) i).0, (v, (zip-held X ks vs (omega arith) i).1))

-- there are as many values as keys, and each key occurs once
abbrev Sound : {X : Type 0} → Inside X → Type 0
Sound u =
    (length u.items.items ≡ length u.keys.keys) × IsDistinct bytes_eq (map string_bytes u.keys.keys)

-- `Sound` has at most one proof
Sound-prop : {X : Type 0} (u : Inside X) → IsProp (Sound u)
Sound-prop u = ×_prop (ℕ_set _ _) (IsDistinct-prop bytes_eq _)

module _ (R R' : RattleType) (h : R.Denot → R'.Denot) where
  pub the_places : Alike R R' h
      → Alike (C.the_row R) (C.the_row R') ((the_former this).map R.Denot R'.Denot h)
  the_places a = view_places_where fields (the_former this) view
      (λ X Y k u. zip-map k (map string_bytes u.keys.keys) u.items.items)
      (λ X. Sound) (λ X Y k u s. (sym (length-map u.items.items k) ∙ s.0, s.1))
      (λ X u s. zip-held X (map string_bytes u.keys.keys) u.items.items
      (s.0 ∙ sym (length-map u.keys.keys string_bytes)))
      R.Denot R'.Denot h (C.the_row R).coded (C.the_row R').coded
      (invariant R.Denot) (invariant R'.Denot) Sound-prop Sound-prop
      (λ u s. (length-map u.items.items h ∙ s.0, s.1))
      (λ u s. (sym (length-map u.items.items h) ∙ s.0, s.1)) (λ u s. s)
      (over (I.the_row R)) (over (I.the_row R'))
      (struct_places (I.the_type R) (I.the_type R') ((λ k. k), (vec.mapped h, tt)) _
      (λ d. refl) refl (
        (refl, (λ n. refl, λ n. refl)),
        (laid _ _ _ (vec.the_places heap.the_row ghosts R R' h a), tt),
      ))

  pub the_codes_placed : Recodes R R' h
      → Recodes (C.the_row R) (C.the_row R') ((the_former this).map R.Denot R'.Denot h)
  the_codes_placed e ps =
      sym (code_map (coded× (coded_list coded_ℕ) R.coded).code
      (coded× (coded_list coded_ℕ) R'.coded).code (on_value h)
      (λ p i. gcons ((coded_list coded_ℕ).code p.0) (sym (e p.1) i)) ps)
