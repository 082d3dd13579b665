-- Which objects are open, and how many: the numbers of a path differ, and are below a count.
use Rattle.std.proofs.Common.{rules, ◌≡◌, ℕ, suc, ◌<◌, ◌≤◌, true, false, nat_eq, List, [], ◌∷◌, length, refl, arith}
use Rattle.std.specs.List.{list_any, AllByRecursion, IsDistinct}
use Rattle.std.proofs.lemmas.Map.Steps.{length-le_from_distinct_below}
use Rattle.std.proofs.lemmas.Bool.{or_parts}

-- each index is below the number of objects, and no object is open twice
pub record IsPath (count : ℕ) (path : List ℕ) : Type 0 where
  pub distinct : IsDistinct nat_eq path
  pub below : (number : ℕ) → list_any (nat_eq number) path ≡ true → number < count

pub none_equal : (i : ℕ) (xs : List ℕ) → list_any (nat_eq i) xs ≡ false
    → AllByRecursion (λ y. nat_eq i y ≡ false) xs
none_equal i [] h = tt
none_equal i (x ∷ xs) h =
    let k = or_parts _ _ h in (k.0, none_equal i xs k.1)

pub any_none : (i : ℕ) (xs : List ℕ) → AllByRecursion (λ y. nat_eq i y ≡ false) xs
    → list_any (nat_eq i) xs ≡ false
any_none i [] h = refl
any_none i (x ∷ xs) h = rw (h.0, any_none i xs h.1) refl

pub below_cons : (i n q : ℕ) (xs : List ℕ) → i < n
    → ((p : ℕ) → list_any (nat_eq p) xs ≡ true → p < n) → list_any (nat_eq q) (i ∷ xs) ≡ true
    → q < n
below_cons i n q xs h all any = search rules

-- at first no object is open
pub path_none : (count : ℕ) → IsPath count []
unfolding IsDistinct
path_none count = record { distinct = tt; below = λ q any. absurd (cc) }

-- one more object is opened
pub path_push : {count : ℕ} {path : List ℕ} (i : ℕ) → IsPath count path → i < count
    → list_any (nat_eq i) path ≡ false → IsPath count (i ∷ path)
unfolding IsDistinct
path_push {count} {path} i o h new = record {
  distinct = (none_equal i path new, o.distinct);
  below = λ q any. below_cons i count q path h o.below any;
}

-- no more objects are open than there are
pub path_fuel : {count : ℕ} {path : List ℕ} → IsPath count path → length path ≤ count
path_fuel {count} {path} o = length-le_from_distinct_below _ _ o.distinct o.below

-- if this object isn't open, fewer objects are open than there are
pub path_rises : {count : ℕ} {path : List ℕ} (i : ℕ) → IsPath count path → i < count
    → list_any (nat_eq i) path ≡ false → length path < count
path_rises {count} {path} i o h new =
    let k : suc (length path) ≤ count = path_fuel (path_push i o h new) in omega (arith, k)
