-- The tests decide whether two lists of bytes, reals or scalars are equal.
use Rattle.std.proofs.Common.{◌≡◌, ℕ, true, false, List, refl, ap}
use Rattle.std.proofs.Props.{props}
use Rattle.std.specs.Coded.{Coded, prop_coded}
use Rattle.std.specs.Str.{bytes_eq}
use Rattle.std.proofs.lemmas.Slice.Eq.{bytes_eq-Decides}
use Rattle.std.proofs.lemmas.Bool.Decides.{Decides-int_eq, Decides-eqb}
use Rattle.plist_base.specs.declared.real.RealBits.TheVariants.{Four, Eight}
use Rattle.plist_base.specs.Packing.{IsPackable, packable_prop}
use Rattle.plist_base.specs.Scalars.{scalar_eq}
use Rattle.plist_base.specs.Trees.{Scalar, Boolean, Data, Date, Integer, Real, String, Uid}

-- lists of bytes that pass the test are equal
pub bytes_is : (k l : List ℕ) → bytes_eq k l ≡ true → k ≡ l
bytes_is k l h = (bytes_eq-Decides k l).0 h

-- a list of bytes passes the test with itself
pub bytes_refl : (k : List ℕ) → bytes_eq k k ≡ true
bytes_refl k = (bytes_eq-Decides k k).1 refl

-- scalars that pass the test are equal
pub scalar_is : (x y : Scalar) → scalar_eq x y ≡ true → x ≡ y
scalar_is (Boolean true) (Boolean true) h = refl
scalar_is (Boolean false) (Boolean false) h = refl
scalar_is (Data a) (Data b) h = ap Data (bytes_is a b h)
scalar_is (Date a) (Date b) h = ap Date (bytes_is a b h)
scalar_is (Integer a) (Integer b) h = ap Integer ((Decides-int_eq a b).0 h)
scalar_is (Real (Four a)) (Real (Four b)) h = ap (λ l. Real (Four l)) (bytes_is a b h)
scalar_is (Real (Eight a)) (Real (Eight b)) h = ap (λ l. Real (Eight l)) (bytes_is a b h)
scalar_is (String a) (String b) h = ap String (bytes_is a b h)
scalar_is (Uid a) (Uid b) h = ap Uid ((Decides-eqb a b).0 h)
scalar_is x y h = absurd (cc)

-- a scalar passes the test with itself
pub scalar_refl : (x : Scalar) → scalar_eq x x ≡ true
scalar_refl (Boolean true) = refl
scalar_refl (Boolean false) = refl
scalar_refl (Data a) = bytes_refl a
scalar_refl (Date a) = bytes_refl a
scalar_refl (Integer a) = (Decides-int_eq a a).1 refl
scalar_refl (Real (Four a)) = bytes_refl a
scalar_refl (Real (Eight a)) = bytes_refl a
scalar_refl (String a) = bytes_refl a
scalar_refl (Uid a) = (Decides-eqb a a).1 refl

-- two proofs of an equation between scalars are equal
pub scalar_set : IsSet Scalar
scalar_set = hlevel props

-- the fact that a scalar can be packed has a code
pub packable_coded : (scalar : Scalar) → Coded (IsPackable scalar)
packable_coded scalar = prop_coded (packable_prop scalar)
