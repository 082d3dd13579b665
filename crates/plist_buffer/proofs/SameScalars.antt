-- The tests of scalars decide whether two of them are equal.
use Rattle.std.proofs.Common.{◌≡◌, ◌⊎◌, ℕ, ◌≤◌, Bool, true, false, List, ap, subst, arith, rules}
use Rattle.std.specs.Str.{bytes_eq}
use Rattle.std.proofs.lemmas.Slice.Eq.{bytes_eq-Decides}
use Rattle.plist_base.specs.Events.{ScalarEvent}
use Rattle.plist_base.proofs.ScalarTests.{scalar_is, scalar_refl}
use Rattle.plist_base.specs.Scalars.{scalar_eq}
use Rattle.plist_base.specs.Trees.{Scalar}
use Rattle.plist_base.specs.PackedScalars.{packed_eq, scalar_of_packed}
use Rattle.plist_base.specs.Packing.{IsPackable}
use Rattle.plist_base.proofs.PackedScalars.{is_packed_eq, packed_is}
use Rattle.plist_buffer.specs.StoredScalars.{scalar_of_long, event_of_small, event_of_long}
use Rattle.plist_buffer.specs.declared.long_scalar.LongScalar.{LongScalar}
use Rattle.plist_base.specs.declared.packed_scalar.PackedScalar.{PackedScalar}
use Rattle.plist_buffer.specs.inner.LongContents.{bytes_in_scalar}

-- a test's result, which says whether the two are equal
abbrev pub Answers : {K : Type 0} → Bool → K → K → Type 0
Answers r a b = ((r ≡ true) × (a ≡ b)) ⊎ ((r ≡ false) × (a ≡ b → ⊥))

abbrev pub Tells : {K : Type 0} → (K → K → Bool) → K → K → Type 0
Tells eq a b = Answers (eq a b) a b

pub bytes_tell : (a b : List ℕ) → Tells bytes_eq a b
bytes_tell a b = grind (arith, bytes_eq-Decides a b)

-- a test that decides whether parts are equal decides it for what is made of them
made : {A B : Type 0} {r : Bool} {a b : A} (make : A → B) → (make a ≡ make b → a ≡ b)
    → Answers r a b → Answers r (make a) (make b)
made make back h = grind arith

pub tells_made : {A B : Type 0} (eq : A → A → Bool) (test : B → B → Bool) (make : A → B) (a b : A)
    → test (make a) (make b) ≡ eq a b → (make a ≡ make b → a ≡ b) → Tells eq a b
    → Tells test (make a) (make b)
tells_made eq test make a b is back given = rw is (made make back given)

-- two tests that decide the same have the same result
pub tells_both : {A B : Type 0} (f : A → A → Bool) (g : B → B → Bool) (a b : A) (c d : B)
    → Tells f a b → Tells g c d → (a ≡ b → c ≡ d) → (c ≡ d → a ≡ b) → f a b ≡ g c d
tells_both f g a b c d e k to from = search rules

pub scalars_tell : (a b : Scalar) → Tells scalar_eq a b
scalars_tell a b = grind (arith, scalar_is a b, scalar_refl a)

-- ---- stored scalars

-- equality of long scalars
abbrev pub long_eq : LongScalar → LongScalar → Bool
long_eq a b = scalar_eq (scalar_of_long a) (scalar_of_long b)

pub small_same : (a b : PackedScalar) → packed_eq a b ≡ true → event_of_small a ≡ event_of_small b
small_same a b h = ap ScalarEvent (packed_is a b h)

pub same_small : (a b : PackedScalar) → event_of_small a ≡ event_of_small b → packed_eq a b ≡ true
same_small a b h =
    let e : scalar_of_packed a ≡ scalar_of_packed b = cc in
    is_packed_eq a b e

pub long_same : (a b : LongScalar) → long_eq a b ≡ true → event_of_long a ≡ event_of_long b
long_same a b h = ap ScalarEvent (scalar_is (scalar_of_long a) (scalar_of_long b) h)

pub same_long : (a b : LongScalar) → event_of_long a ≡ event_of_long b → long_eq a b ≡ true
same_long a b h =
    let e : scalar_of_long a ≡ scalar_of_long b = cc in
    subst (λ x. scalar_eq (scalar_of_long a) x ≡ true) e (scalar_refl (scalar_of_long a))

-- a packed string or packed data has at most eight bytes
packable_bytes : (scalar : Scalar) → IsPackable scalar → bytes_in_scalar scalar ≤ 8
packable_bytes scalar kept = search rules

-- no packed scalar is a long one
pub small_or_long : (a : PackedScalar) (b : LongScalar) → event_of_small a ≡ event_of_long b → ⊥
small_or_long a b h =
    let e : scalar_of_packed a ≡ scalar_of_long b = cc in
    omega (arith, packable_bytes (scalar_of_packed a) a.packed.packable, b.stored.long, ap bytes_in_scalar e)
