-- Totals over distinct keys.
use Rattle.std.proofs.Common.{◌≡◌, ◌⊎◌, inl, inr, ℕ, zero, suc, ◌+◌, ◌<◌, ◌≤◌, Bool, true, false, cond, ◌||◌, eqb, List, [], ◌∷◌, length, map, refl, ap, sym, ◌∙◌, subst, arith}
use Rattle.std.specs.List.{AllByRecursion, IsDistinct, sum_by}
use Rattle.std.specs.Set.{is_member, unique_keys}
use Rattle.std.proofs.lemmas.Bool.{cases_Bool, or_parts, or_left, or_right, eq-eqb, ne_eqb}
use Rattle.std.proofs.lemmas.List.Elements.{All-from_recursion}
use Rattle.std.proofs.lemmas.List.Folds.{list_any_none}
use Rattle.std.proofs.lemmas.Bool.Decides.{eqb_tells}
use Rattle.std.proofs.lemmas.List.Recursion.{is_sum_by}
use Rattle.plist_binwrite.specs.inner.Numbering.{total_below}
use Rattle.plist_buffer.proofs.Uniques.{few_below}

-- the sum of the weights of a list's items
abbrev pub total : {K : Type 0} → (K → ℕ) → List K → ℕ
total weight [] = 0
total weight (x ∷ xs) = weight x + total weight xs

pub total_sum : {K : Type 0} (weight : K → ℕ) (xs : List K) → total weight xs ≡ sum_by weight xs
total_sum weight xs = is_sum_by (total weight) weight refl (λ x xs. refl) xs

pub total_below_same : (f g : ℕ → ℕ) (n : ℕ) → ((k : ℕ) → k < n → f k ≡ g k)
    → total_below f n ≡ total_below g n
total_below_same f g zero same = refl
total_below_same f g (suc n) same = omega (
  arith,
  same n (omega arith),
  total_below_same f g n (λ k h. same k (omega (arith, h))),
)

pub count_below : (n : ℕ) → total_below (λ x. 1) n ≡ n
count_below zero = refl
count_below (suc n) = omega (arith, count_below n)

-- one weight is greater
one_more : (f g : ℕ → ℕ) (x more n : ℕ) → x < n → g x ≡ more + f x
    → ((k : ℕ) → (k ≡ x → ⊥) → g k ≡ f k) → total_below g n ≡ more + total_below f n
one_more f g x more zero low here other = absurd (omega (arith, low))
one_more f g x more (suc n) low here other = elim (eqb_tells n x) [
  | inl s ↦
      let at : g n ≡ more + f n = rw s.1 here in
      omega (arith, at, total_below_same g f n (λ k h. other k (λ e. omega (arith, e, h, s.1))))
  | inr d ↦ omega (arith, other n d.1, one_more f g x more n (omega (arith, low, d.1)) here other)
]

module _ (w : ℕ → ℕ) (n : ℕ) where
  -- the total of distinct numbers below a count is that of the numbers below it which are among them
  total_members : (xs : List ℕ) → IsDistinct eqb xs
      → ((q : ℕ) → is_member eqb xs q ≡ true → q < n)
      → total w xs ≡ total_below (λ k. cond (is_member eqb xs k) (w k) 0) n
  unfolding IsDistinct
  total_members [] d low = sym (none n)
    where
      none : (n : ℕ) → total_below (λ k. 0) n ≡ 0
      none zero = refl
      none (suc n) = omega (arith, none n)
  total_members (x ∷ xs) d low =
      let absent = list_any_none (eqb x) xs (All-from_recursion (λ y. eqb x y ≡ false) xs d.0) in
      ap (λ k. w x + k) (total_members xs d.1 (λ q h. low q (or_right _ _ h)))
      ∙ sym (one_more _ _ x (w x) n (low x (or_left _ _ (eq-eqb x x refl)))
      (rw (eq-eqb x x refl, absent) (omega arith)) (λ k other. rw (ne_eqb k x other) refl))

  -- distinct numbers that are exactly those below a count have the total of the numbers below it
  pub total_all : (xs : List ℕ) → IsDistinct eqb xs
      → ((q : ℕ) → is_member eqb xs q ≡ true → q < n)
      → ((q : ℕ) → q < n → is_member eqb xs q ≡ true) → total w xs ≡ total_below w n
  total_all xs d low all =
      total_members xs d low ∙ total_below_same _ w n (λ k h. rw (all k h) refl)

-- `eq` decides whether two keys are equal
module _ {K : Type 0} (eq : K → K → Bool) (tells : (a b : K)
    → ((eq a b ≡ true) × (a ≡ b)) ⊎ ((eq a b ≡ false) × (a ≡ b → ⊥))) where
  pub unique_member : (xs : List K) (q : K) → is_member eq (unique_keys eq xs) q ≡ is_member eq xs q
  unique_member [] q = refl
  unique_member (x ∷ xs) q = elim (cases_Bool (is_member eq xs x)) [
    | inl t ↦ rw t (unique_member xs q ∙ elim (tells q x) [ inl e ↦ cc | inr d ↦ cc ])
    | inr f ↦ rw f (ap (λ b. eq q x || b) (unique_member xs q))
  ]

  all_apart : (x : K) (ys : List K) → is_member eq ys x ≡ false
      → AllByRecursion (λ y. eq x y ≡ false) ys
  all_apart x [] h = tt
  all_apart x (y ∷ ys) h =
      let k = or_parts _ _ h in (k.0, all_apart x ys k.1)

  pub unique_distinct : (xs : List K) → IsDistinct eq (unique_keys eq xs)
  unfolding IsDistinct
  unique_distinct [] = tt
  unique_distinct (x ∷ xs) = elim (cases_Bool (is_member eq xs x)) [
    | inl t ↦ rw t (unique_distinct xs)
    | inr f ↦ rw f (all_apart x _ (unique_member xs x ∙ f), unique_distinct xs)
  ]

  -- the keys have numbers below a count, and no two have the same number
  module _ (count : ℕ) (At : K → ℕ → Type 0)
      (one : (a b : K) (n : ℕ) → At a n → At b n → a ≡ b) where
    record CompactNumbers (xs : List K) : Type 0 where
      numbers : List ℕ
      long : length numbers ≡ length xs
      below : AllByRecursion (λ n. n < count) numbers
      distinct : IsDistinct eqb numbers
      apart : (y : K) (n : ℕ) → At y n → AllByRecursion (λ x. eq y x ≡ false) xs
          → AllByRecursion (λ m. eqb n m ≡ false) numbers

    numbered : (xs : List K) → AllByRecursion (λ x. (n : ℕ) × (n < count) × At x n) xs
        → IsDistinct eq xs → CompactNumbers xs
    unfolding IsDistinct
    numbered [] a d =
        record { numbers = []; long = refl; below = tt; distinct = tt; apart = λ y n h e. tt }
    numbered (x ∷ xs) (here, a) d =
        let more = numbered xs a d.1 in
        record {
          numbers = here.0 ∷ more.numbers;
          long = ap suc more.long;
          below = (here.1, more.below);
          distinct = (more.apart x here.0 here.2 d.0, more.distinct);
          apart = λ y n h e. (
            elim (tells y x) [
              | inl t ↦ cc (t.0, e.0)
              | inr f ↦ ne_eqb n here.0 (λ k. f.1 (one y x n h (subst (At x) (sym k) here.2)))
            ],
            more.apart y n h e.1,
          );
        }

    -- there are at most as many keys as the count
    pub pigeons : (xs : List K) → AllByRecursion (λ x. (n : ℕ) × (n < count) × At x n) xs
        → IsDistinct eq xs → length xs ≤ count
    pigeons xs a d =
        let r = numbered xs a d in
        omega (arith, few_below _ _ r.below r.distinct)

-- ---- lists with the same total

-- a total of the images of items
pub total_map : {A B : Type 0} (f : A → B) (w : B → ℕ) (v : A → ℕ) (xs : List A)
    → AllByRecursion (λ a. w (f a) ≡ v a) xs → total w (map f xs) ≡ total v xs
total_map f w v [] a = refl
total_map f w v (x ∷ xs) a = λ i. a.0 i + total_map f w v xs a.1 i

pub total_one : {A : Type 0} (xs : List A) → total (λ x. 1) xs ≡ length xs
total_one [] = refl
total_one (x ∷ xs) = omega (arith, total_one xs)
