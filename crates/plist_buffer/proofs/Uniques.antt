-- Lists without their repeated items, and what mapping a function over them does; and facts about
-- all items of a list.
use Rattle.std.proofs.Common.{◌≡◌, ℕ, ◌<◌, ◌≤◌, Bool, true, cond, ◌||◌, eqb, List, [], ◌∷◌, ◌++◌, length, map, refl, ap, rules, arith}
use Rattle.std.specs.List.{list_any, AllByRecursion, IsDistinct}
use Rattle.std.specs.Set.{is_member, unique_keys}
use Rattle.std.proofs.lemmas.Bool.Decides.{eqb_tells}
use Rattle.std.proofs.lemmas.Bool.{eq-eqb, or_right}
use Rattle.std.proofs.lemmas.Map.Steps.{length-le_from_distinct_below}

-- ---- along a list

module _ {A : Type 0} (P : A → Type 0) where
  pub all_both : (a b : List A) → AllByRecursion P a → AllByRecursion P b
      → AllByRecursion P (a ++ b)
  all_both [] b p q = q
  all_both (x ∷ a) b p q = (p.0, all_both a b p.1 q)

  pub all_left : (a b : List A) → AllByRecursion P (a ++ b) → AllByRecursion P a
  all_left [] b p = tt
  all_left (x ∷ a) b p = (p.0, all_left a b p.1)

  pub all_right : (a b : List A) → AllByRecursion P (a ++ b) → AllByRecursion P b
  all_right [] b p = p
  all_right (x ∷ a) b p = all_right a b p.1

  pub all_from : (R : A → Type 0) → ((x : A) → R x → P x) → (xs : List A) → AllByRecursion R xs
      → AllByRecursion P xs
  all_from R h [] a = tt
  all_from R h (x ∷ xs) a = (h x a.0, all_from R h xs a.1)

  pub all_map : {B : Type 0} (f : B → A) (xs : List B) → AllByRecursion (λ b. P (f b)) xs
      → AllByRecursion P (map f xs)
  all_map f [] a = tt
  all_map f (x ∷ xs) a = (a.0, all_map f xs a.1)

  all_kept : (b : Bool) (x : A) (xs : List A) → P x → AllByRecursion P xs
      → AllByRecursion P (cond b xs (x ∷ xs))
  all_kept b x xs p a = search rules

  -- what is true of all items is true of those that are kept
  pub all_unique : (eq : A → A → Bool) (xs : List A) → AllByRecursion P xs
      → AllByRecursion P (unique_keys eq xs)
  all_unique eq [] a = tt
  all_unique eq (x ∷ xs) a =
      all_kept _ x _ a.0 (all_unique eq xs a.1)

-- ---- numbers in a list

-- what is true of all numbers of a list is true of one in it
pub any_has : (P : ℕ → Type 0) (xs : List ℕ) (q : ℕ) → AllByRecursion P xs
    → list_any (eqb q) xs ≡ true → P q
any_has P [] q a h = cc
any_has P (x ∷ xs) q a h = grind (arith, eqb_tells q x, a.0, any_has P xs q a.1)

-- a list of different numbers below a count is no longer than the count
pub few_below : (count : ℕ) (xs : List ℕ) → AllByRecursion (λ x. x < count) xs → IsDistinct eqb xs
    → length xs ≤ count
few_below count xs a d =
    length-le_from_distinct_below xs _ d (λ q. any_has (λ x. x < count) xs q a)

module _ {A : Type 0} (f : A → ℕ) where
  self_later : (n : ℕ) (ns : List ℕ) (xs : List A)
      → AllByRecursion (λ a. is_member eqb ns (f a) ≡ true) xs
      → AllByRecursion (λ a. is_member eqb (n ∷ ns) (f a) ≡ true) xs
  self_later n ns [] a = tt
  self_later n ns (x ∷ xs) a =
      (or_right _ _ a.0, self_later n ns xs a.1)

  -- the image of each item is among the images
  pub members_self : (xs : List A) → AllByRecursion (λ a. is_member eqb (map f xs) (f a) ≡ true) xs
  members_self [] = tt
  members_self (x ∷ xs) = (
    ap (λ b. b || is_member eqb (map f xs) (f x)) (eq-eqb (f x) (f x) refl),
    self_later (f x) (map f xs) xs (members_self xs),
  )

  pub member_has : (P : ℕ → Type 0) (xs : List A) (q : ℕ) → AllByRecursion (λ a. P (f a)) xs
      → is_member eqb (map f xs) q ≡ true → P q
  member_has P xs q a h = any_has P _ q (all_map P f xs a) h

-- ---- one of each kind

module _ {A B : Type 0} (eqa : A → A → Bool) (eqb : B → B → Bool) (f : A → B) (P : A → Type 0)
    (same : (a b : A) → P a → P b → eqa a b ≡ eqb (f a) (f b)) where
  member_seen : (xs : List A) (x : A) → P x → AllByRecursion P xs
      → is_member eqa xs x ≡ is_member eqb (map f xs) (f x)
  member_seen [] x p a = refl
  member_seen (y ∷ xs) x p a = λ i. same x y p a.0 i || member_seen xs x p a.1 i

  seen_cond : (b c : Bool) (us : List A) (x : A) (vs : List B) → b ≡ c → map f us ≡ vs
      → map f (cond b us (x ∷ us)) ≡ cond c vs (f x ∷ vs)
  seen_cond b c us x vs e h = search rules

  -- two tests that agree keep the same items
  pub unique_seen : (xs : List A) → AllByRecursion P xs
      → map f (unique_keys eqa xs) ≡ unique_keys eqb (map f xs)
  unique_seen [] a = refl
  unique_seen (x ∷ xs) a =
      seen_cond _ _ _ x _ (member_seen xs x a.0 a.1) (unique_seen xs a.1)
