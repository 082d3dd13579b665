-- Why dropping a value ends.
use Rattle.std.proofs.Common.{◌≡◌, ℕ, suc, ◌<◌, ◌≤◌, ◌+◌, ◌-◌, ◌*◌, List, [], ◌∷◌, ◌++◌, length, inl, inr, ap, ◌∙◌, arith}
use Rattle.std.proofs.lemmas.Grind.{common_steps}
use Rattle.plist.specs.declared.value.Value.{Value}
use Rattle.plist.specs.inner.Weights.{weight, weights, others, IsLess}

-- A number that decreases as values are dropped: either there are fewer values, or there are as
-- many and fewer of them follow the first.
abbrev pub to_drop : List Value → ℕ
to_drop values = weights values * weights values + weights (others values)

pub weights-append : (xs ys : List Value) → weights (xs ++ ys) ≡ weights xs + weights ys
weights-append xs ys = grind (arith, common_steps)

pub weights-more : (x : Value) (xs : List Value) → weights (x ∷ xs) ≡ weight x + weights xs
weights-more x xs = grind (arith, common_steps)

others-le : (xs : List Value) → weights (others xs) ≤ weights xs
others-le [] = omega arith
others-le (x ∷ xs) = omega (arith, weights-more x xs)

-- the squares of two different numbers differ by more than the smaller number
square-less : (a k : ℕ) → a * a + a < (a + suc k) * (a + suc k)
square-less a k = omega arith

by-square : (a b o p : ℕ) → a < b → o ≤ a → a * a + o < b * b + p
by-square a b o p less le =
    let e : b ≡ a + suc (b - suc a) = omega arith in
    let s = square-less a (b - suc a) in
    let same = ap (λ n. n * n) e in
    omega arith

-- a value that contains no others is dropped
pub less-by-one : (xs ys : List Value) (v : Value) → weight v ≡ 1 → ys ≡ xs ++ v ∷ []
    → to_drop xs < to_drop ys
less-by-one xs ys v one is =
    let t = ap weights is ∙ weights-append xs _ in
    by-square _ _ _ _
    (omega (arith, weights-more v [])) (others-le xs)

others-append : (xs : List Value) (v : Value) → 0 < length xs
    → weights (others (xs ++ v ∷ [])) ≡ weights (others xs) + weight v
others-append [] v p = absurd (omega arith)
others-append (x ∷ xs) v p = omega (arith, weights-append xs (v ∷ []), weights-more v [])

-- a value is replaced by its contents
pub less-by-joining : (joined left below ys : List Value) (v : Value)
    → weight v ≡ 1 + weights below → ys ≡ left ++ v ∷ [] → IsLess joined left below
    → to_drop joined < to_drop ys
less-by-joining joined left below ys v w is (inl less) =
    let t =
    ap weights is ∙ weights-append left (v ∷ []) in
    by-square _ _ _ _
    (omega (arith, weights-more v [])) (others-le joined)
less-by-joining joined left below ys v w is (inr (some, same, fewer)) =
    let t : weights ys ≡ weights left + weights (v ∷ []) =
    ap weights is ∙ weights-append left (v ∷ []) in
    let o : weights (others ys) ≡ weights (others left) + weight v =
    ap (λ l. weights (others l)) is ∙ others-append left v some in
    let q : weights joined * weights joined ≡ weights ys * weights ys =
    ap (λ n. n * n) (omega (arith, t, w, same, weights-more v [])) in
    omega (arith, q, o, w, fewer)

pub ruleset drops = (less-by-one, less-by-joining)
