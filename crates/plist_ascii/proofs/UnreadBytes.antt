-- How looking at bytes and taking them changes the bytes that remain.
use Rattle.std.proofs.Common.{◌≡◌, ℕ, zero, suc, ◌+◌, ◌-◌, ◌^◌, ◌<◌, ◌≤◌, Bool, true, false, List, [], ◌∷◌, ◌++◌, length, take, drop, Option, None, Some, refl, ap, ◌∙◌, arith}
use Rattle.std.specs.Prelude.{is_some, IfSome}
use Rattle.std.specs.Io.KnownBytes.{Consumes}
use Rattle.std.proofs.lemmas.List.{length-take, length-take-le, drop-take, drop_at}
use Rattle.plist_ascii.specs.Unread.{unread_of}
use Rattle.plist_ascii.specs.inner.Inputs.{hand_of}

-- no bytes remain after the input has ended
pub ended_unread : (k : Option (List ℕ)) (e : Bool) (p : Option ℕ) (t : ℕ) (xs : List ℕ) → e ≡ true
    → unread_of k e p t ≡ Some xs → xs ≡ []
unfolding unread_of
ended_unread k e p t xs h g = let none = rw h at g in cc

-- the first `m` elements of `xs ++ ys` begin with the first `m` of `xs`
cut_front : (m : ℕ) (xs ys : List ℕ) → (zs : List ℕ) × (take m (xs ++ ys) ≡ take m xs ++ zs)
cut_front zero xs ys = ([], refl)
cut_front (suc m) [] ys = (take (suc m) ys, refl)
cut_front (suc m) (c ∷ xs) ys = let h = cut_front m xs ys in (h.0, ap (λ z. c ∷ z) h.1)

-- the bytes that remain begin with those at hand
pub hand_first : (k : Option (List ℕ)) (window : List ℕ) (e : Bool) (p : Option ℕ) (t : ℕ)
    (xs : List ℕ)
    → (p ≡ None → IfSome k (λ bytes. (rest : List ℕ) × (bytes ≡ window ++ rest)))
    → unread_of k e p t ≡ Some xs → (rest : List ℕ) × (xs ≡ hand_of window e p t ++ rest)
unfolding unread_of hand_of
hand_first k window true p t xs next g = (xs, refl)
hand_first None window false p t xs next g = cc
hand_first (Some a) window false None t xs next g =
    let h = next refl in
    let c = cut_front (2 ^ 64 - 1 - t) window h.0 in
    let all : take (2 ^ 64 - 1 - t) a ≡ take (2 ^ 64 - 1 - t) window ++ c.0 = rw h.1 c.1 in
    (c.0, cc)
hand_first (Some a) window false (Some b) t xs next g =
    let c = cut_front (2 ^ 64 - 1 - t) (b ∷ []) a in (c.0, cc)

-- the first `n` bytes at hand are taken from the buffered ones
pub window_taken : (k now : Option (List ℕ)) (window : List ℕ) (e : Bool) (p : Option ℕ) (t n : ℕ)
    (xs : List ℕ) → is_some p ≡ false → t < 2 ^ 64 → n ≤ length (hand_of window e p t)
    → Consumes k now (take n window) → unread_of k e p t ≡ Some xs
    → unread_of now e p (t + n) ≡ Some (drop n xs)
unfolding unread_of hand_of
window_taken k now window e (Some b) t n xs q l h c g = cc
window_taken k now window true None t n xs q l h c g = let none : n ≡ 0 = omega arith in rw none g
window_taken None now window false None t n xs q l h c g = cc
window_taken (Some a) None window false None t n xs q l h c g = absurd c
window_taken (Some a) (Some b) window false None t n xs q l h c g =
    let size = length-take (2 ^ 64 - 1 - t) window in
    let left : 2 ^ 64 - 1 - t ≡ n + (2 ^ 64 - 1 - (t + n)) = omega (arith, size) in
    let all : take (n + (2 ^ 64 - 1 - (t + n))) a ≡ xs = rw (← left) (cc) in
    let rest : drop n a ≡ b =
    ap (drop n) c ∙ drop_at (take n window) b n (length-take-le n window (omega (arith, size))) in
    cc (drop-take n (2 ^ 64 - 1 - (t + n)) a, ap (drop n) all)
