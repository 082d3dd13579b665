-- The bytes of a source that were read but not taken.
use Rattle.std.proofs.Common.{◌≡◌, ℕ, suc, ◌+◌, ◌<◌, ◌≤◌, List, [], ◌∷◌, ◌++◌, length, take, drop, drop-cons, get_or, Option, None, Some, sym, ap, ◌∙◌, arith, append_assoc, refl}
use Rattle.std.specs.Option.{option_map}
use Rattle.std.specs.Io.KnownBytes.{Consumes, IsAtEnd, prepend_known}
use Rattle.std.proofs.lemmas.List.{drop-drop, drop_all, take-append-drop, length-take, length-take-le, get_or-take}
use Rattle.plist_ascii.specs.Unread.{GivesByte}

-- ---- one read

nothing_buffered : (from end : ℕ) (window : List ℕ) → end ≤ from → drop from (take end window) ≡ []
nothing_buffered from end window h = drop_all from (take _ _) (rw length-take (omega arith))

-- a read doesn't change which bytes remain; `before` and `after` return what can still be read
pub read_on : (k now : Option (List ℕ)) (before after : List ℕ → List ℕ) (n from end : ℕ)
    (window part : List ℕ) → now ≡ k → end ≤ from
    → Consumes (option_map before k) (option_map after now) (take n part)
    → prepend_known (take n part) (option_map after now)
    ≡ prepend_known (drop from (take end window)) (option_map before k)
read_on None now before after n from end window part e none h = rw e refl
read_on (Some xs) now before after n from end window part e none h =
    let first : before xs ≡ take n part ++ after xs = rw e at h in
    rw e (ap Some (sym first ∙ ap (λ z. z ++ before xs) (sym (nothing_buffered from end window none))))

nothing_more : (left : Option (List ℕ)) (hand : List ℕ) → hand ≡ [] → IsAtEnd left
    → IsAtEnd (prepend_known hand left)
nothing_more None hand z h = tt
nothing_more (Some xs) hand z h = ap (λ l. l ++ xs) z ∙ h

-- if a read returns nothing, nothing remains
pub read_none : (left : Option (List ℕ)) (n : ℕ) (part : List ℕ) → 0 < length part
    → n ≤ length part → (n ≡ 0 → 0 < length part → IsAtEnd left) → take n part ≡ []
    → IsAtEnd (prepend_known (take n part) left)
read_none left n part room within ends z =
    nothing_more left (take n part) z
    (ends (sym (length-take-le n part within) ∙ ap length z) room)

-- ---- what is buffered

-- the buffered bytes are the one at `from` and those after it
pub first_buffered : (from end : ℕ) (window : List ℕ) → from < end → end ≤ length window
    → drop from (take end window) ≡ get_or window from 0 ∷ drop (from + 1) (take end window)
first_buffered from end window l within =
    let len : length (take end window) ≡ end = length-take-le _ _ within in
    let next : from + 1 ≡ suc from = omega arith in
    rw next (drop-cons (take _ _) from 0 (omega (arith, len))
    ∙ ap (λ b. b ∷ drop (suc from) (take end window)) (get_or-take _ _ _ 0 l))

pub some_buffered : (from end : ℕ) (window : List ℕ) → from < end → end ≤ length window
    → drop from (take end window) ≡ [] → ⊥
some_buffered from end window l within e = let first = first_buffered from end window l within in cc

-- the first buffered byte is taken
pub one_there : (left old : Option (List ℕ)) (byte : ℕ) (hand rest : List ℕ)
    → prepend_known hand left ≡ old → hand ≡ byte ∷ rest
    → GivesByte old (Some byte) (prepend_known rest left)
one_there None old byte hand rest e h = rw (← e) tt
one_there (Some xs) old byte hand rest e h = rw (← e) (ap (λ z. z ++ xs) h)

-- several buffered bytes are taken
pub several_there : (left : Option (List ℕ)) (from n : ℕ) (all : List ℕ)
    → Consumes (prepend_known (drop from all) left) (prepend_known (drop (from + n) all) left)
    (take n (drop from all))
several_there None from n all = tt
several_there (Some xs) from n all =
    ap (λ z. z ++ xs)
    (sym (take-append-drop n _)
    ∙ ap (λ z. take n (drop from all) ++ z) (drop-drop n _ _))
    ∙ append_assoc (take n _) (drop (from + n) all) xs
