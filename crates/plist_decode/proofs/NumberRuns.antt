-- Numbers that lie one after the other.
use Rattle.std.proofs.Common.{◌≡◌, ℕ, suc, ◌+◌, ◌-◌, ◌*◌, ◌/◌, ◌<◌, ◌≤◌, List, [], ◌∷◌, ◌++◌, length, take, drop, map, ap, sym, ◌∙◌, arith, zero-add, Option, IfSome}
use Rattle.std.proofs.Math.Nat.{add-mul, mul-le-mul_right, mul-div_cancel}
use Rattle.std.specs.List.{range_with_len}
use Rattle.std.proofs.lemmas.List.{drop-take, take-take, drop-drop, length-append, length-take-le, length-drop}
use Rattle.std.proofs.lemmas.List.FromFn.{fill_by_all, get_or-map-range_with_len, length-map-range_with_len, map-range_with_len_more}
use Rattle.plist_base.specs.Sources.{LiesAt}
use Rattle.plist_base.specs.Container.{number_of, number_at, numbers_spelled}
use Rattle.std.proofs.lemmas.Option.{IfSome_then}
use Rattle.plist_decode.proofs.UnknownBytes.{IfSome-both}
use Rattle.plist_decode.specs.Reading.{AreFirstNumbers}

-- a slice within the front of a list is a slice of the list
pub take-drop-take : (a k m : ℕ) (xs : List ℕ) → a + k ≤ m
    → take k (drop a (take m xs)) ≡ take k (drop a xs)
take-drop-take a k m xs h =
    let e : m ≡ a + (m - a) = omega arith in
    let le : k ≤ m - a = omega arith in
    cc (drop-take a (m - a) xs, take-take k (m - a) (drop a xs) le)

window : (xs : List ℕ) (p w n k : ℕ) → k < n
    → take w (drop (k * w) (take (n * w) (drop p xs))) ≡ take w (drop (p + k * w) xs)
window xs p w n k h =
    let le = mul-le-mul_right w (let s : suc k ≤ n = omega arith in s) in
    let e : suc k * w ≡ k * w + w = omega arith in
    let fits : k * w + w ≤ n * w = omega arith in
    cc (take-drop-take (k * w) w (n * w) (drop p xs) fits, drop-drop (k * w) p xs)

-- the numbers that are read one by one are those that the bytes encode
pub numbers_of-reads : (xs : List ℕ) (p w n : ℕ) → 0 < w → p + n * w ≤ length xs
    → map (λ k. number_at xs (p + k * w) w) (range_with_len 0 n)
    ≡ numbers_spelled w (take (n * w) (drop p xs))
numbers_of-reads xs p w n pos fits =
    let rest = length-drop p xs in
    let len = length-take-le _ _ (omega arith) in
    let count = ap (λ l. l / w) len
    ∙ mul-div_cancel n pos in
    let one = λ (k : ℕ) (h : k < n). get_or-map-range_with_len (λ i. number_at xs _ w) 0 n
    k k 0 h (zero-add k) ∙ ap number_of (sym (window xs p w n k h)) in
    fill_by_all (λ i. number_at _ (i * w) w)
    _ n 0
    (length-map-range_with_len (λ i. number_at xs _ w) 0 n) one
    ∙ ap (λ c. map (λ i. number_at (take (n * w) (drop p xs)) (i * w) w) (range_with_len 0 c))
    (sym count)

-- one more number was read
pub numbers_more : (known : Option (List ℕ)) (numbers now : List ℕ) (p w x : ℕ)
    → now ≡ numbers ++ x ∷ []
    → IfSome known (λ bytes. x ≡ number_at bytes (p + length numbers * w) w)
    → AreFirstNumbers known p w numbers → AreFirstNumbers known p w now
numbers_more known numbers now p w x is next so_far =
    IfSome-both known so_far next (λ bytes so_far next.
    let f = λ (k : ℕ). number_at bytes (p + k * w) w in
    let j = length numbers in
    let n : length now ≡ j + 1 = ap length is ∙ length-append numbers (x ∷ []) in
    is ∙ ap (λ ys. ys ++ x ∷ []) so_far
    ∙ ap (λ y. map f (range_with_len 0 j) ++ y ∷ []) next
    ∙ sym (map-range_with_len_more f 0 j j (zero-add j))
    ∙ ap (λ k. map f (range_with_len 0 k)) (sym n))

-- once all numbers are read, they are those that the bytes encode
pub numbers_whole : (known : Option (List ℕ)) (xs : List ℕ) (p w i n : ℕ) → 0 < w → i ≡ n
    → IfSome known (λ bytes. xs ≡ map (λ k. number_at bytes (p + k * w) w) (range_with_len 0 i))
    → IfSome known (λ bytes. p + n * w ≤ length bytes
    → xs ≡ numbers_spelled w (take (n * w) (drop p bytes)))
numbers_whole known xs p w i n pos end all =
    let all' = rw end at all in
    IfSome_then known all' (λ bytes all fits. all ∙ numbers_of-reads _ p w n pos fits)

-- the bytes of a number end no later than those of all numbers
pub number_within : (w i n : ℕ) → i < n → i * w + w ≤ n * w
number_within w i n h =
    let le : suc i * w ≤ n * w = mul-le-mul_right w (let s : suc i ≤ n = omega arith in s) in
    let e : suc i * w ≡ i * w + w = omega arith in
    omega arith

-- the next number was decoded from the buffered bytes
pub numbers_at_hand : (known : Option (List ℕ)) (seen numbers : List ℕ) (p w read i x : ℕ)
    → i * w + w ≤ length seen → length numbers ≡ read + i
    → x ≡ number_of (take w (drop (i * w) seen))
    → IfSome known (λ bytes. LiesAt bytes (p + read * w) seen)
    → IfSome known (λ bytes. x ≡ number_at bytes (p + length numbers * w) w)
numbers_at_hand known seen numbers p w read i x within len number lies =
    IfSome_then known lies (λ bytes lies.
    let e : p + read * w + i * w ≡ p + length numbers * w =
    rw len (omega (arith, add-mul read i w)) in
    let there : take w (drop (i * w) seen) ≡ take w (drop (p + read * w + i * w) bytes) =
    ap (λ l. take w (drop (i * w) l)) lies
    ∙ take-drop-take (i * w) w (length seen) (drop (p + read * w) bytes) within
    ∙ ap (take w) (drop-drop (i * w) (p + read * w) bytes) in
    number ∙ ap number_of there ∙ ap (λ at. number_at bytes at w) e)
