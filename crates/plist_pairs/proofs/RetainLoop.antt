-- Which items are left by a loop that moves to the front the items that it keeps.
use Rattle.std.proofs.Common.{◌≡◌, ℕ, zero, suc, ◌+◌, ◌<◌, ◌≤◌, Bool, true, false, cond, List, [], ◌∷◌, ◌++◌, length, take, drop, set, get_or, filter, refl, sym, ap, ◌∙◌, append_assoc, append-nil, arith, Some, slice_get, swap, drop-set-lt, drop_of_length-le}
use Rattle.std.specs.List.{AllZip, items_where_true}
use Rattle.std.proofs.lemmas.List.{drop_more, drop-drop}
use Rattle.std.proofs.lemmas.List.Edits.{length-swap, swap_is}
use Rattle.std.proofs.lemmas.Option.{get_or_from_slice_get, slice_get_within}

-- the item at i is swapped to n: the items up to there, and those after i
module _ {X : Type 0} where
  front : (xs : List X) (n i : ℕ) (d : X) → n ≤ i → i < length xs
      → take (suc n) (set (set xs n (get_or xs i d)) i (get_or xs n d))
      ≡ take n xs ++ get_or xs i d ∷ []
  front [] n i d le lt = absurd (omega arith)
  front (x ∷ xs) zero zero d le lt = refl
  front (x ∷ xs) zero (suc i) d le lt = refl
  front (x ∷ xs) (suc n) zero d le lt = absurd (omega arith)
  front (x ∷ xs) (suc n) (suc i) d le lt =
      ap (λ l. x ∷ l) (front xs n i d (omega arith) (omega arith))

  swapped : (xs : List X) (n i : ℕ) (x : X) → n ≤ i → i < length xs → get_or xs i x ≡ x
      → (take (n + 1) (swap xs n i) ≡ take n xs ++ x ∷ [])
      × (drop (i + 1) (swap xs n i) ≡ drop (i + 1) xs)
  swapped xs n i x le lt is =
      let more : suc n ≡ n + 1 = omega arith in
      rw (← swap_is xs n i x (omega arith) lt) (
        rw (← more, front xs n i x le lt, is) refl,
        rw (drop-set-lt (i + 1) _ i _ (omega arith), drop-set-lt (i + 1) xs n _ (omega arith)) refl,
      )

module _ {X : Type 0} (A : X → Bool → Type 0) where
  -- the new items are the old ones for which the answer is `true`
  abbrev pub Kept : List X → List X → Type 0
  Kept old new = (answers : List Bool) × AllZip A old answers × (new ≡ items_where_true answers old)

  kept-more : (x : X) (b : Bool) (old new : List X) → A x b → Kept old new
      → Kept (x ∷ old) (cond b (x ∷ new) new)
  kept-more x true old new h (answers, all, is) =
      (true ∷ answers, (h, all), ap (λ l. x ∷ l) is)
  kept-more x false old new h (answers, all, is) = (false ∷ answers, (h, all), is)

  -- The first i items of old were tested, and those to keep are the first n of now. The items from
  -- i on have not moved.
  pub record KeptSoFar (old now : List X) (i n : ℕ) : Type 0 where
    pub apart : n ≤ i
    pub count : length now ≡ length old
    pub rest : drop i now ≡ drop i old
    pub whole : (more : List X) → Kept (drop i old) more → Kept old (take n now ++ more)

  pub kept-none : (old : List X) → KeptSoFar old old 0 0
  kept-none old = record { apart = omega arith; count = refl; rest = refl; whole = λ more k. k }

  -- one more item is tested
  module _ (old now next : List X) (i n : ℕ) (x : X) (k : KeptSoFar old now i n)
      (read : slice_get now i ≡ Some x) where
    within : i < length now
    within = slice_get_within now i x read

    is : get_or now i x ≡ x
    is = get_or_from_slice_get now i x x read

    asked : (b : Bool) (m : ℕ) → A x b → m ≤ i + 1 → length next ≡ length now
        → drop (i + 1) next ≡ drop (i + 1) now
        → ((more : List X) → take m next ++ more ≡ take n now ++ cond b (x ∷ more) more)
        → KeptSoFar old next (i + 1) m
    asked b m says apart count same kept =
        let begins : drop i old ≡ x ∷ drop (i + 1) now =
        sym k.rest ∙ drop_more now i x within ∙ ap (λ y. y ∷ drop (i + 1) now) is in
        let after : drop (i + 1) old ≡ drop (i + 1) now =
        sym (drop-drop 1 i old) ∙ ap (drop 1) begins in
        record {
          apart = apart;
          count = count ∙ k.count;
          rest = same ∙ sym after;
          whole = λ more rest. rw kept (k.whole (cond b (x ∷ more) more)
              (rw begins (kept-more x b _ more says (rw after at rest))));
        }

    pub step-one : (m : ℕ) → A x true → next ≡ swap now n i → m ≡ n + 1
        → KeptSoFar old next (i + 1) m
    step-one m says moved one =
        let both = swapped now n i x k.apart within is in
        asked true m says (omega (arith, one, k.apart))
        (ap length moved ∙ length-swap now n i) (ap (drop (i + 1)) moved ∙ both.1)
        (λ more. rw (one, moved, both.0) (append_assoc (take n now) (x ∷ []) more))

    pub step-other : (m : ℕ) → A x false → next ≡ now → m ≡ n → KeptSoFar old next (i + 1) m
    step-other m says same none =
        asked false m says (omega (arith, none, k.apart)) (ap length same)
        (ap (drop (i + 1)) same)
        (λ more. rw (none, same) refl)

  -- all items are tested
  pub kept-all : (old now new : List X) (i n : ℕ) → KeptSoFar old now i n → length old ≤ i
      → new ≡ take n now → Kept old new
  kept-all old now new i n k end is =
      rw (is, ← append-nil (take n now))
      (k.whole [] (rw (drop_of_length-le old end) ([], tt, refl)))

-- if the answers are those of a test, the items that pass it are kept
pub where_true : {X : Type 0} (R : X → Bool → Type 0) (test : X → Bool)
    (says : (x : X) (answer : Bool) → R x answer → answer ≡ test x)
    (xs : List X) (answers : List Bool) → AllZip R xs answers
    → items_where_true answers xs ≡ filter test xs
where_true R test says [] [] all = refl
where_true R test says [] (answer ∷ answers) all = elim all [ ]
where_true R test says (x ∷ xs) [] all = elim all [ ]
where_true R test says (x ∷ xs) (true ∷ answers) all =
    cc (says x true all.0, where_true R test says xs answers all.1)
where_true R test says (x ∷ xs) (false ∷ answers) all =
    cc (says x false all.0, where_true R test says xs answers all.1)
