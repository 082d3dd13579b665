-- A tree's last-value form has no more events than the tree, and its strings and data have no more
-- bytes.
use Rattle.std.proofs.Common.{◌≡◌, ℕ, ◌+◌, ◌≤◌, Bool, true, false, List, [], ◌∷◌, ◌++◌, length, Option, refl, arith, bytes_eq, if◌then◌else◌}
use Rattle.plist_base.specs.Events.{PlainEvent, ScalarEvent, StartArray, StartDictionary, EndCollection}
use Rattle.plist_base.specs.Budgets.{bytes_in, total_bytes}
use Rattle.plist_base.specs.Trees.{Tree, Leaf, Array, Dictionary, Trees, NoTrees, TreeAnd, Members, NoMembers, MemberAnd, String, trees_of, members_of}
use Rattle.plist_base.specs.Bracketing.{bracketing, bracketing_of_items, bracketing_of_pairs}
use Rattle.plist.specs.LastWins.{TreePairs, last_values, last_wins, last_wins_in_items, last_wins_in_pairs}
use Rattle.indexmap.specs.IndexMap.{insert_entry, insert_all}

-- ---- over plain numbers

around : (start first inside less all fewer end : ℕ) → first ≡ start → less ≤ inside
    → all ≡ inside + end → fewer ≡ less + end → first + fewer ≤ start + all
around start first inside less all fewer end s l a f = omega arith

within : (rows inside last back : ℕ) → rows ≤ inside → last ≤ 0 + rows → back ≡ last
    → back ≤ inside
within rows inside last back i l b = omega arith

both : (t s first rest all fewer : ℕ) → t ≤ first → s ≤ rest → all ≡ first + rest
    → fewer ≡ t + s → fewer ≤ all
both t s first rest all fewer a b c d = omega arith

member : (k t s first rest all : ℕ) → t ≤ first → s ≤ rest → all ≡ first + rest
    → k + (t + s) ≤ k + all
member k t s first rest all a b c = omega arith

-- the weight of all events together
abbrev weight_of : (PlainEvent → ℕ) → List PlainEvent → ℕ
weight_of w [] = 0
weight_of w (e ∷ es) = w e + weight_of w es

-- the weight of a start doesn't depend on its length
module _ (w : PlainEvent → ℕ) (arrays : (k l : Option ℕ) → w (StartArray k) ≡ w (StartArray l))
    (pairs : (k l : Option ℕ) → w (StartDictionary k) ≡ w (StartDictionary l)) where
  append-weighs : (es fs : List PlainEvent)
      → weight_of w (es ++ fs) ≡ weight_of w es + weight_of w fs
  append-weighs [] fs = omega arith
  append-weighs (e ∷ es) fs =
      let rest = append-weighs es fs in omega arith

  abbrev weight : Tree → ℕ
  weight t = weight_of w (bracketing t)

  abbrev items_weight : Trees → ℕ
  items_weight items = weight_of w (bracketing_of_items items)

  abbrev pairs_weight : Members → ℕ
  pairs_weight members = weight_of w (bracketing_of_pairs members)

  abbrev key_weight : List ℕ → ℕ
  key_weight key = w (ScalarEvent (String key))

  abbrev rows_weight : TreePairs → ℕ
  rows_weight [] = 0
  rows_weight (row ∷ rows) = key_weight row.0 + (weight row.1 + rows_weight rows)

  rows-weigh : (rows : TreePairs) → pairs_weight (members_of rows) ≡ rows_weight rows
  rows-weigh [] = refl
  rows-weigh (row ∷ rows) =
      let rest = rows-weigh rows in
      let both = append-weighs (bracketing row.1) (bracketing_of_pairs (members_of rows)) in
      omega arith

  insert-choice : (b : Bool) (k : List ℕ) (v : Tree) (e : List ℕ × Tree) (es more : TreePairs)
      → rows_weight more ≤ rows_weight es + (key_weight k + weight v)
      → rows_weight (if b then (e.0, v) ∷ es else e ∷ more)
      ≤ rows_weight (e ∷ es) + (key_weight k + weight v)
  insert-choice true k v e es more h = omega arith
  insert-choice false k v e es more h = omega arith

  insert-lighter : (rows : TreePairs) (k : List ℕ) (v : Tree)
      → rows_weight (insert_entry bytes_eq rows k v)
      ≤ rows_weight rows + (key_weight k + weight v)
  insert-lighter [] k v = omega arith
  insert-lighter (e ∷ es) k v = insert-choice _ k v e es _ (insert-lighter es k v)

  all-lighter : (done rows : TreePairs)
      → rows_weight (insert_all bytes_eq done rows) ≤ rows_weight done + rows_weight rows
  all-lighter done [] = omega arith
  all-lighter done (row ∷ rows) =
      let one = insert-lighter done row.0 row.1 in
      let rest = all-lighter (insert_entry bytes_eq done row.0 row.1) rows in
      omega arith

  mutual
    lighter : (t : Tree) → weight (last_wins t) ≤ weight t
    lighter (Leaf s) = omega arith
    lighter (Array items) =
        let inside = items-lighter items in
        let one = append-weighs (bracketing_of_items items) (EndCollection ∷ []) in
        let other = append-weighs (bracketing_of_items (trees_of (last_wins_in_items items)))
        (EndCollection ∷ []) in
        around _ _ _ _ _ _ _ (arrays _ _) inside one other
    lighter (Dictionary members) =
        let rows = last_wins_in_pairs members in
        let inside = pairs-lighter members in
        let all = all-lighter [] rows in
        let back = rows-weigh (last_values rows) in
        let one = append-weighs (bracketing_of_pairs members) (EndCollection ∷ []) in
        let other = append-weighs (bracketing_of_pairs (members_of (last_values rows)))
        (EndCollection ∷ []) in
        around _ _ _ _ _ _ _ (pairs _ _) (within _ _ _ _ inside all back) one other

    items-lighter : (items : Trees)
        → items_weight (trees_of (last_wins_in_items items)) ≤ items_weight items
    items-lighter NoTrees = omega arith
    items-lighter (TreeAnd tree trees) =
        let first = lighter tree in
        let rest = items-lighter trees in
        let one = append-weighs (bracketing tree) (bracketing_of_items trees) in
        let other = append-weighs (bracketing (last_wins tree))
        (bracketing_of_items (trees_of (last_wins_in_items trees))) in
        both _ _ _ _ _ _ first rest one other

    pairs-lighter : (members : Members)
        → rows_weight (last_wins_in_pairs members) ≤ pairs_weight members
    pairs-lighter NoMembers = omega arith
    pairs-lighter (MemberAnd key tree members) =
        let first = lighter tree in
        let rest = pairs-lighter members in
        let one = append-weighs (bracketing tree) (bracketing_of_pairs members) in
        member _ _ _ _ _ _ first rest one

-- ---- the number of events, and the bytes of strings and data

counted : (es : List PlainEvent) → length es ≡ weight_of (λ _. 1) es
counted [] = refl
counted (e ∷ es) = let rest = counted es in omega arith

in-bytes : (es : List PlainEvent) → total_bytes es ≡ weight_of bytes_in es
in-bytes [] = refl
in-bytes (e ∷ es) = let rest = in-bytes es in omega arith

-- the last-value form of a tree has no more events, and its strings and data have no more bytes
pub fewer-events : (t : Tree) → length (bracketing (last_wins t)) ≤ length (bracketing t)
fewer-events t =
    let few = lighter (λ _. 1) (λ _ _. refl) (λ _ _. refl) t in
    let one = counted (bracketing t) in
    let other = counted (bracketing (last_wins t)) in
    omega arith

pub fewer-bytes : (t : Tree) → total_bytes (bracketing (last_wins t)) ≤ total_bytes (bracketing t)
fewer-bytes t =
    let few = lighter bytes_in (λ _ _. refl) (λ _ _. refl) t in
    let one = in-bytes (bracketing t) in
    let other = in-bytes (bracketing (last_wins t)) in
    omega arith
