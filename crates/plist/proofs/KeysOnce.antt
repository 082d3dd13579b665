-- If no key occurs twice, a tree is its last-value form; that form nests no deeper than the tree.
use Rattle.std.proofs.Common.{◌↔◌, ◌≡◌, ℕ, false, List, [], ◌∷◌, refl, sym, ap, ◌∙◌, subst, bytes_eq, ◌-◌, Bool, true, if◌then◌else◌}
use Rattle.std.specs.List.{IsDistinct, AllByRecursion}
use Rattle.std.specs.Map.{keys_of}
use Rattle.std.proofs.lemmas.Bool.{false_from_ne_true}
use Rattle.std.proofs.lemmas.Bool.Decides.{not_from_Decides}
use Rattle.std.proofs.lemmas.Slice.Eq.{bytes_eq-Decides}
use Rattle.plist_base.specs.Trees.{Tree, Leaf, Array, Dictionary, Trees, NoTrees, TreeAnd, Members, NoMembers, MemberAnd, trees_of, members_of}
use Rattle.plist_buffer.specs.RepeatedKeys.{HasDistinctKeys, HasKeysOnce, ItemsHaveKeysOnce, ValuesHaveKeysOnce}
use Rattle.plist.specs.LastWins.{TreePairs, last_values, last_wins, last_wins_in_items, last_wins_in_pairs}
use Rattle.plist_pairs.proofs.DistinctKeys.{EachOnce, last-values-once, once-last}
use Rattle.indexmap.specs.IndexMap.{insert_entry, insert_all}
use Rattle.plist.specs.LimitedValues.{NestsWithin, ItemsNestWithin, PairsNestWithin}
use Rattle.plist_buffer.specs.RepeatedKeys as keys

abbrev list_of_members : Members → TreePairs
list_of_members NoMembers = []
list_of_members (MemberAnd key tree members) = (key, tree) ∷ list_of_members members

lacks : (k : List ℕ) (ms : Members)
    → keys.Lacks k ms ↔ AllByRecursion (λ l. bytes_eq k l ≡ false) (keys_of (list_of_members ms))
lacks k NoMembers = (λ l. tt, λ l. tt)
lacks k (MemberAnd key t ms) = (
  λ l. (
    false_from_ne_true _ (λ p. l.0 ((bytes_eq-Decides k key).0 p)),
    (lacks k ms).0 l.1,
  ),
  λ l. (not_from_Decides _ (bytes_eq-Decides k key) l.0, (lacks k ms).1 l.1),
)

listed-once : (ms : Members) → HasDistinctKeys ms ↔ EachOnce (list_of_members ms)
unfolding IsDistinct
listed-once NoMembers = (λ o. tt, λ o. tt)
listed-once (MemberAnd key t ms) = (
  λ o. ((lacks key ms).0 o.0, (listed-once ms).0 o.1),
  λ o. ((lacks key ms).1 o.0, (listed-once ms).1 o.1),
)

-- the keys are unchanged
same-keys : (ms : Members) → keys_of (list_of_members ms) ≡ keys_of (last_wins_in_pairs ms)
same-keys NoMembers = refl
same-keys (MemberAnd key t ms) = ap (λ l. key ∷ l) (same-keys ms)

last-listed : (ms : Members) → EachOnce (list_of_members ms)
    → last_values (last_wins_in_pairs ms) ≡ last_wins_in_pairs ms
last-listed ms once =
    last-values-once _ (rw (← (same-keys ms)) once)

rows-back : (rows : TreePairs) → list_of_members (members_of rows) ≡ rows
rows-back [] = refl
rows-back (p ∷ ps) = ap (λ l. p ∷ l) (rows-back ps)

-- the keys of pairs that are last values are distinct
once-listed : (ms : Members) (rows : TreePairs) → members_of (last_values rows) ≡ ms
    → EachOnce (list_of_members ms)
once-listed ms rows p =
    subst EachOnce (sym (rows-back (last_values rows)) ∙ ap list_of_members p)
    (once-last rows)

mutual
  pub keys-once : (t : Tree) → HasKeysOnce t ↔ (last_wins t ≡ t)
  keys-once (Leaf x) = (λ o. refl, λ p. tt)
  keys-once (Array ts) =
      (λ o. ap Array ((items-once ts).0 o), λ p. (items-once ts).1 (cc))
  keys-once (Dictionary ms) = (
    λ o. ap (λ l. Dictionary (members_of l)) (last-listed ms ((listed-once ms).0 o.0))
        ∙ ap Dictionary ((values-once ms).0 o.1),
    λ p. let q : members_of (last_values (last_wins_in_pairs ms)) ≡ ms = cc in
        let once = once-listed ms (last_wins_in_pairs ms) q in (
          (listed-once ms).1 once,
          (values-once ms).1
              (ap members_of (sym (last-listed ms once)) ∙ q),
        ),
  )

  items-once : (ts : Trees) → ItemsHaveKeysOnce ts ↔ (trees_of (last_wins_in_items ts) ≡ ts)
  items-once NoTrees = (λ o. refl, λ p. tt)
  items-once (TreeAnd t ts) = (
    λ o. λ i. TreeAnd ((keys-once t).0 o.0 i) ((items-once ts).0 o.1 i),
    λ p. ((keys-once t).1 (cc), (items-once ts).1 (cc)),
  )

  values-once : (ms : Members) → ValuesHaveKeysOnce ms ↔ (members_of (last_wins_in_pairs ms) ≡ ms)
  values-once NoMembers = (λ o. refl, λ p. tt)
  values-once (MemberAnd key t ms) = (
    λ o. λ i. MemberAnd key ((keys-once t).0 o.0 i) ((values-once ms).0 o.1 i),
    λ p. ((keys-once t).1 (cc), (values-once ms).1 (cc)),
  )

abbrev AllNest : TreePairs → ℕ → Type 0
AllNest rows depth = PairsNestWithin (members_of rows) depth

insert-choice : (b : Bool) (k : List ℕ) (v : Tree) (e : List ℕ × Tree) (es more : TreePairs)
    (depth : ℕ)
    → AllNest (e ∷ es) depth → NestsWithin v depth → AllNest more depth
    → AllNest (if b then (e.0, v) ∷ es else e ∷ more) depth
insert-choice true k v e es more depth h n m = (n, h.1)
insert-choice false k v e es more depth h n m = (h.0, m)

insert-nests : (rows : TreePairs) (k : List ℕ) (v : Tree) (depth : ℕ) → AllNest rows depth
    → NestsWithin v depth → AllNest (insert_entry bytes_eq rows k v) depth
insert-nests [] k v depth h n = (n, tt)
insert-nests (e ∷ es) k v depth h n =
    insert-choice _ k v e es _ depth h n
    (insert-nests es k v depth h.1 n)

all-nest : (done rows : TreePairs) (depth : ℕ) → AllNest done depth → AllNest rows depth
    → AllNest (insert_all bytes_eq done rows) depth
all-nest done [] depth h n = h
all-nest done (row ∷ rows) depth h n =
    all-nest (insert_entry bytes_eq done row.0 row.1) rows _
    (insert-nests done row.0 row.1 depth h n.0) n.1

mutual
  pub last-nests : (t : Tree) (depth : ℕ) → NestsWithin t depth → NestsWithin (last_wins t) depth
  last-nests (Leaf s) depth h = tt
  last-nests (Array items) depth h = (h.0, last-items items (depth - 1) h.1)
  last-nests (Dictionary pairs) depth h = (
    h.0,
    all-nest [] (last_wins_in_pairs pairs) (depth - 1) tt (last-pairs pairs (depth - 1) h.1),
  )

  last-items : (items : Trees) (depth : ℕ) → ItemsNestWithin items depth
      → ItemsNestWithin (trees_of (last_wins_in_items items)) depth
  last-items NoTrees depth h = tt
  last-items (TreeAnd tree trees) depth h = (last-nests tree depth h.0, last-items trees depth h.1)

  last-pairs : (pairs : Members) (depth : ℕ) → PairsNestWithin pairs depth
      → AllNest (last_wins_in_pairs pairs) depth
  last-pairs NoMembers depth h = tt
  last-pairs (MemberAnd key tree members) depth h =
      (last-nests tree depth h.0, last-pairs members depth h.1)
