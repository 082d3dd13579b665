-- A tree's events, apart from lengths, are those of no other tree.
use Rattle.std.proofs.Common.{◌≡◌, List, [], ◌∷◌, ◌++◌, refl, sym, ap, ◌∙◌, append_assoc, append-nil}
use Rattle.plist_base.specs.Events.{PlainEvent, EndCollection}
use Rattle.plist_base.specs.Trees.{Tree, Leaf, Array, Dictionary, Trees, NoTrees, TreeAnd, Members, NoMembers, MemberAnd}
use Rattle.plist_base.specs.Bracketing.{bracketing, lengthless, lengthless_items, lengthless_pairs, AreAlike}
use Rattle.plist_base.proofs.Lengths.{lengthless-is}

same_tail : (d e : PlainEvent) (ls rs : List PlainEvent) → d ∷ ls ≡ e ∷ rs → ls ≡ rs
same_tail d e ls rs p = cc

-- lists that are equal stay equal when they are grouped otherwise
regroup : (xs ys zs ws ls rs : List PlainEvent) → (xs ++ ys) ++ ls ≡ (zs ++ ws) ++ rs
    → xs ++ (ys ++ ls) ≡ zs ++ (ws ++ rs)
regroup xs ys zs ws ls rs p = sym (append_assoc xs ys ls) ∙ p ∙ append_assoc zs ws rs

-- a tree's events don't begin with an end
no_end : {A : Type 0} (t : Tree) (ls rs : List PlainEvent) → EndCollection ∷ ls
    ≡ lengthless t ++ rs → A
no_end (Leaf x) ls rs p = absurd (cc)
no_end (Array ts) ls rs p = absurd (cc)
no_end (Dictionary ms) ls rs p = absurd (cc)

-- if two equal lists begin with the events of two trees, the trees are equal, and so are the rests
mutual
  pub split : (t u : Tree) (ls rs : List PlainEvent) → lengthless t ++ ls ≡ lengthless u ++ rs
      → (t ≡ u) × (ls ≡ rs)
  split (Leaf x) (Leaf y) ls rs p = (cc, cc)
  split (Array ts) (Array us) ls rs p =
      let g = split_items ts us ls rs
      (regroup (lengthless_items ts) _ (lengthless_items us) _ ls rs (same_tail _ _ _ _ p)) in
      (ap Array g.0, g.1)
  split (Dictionary ms) (Dictionary ns) ls rs p =
      let g = split_pairs ms ns ls rs
      (regroup (lengthless_pairs ms) _ (lengthless_pairs ns) _ ls rs (same_tail _ _ _ _ p)) in
      (ap Dictionary g.0, g.1)
  split t u ls rs p = absurd (cc)

  split_items : (ts us : Trees) (ls rs : List PlainEvent)
      → lengthless_items ts ++ EndCollection ∷ ls ≡ lengthless_items us ++ EndCollection ∷ rs
      → (ts ≡ us) × (ls ≡ rs)
  split_items NoTrees NoTrees ls rs p = (refl, cc)
  split_items NoTrees (TreeAnd u us) ls rs p = no_end u _ _ (rw append_assoc at p)
  split_items (TreeAnd t ts) NoTrees ls rs p = no_end t _ _ (sym (rw append_assoc at p))
  split_items (TreeAnd t ts) (TreeAnd u us) ls rs p =
      let g = split t u _ _ (regroup (lengthless t) _ (lengthless u) _ _ _ p) in
      let h = split_items ts us ls rs g.1 in (cc, h.1)

  split_pairs : (ms ns : Members) (ls rs : List PlainEvent)
      → lengthless_pairs ms ++ EndCollection ∷ ls ≡ lengthless_pairs ns ++ EndCollection ∷ rs
      → (ms ≡ ns) × (ls ≡ rs)
  split_pairs NoMembers NoMembers ls rs p = (refl, cc)
  split_pairs (MemberAnd j t ms) (MemberAnd k u ns) ls rs p =
      let g = split t u _ _ (regroup (lengthless t) _ (lengthless u) _ _ _ (same_tail _ _ _ _ p)) in
      let h = split_pairs ms ns ls rs g.1 in
      let key : j ≡ k = cc in (cc, h.1)
  split_pairs ms ns ls rs p = absurd (cc)

pub one_tree : (left right : Tree) → AreAlike (bracketing left) (bracketing right) → left ≡ right
one_tree left right p =
    (split left right [] [] (rw (
      append-nil,
      append-nil,
      ← lengthless-is left,
      ← lengthless-is
          right,
    ) p)).0
