-- The test of trees decides whether they are equal.
use Rattle.std.proofs.Common.{◌≡◌, inl, inr, Bool, ◌&&◌, refl, ap, ◌∙◌}
use Rattle.std.specs.Str.{bytes_eq}
use Rattle.plist_base.specs.Trees.{Tree, Leaf, Array, Dictionary, Trees, NoTrees, TreeAnd, Members, NoMembers, MemberAnd}
use Rattle.plist_base.specs.Scalars.{scalar_eq}
use Rattle.plist_buffer.proofs.SameScalars.{Tells, bytes_tell, scalars_tell, tells_made}
use Rattle.plist_share.specs.SharedFiles.{tree_eq, trees_eq, members_eq}

-- if two tests decide the parts, both together decide what is made of the parts
tells_both : {A B C : Type 0} (one : A → A → Bool) (other : B → B → Bool) (test : C → C → Bool)
    (make : A → B → C) (a x : A) (b y : B)
    → test (make a b) (make x y) ≡ (one a x && other b y)
    → (make a b ≡ make x y → (a ≡ x) × (b ≡ y)) → Tells one a x → Tells other b y
    → Tells test (make a b) (make x y)
tells_both one other test make a x b y is back (inl p) (inl q) =
    inl (is ∙ (λ i. p.0 i && q.0 i), λ i. make (p.1 i) (q.1 i))
tells_both one other test make a x b y is back (inl p) (inr q) =
    inr (is ∙ (λ i. p.0 i && q.0 i), λ e. q.1 (back e).1)
tells_both one other test make a x b y is back (inr p) given =
    inr (cc, λ e. p.1 (back e).0)

abbrev rest_eq : Tree × Members → Tree × Members → Bool
rest_eq p q = tree_eq p.0 q.0 && members_eq p.1 q.1

mutual
  pub tree_tells : (t u : Tree) → Tells tree_eq t u
  tree_tells (Leaf x) (Leaf y) =
      tells_made scalar_eq tree_eq Leaf x y refl (λ e. cc) (scalars_tell x y)
  tree_tells (Array ts) (Array us) =
      tells_made trees_eq tree_eq Array ts us refl (λ e. cc) (trees_tell ts us)
  tree_tells (Dictionary ms) (Dictionary ns) =
      tells_made members_eq tree_eq Dictionary ms ns refl (λ e. cc) (members_tell ms ns)
  tree_tells t u = inr (refl, λ e. cc)

  trees_tell : (ts us : Trees) → Tells trees_eq ts us
  trees_tell NoTrees NoTrees = inl (refl, refl)
  trees_tell (TreeAnd t ts) (TreeAnd u us) =
      tells_both tree_eq trees_eq trees_eq TreeAnd t u ts us refl (λ e. (cc, cc))
      (tree_tells t u) (trees_tell ts us)
  trees_tell ts us = inr (refl, λ e. cc)

  members_tell : (ms ns : Members) → Tells members_eq ms ns
  members_tell NoMembers NoMembers = inl (refl, refl)
  members_tell (MemberAnd k t ms) (MemberAnd l u ns) =
      tells_both bytes_eq rest_eq members_eq (λ k p. MemberAnd k p.0 p.1) k l (t, ms) (u, ns) refl
      (λ e. let a : t ≡ u = cc in let b : ms ≡ ns = cc in (cc, λ i. (a i, b i)))
      (bytes_tell k l)
      (tells_both tree_eq members_eq rest_eq (λ a b. (a, b)) t u ms ns refl
      (λ e. (ap (λ p. p.0) e, ap (λ p. p.1) e)) (tree_tells t u) (members_tell ms ns))
  members_tell ms ns = inr (refl, λ e. cc)
