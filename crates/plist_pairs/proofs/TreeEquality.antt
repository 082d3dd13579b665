-- Sameness is reflexive, symmetric and transitive, for all trees.
use Rattle.std.proofs.Common.{◌≡◌, ℕ, Bool, true, false, ◌||◌, cond, Option, Some, None, is_some, List, [], ◌∷◌, refl, sym, ◌↔◌}
use Rattle.std.specs.Str.{bytes_eq}
use Rattle.std.specs.Cmp.{IsEquivalence, equiv, both_ways}
use Rattle.std.proofs.lemmas.Option.{same_Some}
use Rattle.std.proofs.lemmas.Bool.{and_parts, or_parts}
use Rattle.std.specs.Cmp.Derive.{both_true}
use Rattle.plist_base.proofs.ScalarTests.{bytes_is, bytes_refl, scalar_is, scalar_refl}
use Rattle.plist_base.specs.Trees.{Scalar, Tree, Leaf, Array, Dictionary, Trees, NoTrees, TreeAnd, Members, NoMembers, MemberAnd}
use Rattle.plist_pairs.specs.TreeEquality.{AreSameAt, first_value, is_among, if_found, has_keys, same, same_items, is_covered}

-- `if_found` tests whether the other value is the same
found_at : (o : Option Tree) (t : Tree)
    → (if_found o (λ u. same t u) ≡ true) ↔ AreSameAt (Some t) o
found_at None t = (λ h. absurd (cc), λ h. absurd h)
found_at (Some u) t = (λ h. h, λ h. h)

-- a key of the first has the same value in the second
covered_key : (b : Bool) (seen : List (List ℕ)) (l : List ℕ) (u : Tree) (ms ns : Members)
    (k : List ℕ) (t : Tree) → bytes_eq k l ≡ b
    → is_among l seen || if_found (first_value l ns) (λ v. same u v) ≡ true
    → is_among k seen ≡ false → cond (bytes_eq k l) (Some u) (first_value k ms) ≡ Some t
    → (is_among k (l ∷ seen) ≡ false → first_value k ms ≡ Some t
    → AreSameAt (Some t) (first_value k ns)) → AreSameAt (Some t) (first_value k ns)
covered_key true seen l u ms ns k t is h fresh e later =
    let k_is : k ≡ l = bytes_is k l is in
    let t_is : u ≡ t = same_Some u t (rw is at e) in
    let unseen = rw k_is at fresh in
    rw (k_is, ← t_is) ((found_at (first_value l ns) u).0 (rw unseen at h))
covered_key false seen l u ms ns k t is h fresh e later =
    later (rw (is, fresh) refl) (rw is at e)

-- a key whose values are the same is covered
covered_here : (b : Bool) (seen : List (List ℕ)) (l : List ℕ) (u : Tree) (ns : Members)
    → is_among l seen ≡ b → (is_among l seen ≡ false → AreSameAt (Some u) (first_value l ns))
    → is_among l seen || if_found (first_value l ns) (λ v. same u v) ≡ true
covered_here true seen l u ns is f = rw is refl
covered_here false seen l u ns is f = rw is ((found_at (first_value l ns) u).1 (f is))

-- `is_covered` tests whether each key that hasn't been seen has the same value in the second
covered : (seen : List (List ℕ)) (ms ns : Members) → (is_covered seen ms ns ≡ true)
    ↔ ((k : List ℕ) (t : Tree) → is_among k seen ≡ false → first_value k ms ≡ Some t
    → AreSameAt (Some t) (first_value k ns))
covered seen NoMembers ns = (λ h k t fresh e. absurd (cc), λ f. refl)
covered seen (MemberAnd l u ms) ns =
    let rest = covered (l ∷ seen) ms ns in (
      λ h k t fresh e.
          let parts = and_parts
          (is_among l seen || if_found (first_value l ns) (λ v. same u v)) _ h in
          covered_key (bytes_eq k l) seen l u ms ns k t refl parts.0 fresh e
          (λ new more. rest.0 parts.1 k t new more),
      λ f. both_true
          (covered_here (is_among l seen) seen l u ns refl
          (λ fresh. f l u fresh (rw (bytes_refl l) refl)))
          (rest.1 (λ k t fresh e.
          let n = or_parts (bytes_eq k l) (is_among k seen) fresh in f k t n.1 (rw n.0 e))),
    )

-- a key of the second is in the first if the key at the front of the second is, and if the later
-- ones are
key_there : (b : Bool) (ms : Members) (l : List ℕ) (u : Tree) (ns : Members) (k : List ℕ)
    → bytes_eq k l ≡ b → is_some (first_value l ms) ≡ true
    → is_some (cond (bytes_eq k l) (Some u) (first_value k ns)) ≡ true
    → (is_some (first_value k ns) ≡ true → is_some (first_value k ms) ≡ true)
    → is_some (first_value k ms) ≡ true
key_there true ms l u ns k is h e later = rw (bytes_is k l is) h
key_there false ms l u ns k is h e later = later (rw is at e)

-- a key that is there is still there with one more pair
key_more : (b : Bool) (u : Tree) (o : Option Tree) → is_some o ≡ true
    → is_some (cond b (Some u) o) ≡ true
key_more true u o e = refl
key_more false u o e = e

-- `has_keys` tests whether each key of one dictionary is in the other
keys_there : (ms ns : Members) → (has_keys ns ms ≡ true)
    ↔ ((k : List ℕ) → is_some (first_value k ns) ≡ true → is_some (first_value k ms) ≡ true)
keys_there ms NoMembers = (λ h k e. absurd (cc), λ f. refl)
keys_there ms (MemberAnd l u ns) =
    let rest = keys_there ms ns in (
      λ h k e.
          let parts = and_parts (is_some (first_value l ms)) _ h in
          key_there (bytes_eq k l) ms l u ns k refl parts.0 e (λ more. rest.0 parts.1 k more),
      λ f. both_true (f l (rw (bytes_refl l) refl))
          (rest.1 (λ k e. f k (key_more (bytes_eq k l) u (first_value k ns) e))),
    )

-- `AreSameAt` in two parts: a first value is the same as the second one, and there is no second
-- value without a first one
at_each : (a b : Option Tree) → AreSameAt a b
    ↔ (((t : Tree) → a ≡ Some t → AreSameAt (Some t) b) × (is_some b ≡ true → is_some a ≡ true))
at_each None None = (λ h. (λ t e. absurd (cc), λ e. e), λ f. tt)
at_each None (Some u) = (λ h. absurd h, λ f. let h = f.1 refl in absurd (cc))
at_each (Some t) b = (λ h. (λ s e. rw (← same_Some t s e) h, λ e. refl), λ f. f.0 t refl)

-- dictionaries are the same if and only if their values are the same at every key
pub dictionaries_alike : (ms ns : Members) → (same (Dictionary ms) (Dictionary ns) ≡ true)
    ↔ ((k : List ℕ) → AreSameAt (first_value k ms) (first_value k ns))
dictionaries_alike ms ns = (
  λ h k.
      let parts = and_parts (is_covered [] ms ns) (has_keys ns ms) h in
      (at_each (first_value k ms) (first_value k ns)).1 (
        λ t e. (covered [] ms ns).0 parts.0 k t refl e,
        λ e. (keys_there ms ns).0 parts.1 k e,
      ),
  λ f. both_true
      ((covered [] ms ns).1
      (λ k t fresh e. ((at_each (first_value k ms) (first_value k ns)).0 (f k)).0 t e))
      ((keys_there ms ns).1
      (λ k e. ((at_each (first_value k ms) (first_value k ns)).0 (f k)).1 e)),
)

-- `P` is true of the value that is found, if it is true of the first value, and of a later one that
-- is found
found_go : (b : Bool) (u : Tree) (o : Option Tree) (t : Tree) (P : Tree → Type 0)
    → cond b (Some u) o ≡ Some t → P u → (o ≡ Some t → P t) → P t
found_go true u o t P e here later = rw (← same_Some u t e) here
found_go false u o t P e here later = later e

-- an optional tree is the same as itself, if its tree is
refl_at : (o : Option Tree) → ((t : Tree) → o ≡ Some t → same t t ≡ true) → AreSameAt o o
refl_at None f = tt
refl_at (Some t) f = f t refl

mutual
  -- each tree is the same as itself
  pub refl_tree : (t : Tree) → same t t ≡ true
  refl_tree (Leaf x) = scalar_refl x
  refl_tree (Array ts) = refl_items ts
  refl_tree (Dictionary ms) =
      (dictionaries_alike ms ms).1 (λ k. refl_at _ (λ t e. refl_found ms k t e))

  -- items are the same as themselves
  refl_items : (ts : Trees) → same_items ts ts ≡ true
  refl_items NoTrees = refl
  refl_items (TreeAnd t ts) = both_true (refl_tree t) (refl_items ts)

  -- each value of a dictionary is the same as itself
  refl_found : (ms : Members) (k : List ℕ) (t : Tree) → first_value k ms ≡ Some t → same t t ≡ true
  refl_found NoMembers k t e = absurd (cc)
  refl_found (MemberAnd l u ms) k t e =
      found_go (bytes_eq k l) u (first_value k ms) t (λ v. same v v ≡ true) e (refl_tree u)
      (λ rest. refl_found ms k t rest)

-- of three optional trees, the last two are the same if both are the same as the first
both_at : (a b c : Option Tree) → AreSameAt a b → AreSameAt a c
    → ((t u v : Tree) → a ≡ Some t → same t u ≡ true → same t v ≡ true → same u v ≡ true)
    → AreSameAt b c
both_at None None c h g f = g
both_at None (Some u) c h g f = absurd h
both_at (Some t) None c h g f = absurd h
both_at (Some t) (Some u) None h g f = absurd g
both_at (Some t) (Some u) (Some v) h g f = f t u v refl h g

-- two trees that are the same as a third one are the same
mutual
  both : (t u v : Tree) → same t u ≡ true → same t v ≡ true → same u v ≡ true
  both (Leaf x) (Leaf y) (Leaf z) h g = rw (← scalar_is x y h) g
  both (Array ts) (Array us) (Array vs) h g = both_items ts us vs h g
  both (Dictionary ms) (Dictionary ns) (Dictionary os) h g =
      (dictionaries_alike ns os).1 (λ k. both_at (first_value k ms) (first_value k ns)
      (first_value k os)
      ((dictionaries_alike ms ns).0 h k) ((dictionaries_alike ms os).0 g k)
      (λ t u v e. both_found ms k t u v e))
  both t u v h g = absurd (cc)

  -- two lists of items that are the same as a third one are the same
  both_items : (ts us vs : Trees) → same_items ts us ≡ true → same_items ts vs ≡ true
      → same_items us vs ≡ true
  both_items NoTrees NoTrees vs h g = g
  both_items (TreeAnd t ts) (TreeAnd u us) (TreeAnd v vs) h g =
      let p = and_parts (same t u) (same_items ts us) h in
      let q = and_parts (same t v) (same_items ts vs) g in
      both_true (both t u v p.0 q.0) (both_items ts us vs p.1 q.1)
  both_items ts us vs h g = absurd (cc)

  -- two trees that are the same as a value of a dictionary are the same
  both_found : (ms : Members) (k : List ℕ) (t u v : Tree) → first_value k ms ≡ Some t
      → same t u ≡ true → same t v ≡ true → same u v ≡ true
  both_found NoMembers k t u v e h g = absurd (cc)
  both_found (MemberAnd l w ms) k t u v e h g =
      found_go (bytes_eq k l) w (first_value k ms) t
      (λ x. same x u ≡ true → same x v ≡ true → same u v ≡ true) e (λ p q. both w u v p q)
      (λ rest p q. both_found ms k t u v rest p q) h g

-- sameness is symmetric
pub sym_tree : (t u : Tree) → same t u ≡ true → same u t ≡ true
sym_tree t u h = both t u t h (refl_tree t)

pub symmetric : (t u : Tree) → same t u ≡ same u t
symmetric t u = both_ways (same t u) (same u t) (sym_tree t u) (sym_tree u t)

-- sameness is transitive
pub trans_tree : (t u v : Tree) → same t u ≡ true → same u v ≡ true → same t v ≡ true
trans_tree t u v h g = both u t v (sym_tree t u h) g

-- the laws of `==`, through a view
module _ {V : Type 0} (tree : V → Tree) where
  -- two values are the same if their trees are
  abbrev pub same_by : V → V → Bool
  same_by v w = same (tree v) (tree w)

  -- sameness of values is an equivalence
  pub same_by_equiv : IsEquivalence same_by
  same_by_equiv =
      equiv (record {
        symm = λ v w. symmetric (tree v) (tree w);
        trans = λ u v w. trans_tree (tree u) (tree v) (tree w);
      }) (λ v. refl_tree (tree v))

-- scalars are the same if and only if they are equal
pub scalars_alike : (x y : Scalar) → (same (Leaf x) (Leaf y) ≡ true) ↔ (x ≡ y)
scalars_alike x y = (scalar_is x y, λ e. rw (sym e) (scalar_refl x))
