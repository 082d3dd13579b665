-- If no object contains a key twice, neither does a tree in which each Uid is replaced.
use Rattle.std.proofs.Common.{◌≡◌, ℕ, zero, suc, Bool, true, false, List, ◌∷◌, Option, Some, None, Result, Ok, Err, IfOk, nat_eq, refl}
use Rattle.std.specs.Prelude.{slice_get}
use Rattle.std.specs.List.{list_any}
use Rattle.plist_base.specs.Trees as trees
use Rattle.plist_base.specs.Trees.{Tree, Leaf, Array, Dictionary, Trees, NoTrees, TreeAnd, Members, NoMembers, MemberAnd}
use Rattle.plist_buffer.specs.RepeatedKeys.{HasKeysOnce, ItemsHaveKeysOnce, ValuesHaveKeysOnce, HasDistinctKeys, Lacks}
use Rattle.plist_keyed.specs.Archives.{ArchiveFault, and_then, object_found, replaced, replaced_items, replaced_pairs, resolved}

-- a fact is true of the result if it follows from what is true of the part
then-once : {A B : Type 0} {P : A → Type 0} (Q : B → Type 0) (a : Result A ArchiveFault)
    (f : A → Result B ArchiveFault) → IfOk a P → ((x : A) → P x → IfOk (f x) Q)
    → IfOk (and_then a f) Q
then-once Q (Ok x) f p g = g x p
then-once Q (Err e) f p g = tt

-- no value of `new` contains a key twice, and it has no keys but those of `old`
record KeepsKeys (old new : Members) : Type 0 where
  values : ValuesHaveKeysOnce new
  lacks : (key : List ℕ) → Lacks key old → Lacks key new
  distinct : HasDistinctKeys old → HasDistinctKeys new

module _ (follow : ℕ → Result Tree ArchiveFault) (h : (uid : ℕ) → IfOk (follow uid) HasKeysOnce)
  where
    mutual
      tree-once : (t : Tree) → HasKeysOnce t → IfOk (replaced follow t) HasKeysOnce
      tree-once (Leaf (trees.Uid uid)) o = h uid
      tree-once (Leaf x) o = tt
      tree-once (Array ts) o =
          then-once HasKeysOnce (replaced_items follow ts) _ (items-once ts o) (λ us p. p)
      tree-once (Dictionary ms) (d, o) =
          then-once HasKeysOnce (replaced_pairs follow ms) _ (pairs-once ms o)
          (λ ns (k : KeepsKeys ms ns). (k.distinct d, k.values))

      items-once : (ts : Trees) → ItemsHaveKeysOnce ts
          → IfOk (replaced_items follow ts) ItemsHaveKeysOnce
      items-once NoTrees o = tt
      items-once (TreeAnd t ts) (o, os) =
          then-once ItemsHaveKeysOnce (replaced follow t) _ (tree-once t o) (λ u p.
          then-once ItemsHaveKeysOnce (replaced_items follow ts) _ (items-once ts os)
          (λ us ps. (p, ps)))

      pairs-once : (ms : Members) → ValuesHaveKeysOnce ms
          → IfOk (replaced_pairs follow ms) (KeepsKeys ms)
      pairs-once NoMembers o = record { values = tt; lacks = λ k l. tt; distinct = λ d. tt }
      pairs-once (MemberAnd k t ms) (o, os) =
          then-once (KeepsKeys (MemberAnd k t ms)) (replaced follow t) _ (tree-once t o) (λ u p.
          then-once (KeepsKeys (MemberAnd k t ms)) (replaced_pairs follow ms) _ (pairs-once ms os)
          (λ ns (keeps : KeepsKeys ms ns). record {
            values = (p, keeps.values);
            lacks = λ j (n, l). (n, keeps.lacks j l);
            distinct = λ (l, d). (keeps.lacks k l, keeps.distinct d);
          }))

-- an object that is found contains no key twice
found-once : (found : Option Tree) (is_open : Bool) (uid : ℕ)
    → ((t : Tree) → found ≡ Some t → HasKeysOnce t)
    → IfOk (object_found found is_open uid) HasKeysOnce
found-once None o uid h = tt
found-once (Some t) true uid h = tt
found-once (Some t) false uid h = h t refl

-- the tree of a Uid contains no key twice
pub resolved-once : (objects : List Tree)
    → ((uid : ℕ) (t : Tree) → slice_get objects uid ≡ Some t → HasKeysOnce t)
    → (fuel : ℕ) (path : List ℕ) (uid : ℕ) → IfOk (resolved objects fuel path uid) HasKeysOnce
unfolding resolved
resolved-once objects h zero path uid = found-once (slice_get objects uid) true uid (h uid)
resolved-once objects h (suc fuel) path uid =
    then-once HasKeysOnce (object_found (slice_get objects uid) (list_any (nat_eq uid) path) uid) _
    (found-once (slice_get objects uid) (list_any (nat_eq uid) path) uid (h uid))
    (tree-once (resolved objects fuel (uid ∷ path)) (resolved-once objects h fuel (uid ∷ path)))
