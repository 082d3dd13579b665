-- Setting a value at an index of a list of pairs.
use Rattle.std.proofs.Common.{◌≡◌, ℕ, zero, suc, List, [], ◌∷◌, ◌++◌, length, refl, ap, sym, ◌∙◌, Some, None, cond, slice_get, Option, position, false, is_some, get_or, swap_remove, bytes_eq}
use Rattle.std.proofs.lemmas.List.Quantifiers.{position-Some}
use Rattle.std.proofs.lemmas.Option.{slice_get-get_or, none-some, same_Some}
use Rattle.std.proofs.lemmas.Slice.Eq.{bytes_eq-Decides}
use Rattle.std.specs.Map.{lookup, keys_of, values_of}
use Rattle.std_collections.proofs.HashLookup.{set_value_at_push}
use Rattle.plist_pairs.proofs.PairColumns.{get-map}
use Rattle.indexmap.proofs.MapLemmas.{Found-position, absent_from_lookup, insert_entry-absent, insert_entry-first, some_index, swap_remove_entry-found, swap_remove_entry-missing}
use Rattle.indexmap.specs.Layout.{length-set_value_at}
use Rattle.indexmap.specs.IndexMap.{set_value_at, insert_entry, swap_remove_entry}

pub set_pushed : {K X : Type 0} (ps new : List (K × X)) (k : K) (v w : X) (n : ℕ)
    → new ≡ ps ++ (k, v) ∷ [] → n ≡ length ps → set_value_at new n w ≡ ps ++ (k, w) ∷ []
set_pushed ps new k v w n e is =
    cc (set_value_at_push ps k v w)

get_last : {K X : Type 0} (ps : List (K × X)) (k : K) (v : X)
    → slice_get (values_of (ps ++ (k, v) ∷ [])) (length ps) ≡ Some v
get_last [] k v = refl
get_last (p ∷ ps) k v = get_last ps k v

pub read_pushed : {K X : Type 0} (ps new : List (K × X)) (k : K) (v r : X) (n : ℕ)
    → new ≡ ps ++ (k, v) ∷ [] → n ≡ length ps → Some r ≡ slice_get (values_of new) n → r ≡ v
read_pushed ps new k v r n e is read =
    same_Some r v (cc (get_last ps k v))

read_at : {K X : Type 0} (ps : List (K × X)) (i : ℕ) (v r : X)
    → slice_get (values_of (set_value_at ps i v)) i ≡ Some r → r ≡ v
read_at [] i v r read = absurd (none-some r read)
read_at (p ∷ ps) zero v r read = same_Some r v (sym read)
read_at (p ∷ ps) (suc i) v r read = read_at ps i v r read

-- the value read at an index is the one that was set there
pub read_set : {K X : Type 0} (ps new : List (K × X)) (i j : ℕ) (v r : X)
    → new ≡ set_value_at ps i v → j ≡ i → slice_get (values_of new) j ≡ Some r → r ≡ v
read_set ps new i j v r is same read =
    read_at ps i v r (cc)

-- a new key is last
pub comes_last : {X : Type 0} (k : List ℕ) (v : X) (ps : List (List ℕ × X))
    → lookup (bytes_eq k) ps ≡ None → insert_entry bytes_eq ps k v ≡ ps ++ (k, v) ∷ []
comes_last k v ps e = insert_entry-absent _ k v ps (absent_from_lookup _ ps e)

-- a key that is there keeps its index
pub keeps_index : {X : Type 0} (k : List ℕ) (v : X) (ps : List (List ℕ × X)) (i : ℕ)
    → Some i ≡ position (bytes_eq k) (keys_of ps)
    → set_value_at ps i v ≡ insert_entry bytes_eq ps k v
keeps_index k v ps i q =
    sym (insert_entry-first _ k v ps i (Found-position _ ps i (sym q)).first)

-- the value of the pair at an index is the value at that index
pub second_at : {K X : Type 0} (ps : List (K × X)) (i : ℕ) (k : K) (v : X)
    → slice_get ps i ≡ Some (k, v) → Some v ≡ slice_get (values_of ps) i
second_at ps i k v e = sym (get-map (λ p. p.1) ps i (k, v) e)

pub none_of : {X : Type 0} (o : Option X) → is_some o ≡ false → o ≡ None
none_of None e = refl
none_of (Some x) e = absurd (cc)

-- a key that is there: its bytes, its value, and the pairs without it
module _ {X : Type 0} (k : List ℕ) where
  pub value-there : (ps : List (List ℕ × X)) (i : ℕ) → Some i ≡ position (bytes_eq k) (keys_of ps)
      → slice_get (values_of ps) i ≡ lookup (bytes_eq k) ps
  value-there ps i q = sym (Found-position _ ps i (sym q)).value

  pub key-there : (ps : List (List ℕ × X)) (i : ℕ) → Some i ≡ position (bytes_eq k) (keys_of ps)
      → slice_get (keys_of ps) i ≡ Some k
  key-there ps i q =
      let at = position-Some (bytes_eq k) (keys_of ps) i k (sym q) in
      slice_get-get_or (keys_of ps) i k at.0
      ∙ ap Some (sym ((bytes_eq-Decides k (get_or (keys_of ps) i k)).0 at.1))

  pub kept-there : {T : Type 0} (ps : List (List ℕ × X)) (i : ℕ) (t : T)
      → Some i ≡ position (bytes_eq k) (keys_of ps)
      → None ≡ cond (is_some (lookup (bytes_eq k) ps)) None (Some t)
  kept-there ps i t q = ap (λ b. cond b None (Some t)) (ap is_some q ∙ some_index _ ps)

  pub taken-there : (ps : List (List ℕ × X)) (i : ℕ) (after : List (List ℕ × X))
      → Some i ≡ position (bytes_eq k) (keys_of ps)
      → ((d : List ℕ × X) → after ≡ swap_remove ps i d) → after ≡ swap_remove_entry (bytes_eq k) ps
  taken-there [] i after q is = absurd (none-some i (sym q))
  taken-there (p ∷ ps) i after q is =
      is p ∙ sym (swap_remove_entry-found (bytes_eq k) (p ∷ ps) i p (sym q))

  -- removing a key that isn't there changes nothing
  pub none-taken : (ps : List (List ℕ × X)) → lookup (bytes_eq k) ps ≡ None
      → swap_remove_entry (bytes_eq k) ps ≡ ps
  none-taken ps e =
      swap_remove_entry-missing _ ps
      (none_of _ (cc (some_index _ ps)))

-- rules for entries at an index
pub ruleset entries = (second_at, length-set_value_at)
