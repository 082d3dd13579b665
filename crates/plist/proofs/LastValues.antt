-- The last values of pairs: keys in the order of their first occurrence, each with its last value.
use Rattle.std.proofs.Common.{◌≡◌, ℕ, Bool, true, false, cond, if◌then◌else◌, List, [], ◌∷◌, Option, None, Some, refl, ap, ◌∙◌, bytes_eq}
use Rattle.std.specs.Map.{lookup, keys_of}
use Rattle.std.specs.Option.{option_or}
use Rattle.std.proofs.lemmas.Slice.Eq.{bytes_eq-Decides}
use Rattle.indexmap.specs.IndexMap.{insert_entry, insert_all}
use Rattle.indexmap.proofs.SetLemmas.{keys_insert_entry}
use Rattle.plist_base.specs.Trees.{Tree}
use Rattle.plist.specs.LastWins.{TreePairs, last_values, first_keys_after, last_value, AreLastValues}

abbrev Key : Type 0
Key = List ℕ

-- ---- one pair

-- `b`, `c` and `d` say whether k is e, q is k, and q is e, where e is the first key. After v is
-- inserted at k, a look-up of q finds v if q is k, and otherwise what it found before.
one : (b c d : Bool) (v w : Tree) (l more : Option Tree) → (b ≡ true → c ≡ d) → (c ≡ true → d ≡ b)
    → more ≡ cond c (Some v) l
    → (if b then cond d (Some v) l else cond d (Some w) more)
    ≡ cond c (Some v) (cond d (Some w) l)
one true c d v w l more f g r = rw (f refl) (twice d)
  where
    twice : (b : Bool) → cond b (Some v) l ≡ cond b (Some v) (cond b (Some w) l)
    twice true = refl
    twice false = refl
one false true d v w l more f g r = rw (g refl) r
one false false d v w l more f g r = ap (cond d _) r

lookup-insert : (q k : Key) (v : Tree) (es : TreePairs)
    → lookup (bytes_eq q) (insert_entry bytes_eq es k v)
    ≡ cond (bytes_eq q k) (Some v) (lookup (bytes_eq q) es)
lookup-insert q k v [] = refl
lookup-insert q k v (e ∷ es) =
    moved _
    ∙ one _ _ _ v e.1 (lookup (bytes_eq q) es) _
    (λ p. ap (bytes_eq q) ((bytes_eq-Decides k e.0).0 p))
    (λ p. ap (λ x. bytes_eq x e.0) ((bytes_eq-Decides q k).0 p)) (lookup-insert q k v es)
  where
    moved : (b : Bool)
        → lookup (bytes_eq q) (if b then (e.0, v) ∷ es else e ∷ insert_entry bytes_eq es k v)
        ≡ (if b then cond (bytes_eq q e.0) (Some v) (lookup (bytes_eq q) es)
        else cond (bytes_eq q e.0) (Some e.1)
        (lookup (bytes_eq q) (insert_entry bytes_eq es k v)))
    moved true = refl
    moved false = refl

-- ---- all pairs

keys-all : (es rows : TreePairs) → keys_of (insert_all bytes_eq es rows)
    ≡ first_keys_after (keys_of es) (keys_of rows)
keys-all es [] = refl
keys-all es (r ∷ rows) =
    cc (keys-all (insert_entry bytes_eq es r.0 r.1) rows, keys_insert_entry bytes_eq es r.0 r.1)

or-later : (o l : Option Tree) (b : Bool) (x : Tree)
    → option_or o (cond b (Some x) l) ≡ option_or (option_or o (cond b (Some x) None)) l
or-later None l true x = refl
or-later None l false x = refl
or-later (Some y) l b x = refl

lookup-all : (q : Key) (es rows : TreePairs)
    → lookup (bytes_eq q) (insert_all bytes_eq es rows)
    ≡ option_or (last_value q rows) (lookup (bytes_eq q) es)
lookup-all q es [] = refl
lookup-all q es (r ∷ rows) =
    cc (
      lookup-all q (insert_entry bytes_eq es r.0 r.1) rows,
      lookup-insert q r.0 r.1 es,
      or-later
          (last_value q rows) (lookup (bytes_eq q) es) (bytes_eq q r.0) r.1,
    )

or-none : (o : Option Tree) → option_or o None ≡ o
or-none None = refl
or-none (Some x) = refl

-- each key occurs once, at its first position, with its last value
pub are-last-values : (rows : TreePairs) → AreLastValues rows (last_values rows)
are-last-values rows = (keys-all [] rows, λ q. lookup-all q [] rows ∙ or-none (last_value q rows))
