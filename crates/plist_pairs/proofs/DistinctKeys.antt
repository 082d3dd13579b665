-- Distinct keys stay distinct under inserts. Pairs with distinct keys are their own last values.
use Rattle.std.proofs.Common.{◌≡◌, ℕ, Bool, true, false, if◌then◌else◌, List, [], ◌∷◌, ◌++◌, length, map, refl, sym, ap, ◌∙◌, append_assoc, append-nil, subst, bytes_eq, suc, Some, take, drop, slice_get, drop-cons, take-suc, take-append-drop}
use Rattle.std.specs.List.{IsDistinct, list_any}
use Rattle.std.specs.Map.{keys_of}
use Rattle.std.specs.Cmp.Lexicographic.{nat_list_eq_equiv}
use Rattle.std.proofs.Math.Seq.{take-append_seam}
use Rattle.std.proofs.lemmas.Map.Keys.{IsDistinct-push}
use Rattle.indexmap.specs.IndexMap.{insert_entry, insert_all}
use Rattle.indexmap.proofs.MapLemmas.{absent_before, distinct-take}
use Rattle.indexmap.proofs.SetLemmas.{keys_insert_entry}
use Rattle.plist_pairs.proofs.PairColumns.{no_keys}
use Rattle.plist_pairs.proofs.EntrySteps.{comes_last}
use Rattle.std.proofs.lemmas.Option.{get_or_from_slice_get, slice_get_within}

-- the keys are distinct
abbrev pub EachOnce : {V : Type 0} → List (List ℕ × V) → Type 0
EachOnce pairs = IsDistinct bytes_eq (keys_of pairs)

pub first-distinct : (ks more : List (List ℕ)) → IsDistinct bytes_eq (ks ++ more)
    → IsDistinct bytes_eq ks
first-distinct ks more d =
    rw (← (take-append_seam ks more)) (distinct-take nat_list_eq_equiv (length ks) (ks ++ more) d)

-- if keys are distinct, they still are after a key that isn't among them is added, and the other
-- way round
key-more : (k : List ℕ) (ks : List (List ℕ)) (b : Bool) → list_any (bytes_eq k) ks ≡ b
    → IsDistinct bytes_eq ks → IsDistinct bytes_eq (if b then ks else ks ++ k ∷ [])
key-more k ks true p d = d
key-more k ks false p d = IsDistinct-push nat_list_eq_equiv ks k d p

key-less : (k : List ℕ) (ks : List (List ℕ)) (b : Bool)
    → IsDistinct bytes_eq (if b then ks else ks ++ k ∷ []) → IsDistinct bytes_eq ks
key-less k ks true d = d
key-less k ks false d = first-distinct ks _ d

module _ {V : Type 0} where
  -- inserts keep keys distinct
  once-inserts : (es ps : List (List ℕ × V)) → EachOnce es → EachOnce (insert_all bytes_eq es ps)
  once-inserts es [] d = d
  once-inserts es (p ∷ ps) d =
      once-inserts (insert_entry bytes_eq es p.0 p.1) ps
      (rw (keys_insert_entry bytes_eq es p.0 p.1)
      (key-more p.0 (keys_of es) (list_any (bytes_eq p.0) (keys_of es)) refl d))

  pub once-last : (ps : List (List ℕ × V)) → EachOnce (insert_all bytes_eq [] ps)
  once-last ps = once-inserts [] ps no_keys

  -- if keys are distinct after an insert, they were before
  pub once-earlier : (k : List ℕ) (v : V) (es : List (List ℕ × V))
      → EachOnce (insert_entry bytes_eq es k v) → EachOnce es
  once-earlier k v es d =
      key-less k _ _
      (subst (IsDistinct bytes_eq) (keys_insert_entry bytes_eq es k v) d)

  inserted : (es ps : List (List ℕ × V)) → EachOnce (es ++ ps)
      → insert_all bytes_eq es ps ≡ es ++ ps
  inserted es [] d = sym (append-nil es)
  inserted es (p ∷ ps) d =
      cc (
        comes_last p.0 p.1 es (absent_before nat_list_eq_equiv es ps p d),
        inserted
            (es ++ p ∷ []) ps (subst EachOnce (sym (append_assoc es (p ∷ []) ps)) d),
        append_assoc es
            (p ∷ []) ps,
      )

  -- pairs with distinct keys are their own last values
  pub last-values-once : (ps : List (List ℕ × V)) → EachOnce ps → insert_all bytes_eq [] ps ≡ ps
  last-values-once ps d = inserted [] ps d

-- a function can be applied to the values before or after they are inserted
module _ {V W : Type 0} (f : V → W) where
  pub values-insert : (k : List ℕ) (v : V) (es : List (List ℕ × V))
      → map (λ p. (p.0, f p.1)) (insert_entry bytes_eq es k v)
      ≡ insert_entry bytes_eq (map (λ p. (p.0, f p.1)) es) k (f v)
  values-insert k v [] = refl
  values-insert k v (e ∷ es) = by _ (values-insert k v es)
    where
      by : (b : Bool) → map (λ p. (p.0, f p.1)) (insert_entry bytes_eq es k v)
          ≡ insert_entry bytes_eq (map (λ p. (p.0, f p.1)) es) k (f v)
          → map (λ p. (p.0, f p.1)) (if b then (e.0, v) ∷ es else e ∷ insert_entry bytes_eq es k v)
          ≡ (if b then (e.0, f v) ∷ map (λ p. (p.0, f p.1)) es else (e.0, f e.1)
          ∷ insert_entry bytes_eq (map (λ p. (p.0, f p.1)) es) k (f v))
      by true rest = refl
      by false rest = ap (λ l. (e.0, f e.1) ∷ l) rest

  pub values-inserts : (es ps : List (List ℕ × V))
      → map (λ p. (p.0, f p.1)) (insert_all bytes_eq es ps)
      ≡ insert_all bytes_eq (map (λ p. (p.0, f p.1)) es) (map (λ p. (p.0, f p.1)) ps)
  values-inserts es [] = refl
  values-inserts es (p ∷ ps) =
      cc (values-inserts (insert_entry bytes_eq es p.0 p.1) ps, values-insert p.0 p.1 es)

-- the next pair is appended
pub next-last : {V : Type 0} (rows : List (List ℕ × V)) (i : ℕ) (k : List ℕ) (v : V)
    → EachOnce rows → slice_get rows i ≡ Some (k, v)
    → insert_entry bytes_eq (take i rows) k v ≡ take (suc i) rows
next-last rows i k v d e =
    let within = slice_get_within rows i (k, v) e in
    let read = get_or_from_slice_get rows i (k, v) (k, v) e in
    let split = sym (take-append-drop i rows) ∙ ap (λ l. take i rows ++ l)
    (drop-cons rows i (k, v) within ∙ ap (λ r. r ∷ drop (suc i) rows) read) in
    comes_last k v (take i rows) (absent_before nat_list_eq_equiv (take i rows) (drop (suc i) rows)
    (k, v) (subst EachOnce split d))
    ∙ ap (λ r. take i rows ++ r ∷ []) (sym read) ∙ sym (take-suc rows i (k, v) within)
