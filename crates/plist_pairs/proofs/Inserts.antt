-- Pairs that are inserted one after another.
use Rattle.std.proofs.Common.{◌≡◌, ℕ, List, [], ◌∷◌, ◌++◌, map, sym, ap, ◌∙◌, Option, Ok, Err, String, Result, OnOk, bytes_eq, Global}
use Rattle.std.specs.Iterator.{Drains}
use Rattle.std.specs.Iterator.Runs.{YieldsInOrder}
use Rattle.std.proofs.lemmas.List.{map_push}
use Rattle.indexmap.specs.IndexMap.{insert_all, insert_entry}
use Rattle.indexmap.proofs.CallerLemmas.{Drains-YieldsInOrder}
use Rattle.indexmap.proofs.MapLemmas.{insert_all_push}
use Rattle.plist_base.specs.declared.error.Error.{Error}
use Rattle.plist_pairs.specs.Bulk.{ExtendsBy}
use Rattle.plist_pairs.specs.Keys.{shown_owned_pair}

module _ {V : Type 0} where
  -- one more pair is inserted
  pub inserted-more : (old now new : List (List ℕ × V)) (rows : List (String Global × V))
      (row : String Global × V) → now ≡ insert_all bytes_eq old (map shown_owned_pair rows)
      → new ≡ insert_entry bytes_eq now (shown_owned_pair row).0 row.1
      → new ≡ insert_all bytes_eq old (map shown_owned_pair (rows ++ row ∷ []))
  inserted-more old now new rows row h e =
      e ∙ ap (λ l. insert_entry bytes_eq l (shown_owned_pair row).0 row.1) h
      ∙ sym (ap (insert_all bytes_eq old) (map_push shown_owned_pair rows row)
      ∙ insert_all_push bytes_eq old (map shown_owned_pair rows) (shown_owned_pair row))

-- if the iterator yields a list in order, all pairs of the list are inserted
module _ {V I : Type 0} (gives : I → Option (String Global × V) → I → Type 0)
    (left : I → List (String Global × V)) (runs : YieldsInOrder gives left) (iter : I)
    (list : List (String Global × V)) (is : left iter ≡ list) where
  all-taken : (old : List (List ℕ × V)) (taken : List (String Global × V)) → Drains gives iter taken
      → insert_all bytes_eq old (map shown_owned_pair taken)
      ≡ insert_all bytes_eq old (map shown_owned_pair list)
  all-taken old taken all =
      ap (λ l. insert_all bytes_eq old (map shown_owned_pair l))
      (Drains-YieldsInOrder gives left iter taken runs all ∙ is)

  pub list-added : (old : List (List ℕ × V)) (answer : Result (Unit {0}) Error)
      (new : List (List ℕ × V)) → ExtendsBy gives iter old answer new
      → OnOk answer (new ≡ insert_all bytes_eq old (map shown_owned_pair list))
  list-added old (Ok done) new ran = ran.2 ∙ all-taken old _ ran.1
  list-added old (Err error) new ran = tt

  pub list-made : (made : List (List ℕ × V)) → ExtendsBy gives iter [] (Ok tt) made
      → made ≡ insert_all bytes_eq [] (map shown_owned_pair list)
  list-made made ran = ran.2 ∙ all-taken [] _ ran.1
