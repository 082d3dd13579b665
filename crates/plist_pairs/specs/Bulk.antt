-- The effects of calls that insert or keep many pairs.
use Rattle.std.specs.Prelude.{◌≡◌, ℕ, ◌++◌, ◌∷◌, [], Bool, List, Option, String, Result, Ok, Err, map, string_bytes, bytes_eq}
use Rattle.std.specs.Borrow.{Bor}
use Rattle.std.specs.Iterator.{Drains, Yields}
use Rattle.std.specs.List.{AllZip, items_where_true}
use Rattle.std.specs.declared.alloc.Global.{Global}
use denote.Param.Members.{Shared}
use Rattle.indexmap.specs.IndexMap.{insert_all}
use Rattle.plist_pairs.specs.Keys.{IsAbsent, shown_owned_pair}
use Rattle.plist_base.specs.declared.error.Error.{Error}

-- pairs as contracts see them, with each key as its bytes
abbrev pub Rows : Type 0 → Type 0
Rows V = List (List ℕ × V)

module _ {F V : Type 0} (g : Shared F (Bor (String Global) × (Bor V × Unit {0})) Bool) (f : F) where
  -- the closure, called with the key and the value of this pair, may return this Boolean
  pub record AnswersAtPair (pair : List ℕ × V) (answer : Bool) : Type 0 where
    pub key : Bor (String Global)
    pub value : Bor V
    pub shows : (string_bytes key.now ≡ pair.0) × (value.now ≡ pair.1)
    pub says : g.post f (key, (value, tt)) answer

  -- the new pairs are those for which the closure returned `true`, in their order
  abbrev pub Retains : Rows V → Rows V → Type 0
  Retains old new =
      (answers : List Bool) × AllZip AnswersAtPair old answers
      × (new ≡ items_where_true answers old)

module _ {I V : Type 0} (next_gives : I → Option (String Global × V) → I → Type 0) (iter : I) where
  -- all pairs of the iterator are inserted; or, after an error, only those that precede the pair
  -- that couldn't be stored, whose key isn't present
  abbrev pub ExtendsBy : Rows V → Result (Unit {0}) Error → Rows V → Type 0
  ExtendsBy old (Ok _) new =
      (taken : List (String Global × V)) × Drains next_gives iter taken
      × (new ≡ insert_all bytes_eq old (map shown_owned_pair taken))
  ExtendsBy old (Err _) new =
      (taken : List (String Global × V)) × (refused : String Global × V)
      × ((rest : I) × Yields next_gives iter (taken ++ refused ∷ []) rest)
      × (new ≡ insert_all bytes_eq old (map shown_owned_pair taken))
      × IsAbsent (string_bytes refused.0) new

module _ {I J V : Type 0} (becomes : J → I → Type 0)
    (next_gives : I → Option (String Global × V) → I → Type 0) (made : J) where
  -- `ExtendsBy` is true of an iterator that `into_iter` of the value returns
  abbrev pub ExtendsByIterable : Rows V → Result (Unit {0}) Error → Rows V → Type 0
  ExtendsByIterable old answer new =
      (iter : I) × becomes made iter × ExtendsBy next_gives iter old answer new
