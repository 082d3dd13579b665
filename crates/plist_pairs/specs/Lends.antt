-- What a mutable reference into pairs borrows.
use Rattle.std.specs.Prelude.{ℕ, List, Option, bytes_eq}
use Rattle.std.specs.Borrow.{Lends, LendsIf, MutBor, Fml}
use Rattle.std.specs.Map.{set_value}
use Rattle.indexmap.specs.IndexMap.{set_value_at}
use denote.RattleType.{RattleType}
use Rattle.plist_pairs.specs.contracts.boxed.BoxedPairs as boxed
use Rattle.plist_pairs.specs.contracts.pairs.Pairs.{the_row}

module _ (V : RattleType) (pairs : MutBor (List (List ℕ × V.Denot))) where
  -- when the borrow ends, the key has the value that the reference had last; without a reference no
  -- pair changes
  abbrev pub LendsAtKey : List ℕ → Option (MutBor V.Denot) → Fml
  LendsAtKey key value =
      LendsIf (the_row V) V pairs value (set_value (bytes_eq key) pairs.now) pairs.now

  -- when the borrow ends, the pair at the index has the value that the reference had last
  abbrev pub LendsIndex : ℕ → MutBor V.Denot → Fml
  LendsIndex index value = Lends (the_row V) V pairs value (set_value_at pairs.now index)

  -- when the borrow ends, the boxed pairs are those that the reference had last; without a
  -- reference no pair changes
  abbrev pub LendsPairs : Option (MutBor (List (List ℕ × V.Denot))) → Fml
  LendsPairs found = LendsIf (boxed.the_row V) (the_row V) pairs found (λ last. last) pairs.now
