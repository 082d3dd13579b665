-- What a mutable reference into a value or a dictionary borrows.
use Rattle.std.specs.Prelude.{ℕ, List, Option, Vec, bytes_eq}
use Rattle.std.specs.Borrow.{Lends, LendsIf, MutBor, Fml}
use Rattle.std.specs.Map.{set_value}
use Rattle.std.specs.declared.alloc.Global.{Global}
use Rattle.std.specs.contracts.alloc.Global as global
use Rattle.std.specs.contracts.vec.Vec as vec
use Rattle.std.specs.contracts.impls.GlobalAllocator.TheImpl.{ghosts}
use Rattle.indexmap.specs.IndexMap.{set_value_at}
use Rattle.plist.specs.contracts.dictionary.Dictionary as dictionaries
use Rattle.plist.specs.contracts.value.Value.{the_row}
use Rattle.plist.specs.declared.dictionary.Dictionary.{Dictionary}
use Rattle.plist.specs.declared.value.Value.{Value}
use Rattle.plist.specs.declared.value.Value.TheVariants as made
use Rattle.plist.specs.ValueTrees.{dictionary_of, pairs_of}

-- when the borrow ends, the value is the array that the reference had last; without a reference it
-- is unchanged
abbrev pub LendsArray : MutBor Value → Option (MutBor (Vec Value Global)) → Value → Fml
LendsArray value borrowed old =
    LendsIf the_row (vec.the_row the_row global.the_row ghosts) value borrowed made.Array old

-- when the borrow ends, the value is the dictionary that the reference had last; without a
-- reference it is unchanged
abbrev pub LendsDictionary : MutBor Value → Option (MutBor Dictionary) → Value → Fml
LendsDictionary value borrowed old =
    LendsIf the_row dictionaries.the_row value borrowed made.Dictionary old

-- the dictionary in which this is the key's value
abbrev pub with_value_at : Dictionary → (key : List ℕ) → Value → Dictionary
with_value_at dictionary key value =
    dictionary_of (set_value (bytes_eq key) (pairs_of dictionary) value)

-- when the borrow ends, the key has the value that the reference had last; without a reference the
-- dictionary is unchanged
abbrev pub DictionaryLendsAtKey : MutBor Dictionary → List ℕ → Option (MutBor Value) → Fml
DictionaryLendsAtKey dictionary key borrowed =
    LendsIf dictionaries.the_row the_row dictionary borrowed (with_value_at dictionary.now key)
    dictionary.now

-- when the borrow ends, the key, which is there, has the value that the reference had last
abbrev pub DictionaryLendsValue : MutBor Dictionary → List ℕ → MutBor Value → Fml
DictionaryLendsValue dictionary key borrowed =
    Lends dictionaries.the_row the_row dictionary borrowed (with_value_at dictionary.now key)

-- when the borrow ends, the pair at the index has the value that the reference had last
abbrev pub DictionaryLendsIndex : MutBor Dictionary → ℕ → MutBor Value → Fml
DictionaryLendsIndex dictionary index borrowed =
    Lends dictionaries.the_row the_row dictionary borrowed
    (λ set. dictionary_of (set_value_at (pairs_of dictionary.now) index set))
