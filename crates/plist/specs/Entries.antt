-- The words in the contracts of a dictionary's entries. They can also be applied to one kind of
-- entry, as in `with_value (Occupied o)`.
pub use Rattle.plist.specs.declared.dictionary.entry.Entry.TheVariants.{Occupied, Vacant}
use Rattle.std.specs.Prelude.{◌≡◌, ℕ, ◌<◌, List, [], ◌∷◌, ◌++◌, length, Option, None, Some, Result, if◌then◌else◌, is_some, slice_get, string_bytes, bytes_eq, String}
use Rattle.std.specs.Borrow.{Fml, MutBor, follows, follows_if, name_if_ok}
use Rattle.std.specs.Map.{keys_of, lookup, values_of}
use Rattle.std.specs.Option.{UnwrapsOrElse}
use Rattle.indexmap.specs.IndexMap.{set_value_at}
use Rattle.indexmap.specs.Layout.{length-set_value_at}
use Rattle.std.proofs.Common.{sym, subst}
use mir.Syntax.{named}
use Rattle.std.specs.declared.alloc.Global.{Global}
use Rattle.plist_pairs.specs.Keys.{IsRemovedAt, IsSetAt, IsTakenAt}
use Rattle.plist.specs.declared.dictionary.entry.Entry.{Entry}
use Rattle.plist.specs.declared.dictionary.entry.OccupiedEntry.{OccupiedEntry}
use Rattle.plist.specs.contracts.dictionary.Dictionary.{the_row}
use Rattle.plist.specs.contracts.value.Value as value
use Rattle.plist.specs.declared.dictionary.Dictionary.{Dictionary}
use Rattle.plist.specs.declared.value.Value.{Value}
use Rattle.plist.specs.ValueTrees.{dictionary_of, pairs_of}
use Rattle.plist.specs.contracts.dictionary.entry.OccupiedEntry as occupied

-- the reference to the pairs
abbrev pub entry_ref : Entry → MutBor Dictionary
entry_ref (Occupied o) = o.pairs
entry_ref (Vacant e) = e.pairs

-- the pairs that the entry refers to
abbrev pub entry_pairs : Entry → List (List ℕ × Value)
entry_pairs e = pairs_of (entry_ref e).now

-- the key's bytes
abbrev pub entry_key : Entry → Option (List ℕ)
entry_key (Occupied o) = slice_get (keys_of (pairs_of o.pairs.now)) o.at
entry_key (Vacant e) = Some (string_bytes e.key)

-- the key that a vacant entry owns
abbrev pub kept_key : Entry → Option (String Global)
kept_key (Occupied o) = None
kept_key (Vacant e) = Some e.key

-- the value that the key has
abbrev pub entry_value : Entry → Option Value
entry_value (Occupied o) = slice_get (values_of (pairs_of o.pairs.now)) o.at
entry_value (Vacant e) = None

-- both entries have the same index in the same dictionary, whose values may differ
abbrev pub IsSameEntry : OccupiedEntry → OccupiedEntry → Type 0
IsSameEntry o p = (p.pairs.ghost_name ≡ o.pairs.ghost_name) × (p.at ≡ o.at)

-- these are the pairs without the key's pair, to whose index the last pair moves
abbrev pub IsTaken : Entry → List (List ℕ × Value) → Type 0
IsTaken (Occupied o) after = IsRemovedAt (pairs_of o.pairs.now) o.at after
IsTaken (Vacant e) after = after ≡ pairs_of e.pairs.now

-- the pairs in which the key has the value v
abbrev pub with_value : Entry → Value → List (List ℕ × Value)
with_value (Occupied o) v = set_value_at (pairs_of o.pairs.now) o.at v
with_value (Vacant e) v = pairs_of e.pairs.now ++ (string_bytes e.key, v) ∷ []

-- the dictionary in which the key has the value v
abbrev pub dictionary_with : Entry → Value → Dictionary
dictionary_with e v = dictionary_of (with_value e v)

-- the key, unless it is among the pairs
abbrev pub unless_there : String Global → List (List ℕ × Value) → Option (String Global)
unless_there key pairs =
    if is_some (lookup (bytes_eq (string_bytes key)) pairs) then None else Some key

-- setting the entry's value inserts it at this key
abbrev pub Inserts : Entry → (pairs : List (List ℕ × Value)) → (key : List ℕ) → Type 0
Inserts e pairs key = (v : Value) → IsSetAt pairs key v (with_value e v)

-- removing the entry removes this key
abbrev pub Removes : Entry → (pairs : List (List ℕ × Value)) → (key : List ℕ) → Type 0
Removes e pairs key = (after : List (List ℕ × Value)) → IsTaken e after → IsTakenAt pairs key after

-- the key that the entry owns, and a value of which this is true
abbrev pub HandsBack : Entry → (Value → Type 0) → String Global × Value → Type 0
HandsBack e P back = (kept_key e ≡ Some back.0) × P back.1

-- the reference is to the key's value or, if there was none, to one that was made
abbrev pub HasOrMakes : Entry → (made : Value → Type 0) → MutBor Value → Type 0
HasOrMakes e made place = UnwrapsOrElse (entry_value e) made place.now

-- setting its value leaves the entry's index below the number of pairs
pub still_within : (o : OccupiedEntry) (v : Value) → o.at < length (with_value (Occupied o) v)
still_within o v =
    subst (λ n. o.at < n) (sym (length-set_value_at (pairs_of o.pairs.now) o.at v)) o.within

-- the occupied entry o in which the key has the value v
abbrev pub with_entry_value : OccupiedEntry → Value → OccupiedEntry
with_entry_value o v = record {
  pairs = record o.pairs { now = dictionary_with (Occupied o) v };
  at = o.at;
  within = still_within o v;
}

-- after the borrow r ends, the pairs have the last value written through r at e's key
abbrev pub entry_lends : Entry → MutBor Value → Fml
entry_lends e r =
    follows the_row value.the_row (entry_ref e).ghost_name r.ghost_name (dictionary_with e)

-- if r is a reference, the pairs have the last value written through it after its borrow ends;
-- otherwise they are unchanged
abbrev pub entry_lends_ok : {E : Type 0} → Entry → Result (MutBor Value) E → Fml
entry_lends_ok e r =
    follows_if the_row value.the_row (entry_ref e).ghost_name (name_if_ok (λ x. x.ghost_name) r)
    (dictionary_with e) (entry_ref e).now

-- after the borrow r ends, the entry to which o refers has the last value written through r; the
-- entry's lifetime is the second one in the signature
abbrev pub occupied_lends : MutBor OccupiedEntry → MutBor Value → Fml
occupied_lends o r =
    follows (occupied.the_row (record { mir = named 1; lft = [] })) value.the_row o.ghost_name
    r.ghost_name (with_entry_value o.now)
