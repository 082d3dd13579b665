-- Laws of a builder's contents.
use Rattle.std.proofs.Common.{◌≡◌, ℕ, List, [], ◌∷◌, ◌++◌, Some, option_map, map, refl, ap, ◌∙◌}
use Rattle.indexmap.proofs.MapLemmas.{insert_all_push}
use Rattle.plist_base.specs.Events.{PlainEvent, EndCollection, ScalarEvent}
use Rattle.plist_base.specs.Trees.{String, Tree, Array, Dictionary, trees_of, members_of}
use Rattle.std.proofs.lemmas.List.{map_push}
use Rattle.plist.specs.LastWins.{TreePairs, with_pair, last_values, last_wins, last_wins_in_items, last_wins_in_pairs}
use Rattle.plist.specs.Building.{OpenCollection, InArray, InDictionary, AfterKey, Unfinished, NotBegun, Within, Complete, last_wins_in_rows, last_wins_within, last_wins_so_far}
use Rattle.plist.specs.inner.BuilderSteps.{and_tree, at_value, in_array, in_dictionary, and_event}

-- a pair is appended, whatever its key
abbrev pub and_pair : TreePairs → (key : List ℕ) → Tree → TreePairs
and_pair rows key tree = rows ++ (key, tree) ∷ []

-- ---- the last value of each key

rows-snoc : (ps : TreePairs) (k : List ℕ) (t : Tree)
    → last_wins_in_rows (ps ++ (k, t) ∷ []) ≡ with_pair (last_wins_in_rows ps) k (last_wins t)
rows-snoc ps k t =
    ap last_values (map_push (λ p. (p.0, last_wins p.1)) ps (k, t))
    ∙ insert_all_push _ [] (map (λ p. (p.0, last_wins p.1)) ps) (k, last_wins t)

pub items-last : (ts : List Tree) → last_wins_in_items (trees_of ts) ≡ map last_wins ts
items-last [] = refl
items-last (t ∷ ts) = ap (λ l. last_wins t ∷ l) (items-last ts)

pub pairs-last : (ps : TreePairs)
    → last_wins_in_pairs (members_of ps) ≡ map (λ p. (p.0, last_wins p.1)) ps
pairs-last [] = refl
pairs-last (p ∷ ps) = ap (λ l. (p.0, last_wins p.1) ∷ l) (pairs-last ps)

tree-last : (t : Tree) (outer : List OpenCollection)
    → last_wins_so_far (and_tree and_pair t outer)
    ≡ and_tree with_pair (last_wins t) (map last_wins_within outer)
tree-last t (InArray ts ∷ outer) =
    ap (λ l. Within (InArray l) (map last_wins_within outer)) (map_push _ ts t)
tree-last t (AfterKey ps k ∷ outer) =
    ap (λ l. Within (InDictionary l) (map last_wins_within outer)) (rows-snoc ps k t)
tree-last t outer = refl

value-last : (outer : List OpenCollection) (e : PlainEvent)
    → option_map last_wins_so_far (at_value and_pair outer e)
    ≡ at_value with_pair (map last_wins_within outer) e
value-last outer (ScalarEvent x) = ap Some (tree-last _ _)
value-last outer e = refl

array-last : (ts : List Tree) (outer : List OpenCollection) (e : PlainEvent)
    → option_map last_wins_so_far (in_array and_pair ts outer e)
    ≡ in_array with_pair (map last_wins ts) (map last_wins_within outer) e
array-last ts outer EndCollection =
    ap Some (tree-last (Array (trees_of ts)) outer
    ∙ ap (λ l. and_tree with_pair (Array (trees_of l)) (map last_wins_within outer))
    (items-last ts))
array-last ts outer e = value-last (InArray ts ∷ outer) e

dictionary-last : (ps : TreePairs) (outer : List OpenCollection) (e : PlainEvent)
    → option_map last_wins_so_far (in_dictionary and_pair ps outer e)
    ≡ in_dictionary with_pair (last_wins_in_rows ps) (map last_wins_within outer) e
dictionary-last ps outer EndCollection =
    ap Some (tree-last _ _
    ∙ ap (λ l. and_tree with_pair (Dictionary (members_of l)) (map last_wins_within outer))
    (ap last_values (pairs-last ps)))
dictionary-last ps outer (ScalarEvent (String k)) = refl
dictionary-last ps outer e = refl

-- inserting pairs one by one has the same result as appending them and then taking the last values
pub extended-last : (u : Unfinished) (e : PlainEvent)
    → option_map last_wins_so_far (and_event and_pair u e)
    ≡ and_event with_pair (last_wins_so_far u) e
extended-last NotBegun e = value-last [] e
extended-last (Within (InArray ts) outer) e = array-last ts _ e
extended-last (Within (InDictionary ps) outer) e = dictionary-last ps _ e
extended-last (Within (AfterKey ps k) outer) e = value-last _ e
extended-last (Complete t) e = refl
