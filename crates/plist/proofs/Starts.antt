-- The first event of a collection, and those after it.
use Rattle.std.proofs.Common.{◌≡◌, ℕ, List, sym, ap, ◌∙◌, Vec, Global, [], ◌∷◌, ◌++◌, Some, map, length, refl, append_assoc, arith, bytes_eq}
use Rattle.plist.specs.declared.value.Value.{Value, fold-roll-Value}
use Rattle.plist.specs.declared.value.Value.TheVariants.{rolls-Array, rolls-Dictionary}
use Rattle.plist.specs.declared.dictionary.Dictionary as dictionary
use Rattle.plist.specs.ValueTrees.{item_trees, members_step, pair_trees, pairs_of, tree_of, tree_pairs, tree_step}
use Rattle.std.specs.List.{IsDistinct}
use Rattle.std.specs.Map.{keys_of}
use Rattle.plist_base.specs.Events.{PlainEvent, StartArray, StartDictionary, EndCollection}
use Rattle.plist_base.specs.Trees.{Tree, Dictionary, trees_of, members_of, number_of_trees, number_of_members}
use Rattle.plist_base.specs.Bracketing.{bracketing, bracketing_of_items, bracketing_of_pairs}
use Rattle.plist.specs.LastWins.{TreePairs}
use Rattle.plist.proofs.Tops.{trees-once}
use Rattle.plist_base.specs.Trees as tree
use Rattle.plist.specs.declared.value.Value.TheVariants as value

pub tree_of-Array : (items : Vec Value Global)
    → tree_of (value.Array items) ≡ tree.Array (item_trees items.items)
tree_of-Array items =
    ap tree_of (sym (rolls-Array _)) ∙ fold-roll-Value _ _ _ _ _

pub tree_of-Dictionary : (pairs : dictionary.Dictionary)
    → tree_of (value.Dictionary pairs) ≡ tree.Dictionary (pair_trees (pairs_of pairs))
tree_of-Dictionary pairs =
    ap tree_of (sym (rolls-Dictionary _)) ∙ fold-roll-Value _ _ _ _ _
    ∙ ap tree.Dictionary (dictionary.fold_out-Dictionary _ _ tree_step members_step pairs)

trees-length : (vs : List Value) → number_of_trees (trees_of (map tree_of vs)) ≡ length vs
trees-length [] = refl
trees-length (v ∷ vs) = omega (arith, trees-length vs)

members-length : (ps : List (List ℕ × Value))
    → number_of_members (members_of (tree_pairs ps)) ≡ length ps
members-length [] = refl
members-length (p ∷ ps) = omega (arith, members-length ps)

-- a collection begins
begins : (t : Tree) (start : PlainEvent) (inner rest after : List PlainEvent)
    → bracketing t ≡ start ∷ (inner ++ EndCollection ∷ []) → after ≡ inner ++ EndCollection ∷ rest
    → bracketing t ++ rest ≡ start ∷ after
begins t start inner rest after p q =
    ap (λ l. l ++ rest) p
    ∙ ap (λ l. start ∷ l) (append_assoc inner (EndCollection ∷ []) rest ∙ sym q)

pub array_begins : (v : Value) (items : Vec Value Global) (slice : List Value) (n : ℕ)
    (rest after : List PlainEvent)
    → v ≡ value.Array items → slice ≡ items.items → n ≡ length items.items
    → after ≡ bracketing_of_items (trees_of (map tree_of slice)) ++ EndCollection ∷ rest
    → bracketing (tree_of v) ++ rest ≡ StartArray (Some n) ∷ after
array_begins v items slice n rest after p s l q =
    begins (tree_of v) (StartArray (Some n)) _ rest after
    (ap bracketing (ap tree_of p ∙ tree_of-Array items)
    ∙ λ j. StartArray (Some ((trees-length items.items ∙ sym l) j))
    ∷ (bracketing_of_items (trees_of (map tree_of (sym s j))) ++ EndCollection ∷ [])) q

pub dictionary_begins : (v : Value) (pairs : dictionary.Dictionary) (slice : List (List ℕ × Value))
    (n : ℕ) (rest after : List PlainEvent)
    → v ≡ value.Dictionary pairs → slice ≡ pairs_of pairs
    → IsDistinct bytes_eq (keys_of (pairs_of pairs)) → n ≡ length (pairs_of pairs) → after ≡ bracketing_of_pairs (members_of (tree_pairs slice))
    ++ EndCollection ∷ rest
    → bracketing (tree_of v) ++ rest ≡ StartDictionary (Some n) ∷ after
dictionary_begins v pairs slice n rest after p s d l q =
    begins (tree_of v) (StartDictionary (Some n)) _ rest after
    (ap bracketing (ap tree_of p ∙ tree_of-Dictionary pairs
    ∙ ap (λ (r : TreePairs). Dictionary (members_of r)) (trees-once (pairs_of pairs) d))
    ∙ λ j. StartDictionary (Some ((members-length (pairs_of pairs) ∙ sym l) j))
    ∷ (bracketing_of_pairs (members_of (tree_pairs (sym s j))) ++ EndCollection ∷ [])) q
