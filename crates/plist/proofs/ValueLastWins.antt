-- A value is its own last-value form.
use Rattle.std.proofs.Common.{◌≡◌, ℕ, List, [], ◌∷◌, Option, Some, None, option_map, map, refl, sym, ap, ◌∙◌, subst, string_bytes, String, Global}
use mathlib.Core.List.{map-map}
use Rattle.std.proofs.lemmas.Option.{same_Some}
use Rattle.plist_base.specs.Events.{PlainEvent}
use Rattle.plist_base.specs.Trees.{Tree, Array, Dictionary, Members, trees_of, members_of}
use Rattle.plist.specs.declared.value.Value.{Value, ind-Value, fold-roll-Value, roll-Value}
use Rattle.plist.specs.declared.value.Value.TheOpen.{Dictionary-F, Value-F}
use Rattle.plist.specs.declared.value.Value.TheFolds.{map-Dictionary, map-Value}
use Rattle.plist.specs.declared.dictionary.Dictionary as dictionary
use Rattle.plist.specs.ValueTrees.{members_step, pairs_of, tree_of, tree_pairs, tree_step}
use Rattle.plist.specs.LastWins.{TreePairs, with_pair, last_values, last_wins}
use Rattle.plist.specs.Building.{Unfinished, IsNested, IsExtendedBy, refusal_at, last_wins_in_rows, last_wins_within, last_wins_so_far, InArray, InDictionary, AfterKey, Within, Complete}
use Rattle.plist.specs.declared.open_collections.OpenDictionary.{OpenDictionary}
use Rattle.plist.specs.OpenCollections.{Contents, Items, Pairs, open_of}
use Rattle.plist.specs.UnfinishedValues.{unfinished_in}
use Rattle.plist_pairs.proofs.DistinctKeys.{last-values-once, once-last, values-inserts}
use Rattle.plist.specs.inner.BuilderSteps.{and_event}
use Rattle.plist.proofs.Following.{taken_before}
use Rattle.plist.proofs.BuilderLaws.{items-last, pairs-last, extended-last}

abbrev IsItself : Value → Type 0
IsItself value = last_wins (tree_of value) ≡ tree_of value

-- the members of a dictionary are their own last values
abbrev members_in : dictionary.Dictionary → Members
members_in = dictionary.fold-Dictionary Tree Members tree_step members_step

abbrev AreThemselves : Members → Type 0
AreThemselves members = last_wins (Dictionary members) ≡ Dictionary members

abbrev HasItself : dictionary.Dictionary → Type 0
HasItself d = AreThemselves (members_in d)

-- the tree of one layer is its own last-value form
abbrev Layer : Value-F Value dictionary.Dictionary → Type 0
Layer x =
    let t = tree_step (map-Value Value dictionary.Dictionary Tree Members tree_of members_in x) in
    last_wins t ≡ t

from-layer : (x : Value-F Value dictionary.Dictionary) → Layer x → IsItself (roll-Value x)
from-layer x p = let e = fold-roll-Value _ _ _ _ x in ap last_wins e ∙ p ∙ sym e

abbrev PairsLayer : Dictionary-F Value dictionary.Dictionary → Type 0
PairsLayer x =
    AreThemselves (members_step
    (map-Dictionary Value dictionary.Dictionary Tree Members tree_of members_in x))

from-pairs : (x : Dictionary-F Value dictionary.Dictionary) → PairsLayer x
    → HasItself (dictionary.roll-Dictionary x)
from-pairs x p =
    let e = dictionary.fold-roll-Dictionary _ _ _ _ x in
    ap (λ m. last_wins (Dictionary m)) e ∙ p ∙ sym (ap Dictionary e)

-- a function that leaves each item unchanged leaves the list unchanged
fixed : {A B : Type 0} (f : A → A) (g : B → A) → ((b : B) → f (g b) ≡ g b) → (bs : List B)
    → map f (map g bs) ≡ map g bs
fixed f g e [] = refl
fixed f g e (b ∷ bs) = λ i. e b i ∷ fixed f g e bs i

rows-itself : (rows : TreePairs) → map (λ p. (p.0, last_wins p.1)) rows ≡ rows
    → last_wins_in_rows (last_values rows) ≡ last_values rows
rows-itself rows s =
    ap last_values (values-inserts last_wins [] rows ∙ ap last_values s)
    ∙ last-values-once (last_values rows) (once-last rows)

-- if the trees of a layer's values and dictionaries are their own last-value forms, so is the
-- layer's tree
layer-of : {V D : Type 0} (y : Value-F V D) (value : V → Value) (pairs : D → dictionary.Dictionary)
    → ((v : V) → IsItself (value v)) → ((d : D) → HasItself (pairs d))
    → Layer (map-Value V D Value dictionary.Dictionary value pairs y)
layer-of (Value-F.Array items) value pairs one all =
    ap (λ l. Array (trees_of l)) (items-last _
    ∙ subst (λ l. map last_wins l ≡ l) (sym (map-map tree_of value items.items))
    (fixed last_wins (λ e. tree_of (value e)) one items.items))
layer-of (Value-F.Dictionary d) value pairs one all = all d
layer-of scalar value pairs one all = refl

pairs-layer-of : {V D : Type 0} (y : Dictionary-F V D) (value : V → Value)
    (pairs : D → dictionary.Dictionary) → ((v : V) → IsItself (value v))
    → PairsLayer (map-Dictionary V D Value dictionary.Dictionary value pairs y)
pairs-layer-of y value pairs one =
    let rows = tree_pairs (map (λ p. (p.0, value p.1)) y.pairs) in
    ap (λ l. Dictionary (members_of (last_values l))) (pairs-last (last_values rows))
    ∙ ap (λ l. Dictionary (members_of l)) (rows-itself rows
    (subst (λ l. map (λ p. (p.0, last_wins p.1)) l ≡ l)
    (sym (map-map (λ p. (p.0, tree_of p.1)) (λ p. (p.0, value p.1)) y.pairs))
    (fixed (λ p. (p.0, last_wins p.1)) (λ p. (p.0, tree_of (value p.1)))
    (λ p. ap (λ t. (p.0, t)) (one p.1)) y.pairs)))

-- a value's keys are distinct at every level, so the value is its own last-value form
pub itself : (v : Value) → last_wins (tree_of v) ≡ tree_of v
itself =
    ind-Value IsItself HasItself
    (λ x y is. from-layer x (subst Layer is
    (layer-of y (λ e. e.0) (λ e. e.0) (λ e. e.1) (λ e. e.1))))
    (λ x y is. from-pairs x (subst PairsLayer is
    (pairs-layer-of y (λ e. e.0) (λ e. e.0) (λ e. e.1))))

pairs-itself : (ps : List (List ℕ × Value))
    → last_wins_in_rows (last_values (tree_pairs ps)) ≡ last_values (tree_pairs ps)
pairs-itself ps =
    rows-itself (tree_pairs ps) (fixed (λ p. (p.0, last_wins p.1)) (λ p. (p.0, tree_of p.1))
    (λ p. ap (λ t. (p.0, t)) (itself p.1)) ps)

open-itself : (c : Contents) → last_wins_within (open_of c) ≡ open_of c
open-itself (Items items) = ap InArray (fixed last_wins tree_of itself items)
open-itself (Pairs dictionary) = by dictionary.key
  where
    by : (key : Option (String Global)) → let opened : OpenDictionary = record dictionary { key = key } in
        last_wins_within (open_of (Pairs opened)) ≡ open_of (Pairs opened)
    by None = ap InDictionary (pairs-itself (pairs_of dictionary.pairs))
    by (Some key) =
        ap (λ d. AfterKey d (string_bytes key)) (pairs-itself (pairs_of dictionary.pairs))

-- an unfinished tree is its own last-value form
pub unfinished-itself : (root : Option Value) (cs : List Contents)
    → last_wins_so_far (unfinished_in root cs) ≡ unfinished_in root cs
unfinished-itself (Some v) cs = ap Complete (itself v)
unfinished-itself None [] = refl
unfinished-itself None (c ∷ cs) =
    λ i. Within (open-itself c i) (fixed last_wins_within open_of open-itself cs i)

-- an event that isn't rejected extends a builder's unfinished tree as `IsExtendedBy` says
pub carry : (root : Option Value) (cs : List Contents) (e : PlainEvent) (a : Unfinished)
    → IsNested (unfinished_in root cs) → refusal_at (unfinished_in root cs) e ≡ None
    → and_event with_pair (unfinished_in root cs) e ≡ Some a → IsExtendedBy (unfinished_in root cs) e a
carry root cs e a ok p q =
    let b = unfinished_in root cs in
    let g = taken_before b e ok p in
    let last : Some (last_wins_so_far g.0) ≡ Some a = sym (ap (option_map last_wins_so_far) g.1)
    ∙ extended-last b e ∙ ap (λ u. and_event with_pair u e) (unfinished-itself root cs) ∙ q in
    (g.0, g.2, g.3, sym (same_Some _ a last))
