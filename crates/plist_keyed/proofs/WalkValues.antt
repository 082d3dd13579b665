-- What the value that was read from the events of a walk says about the tree.
use Rattle.std.proofs.Common.{◌≡◌, ℕ, List, [], ◌++◌, length, map, Option, Some, None, Result, Ok, Err, IfOk, refl, sym, ap, ◌∙◌, append-nil, subst}
use Rattle.std.specs.Prelude.{slice_get, option_map}
use Rattle.std.proofs.lemmas.Option.{slice_get-map, same_Some}
use Rattle.plist_base.specs.Events.{PlainEvent, Item}
use Rattle.plist_base.specs.Trees.{Tree}
use Rattle.plist_base.specs.Bracketing.{bracketing, without_length}
use Rattle.plist_base.proofs.OneTree.{one_tree}
use Rattle.plist_buffer.specs.RepeatedKeys.{HasKeysOnce}
use Rattle.plist.specs.declared.value.Value.{Value}
use Rattle.plist.specs.ValueOfItems.{AreItemsOfTree, IsValueOf}
use Rattle.plist.specs.LastWins.{last_wins}
use Rattle.plist.specs.ValueTrees.{tree_of}
use Rattle.plist.proofs.PredictedItems.{all-events, no-events}
use Rattle.plist.proofs.KeysOnce.{keys-once}
use Rattle.plist_keyed.specs.Archives.{ArchiveFault, resolved_tree}
use Rattle.plist_keyed.specs.inner.Walks.{events_at}
use Rattle.plist_keyed.proofs.Replaced.{events_in}
use Rattle.plist_keyed.proofs.KeysKept.{resolved-once}

-- the items are the events of at most one tree
pub same_of : (all : List Item) (t u : Tree) → AreItemsOfTree all t → AreItemsOfTree all u → t ≡ u
same_of all t u (events, same, alike) (others, also, like) =
    let s = all-events events others [] (append-nil (map Ok events) ∙ sym same ∙ also) in
    let e : others ≡ events = s.2 ∙ ap (λ l. events ++ l) (no-events s.0 s.1) ∙ append-nil events in
    one_tree t u (sym alike ∙ ap (map without_length) (sym e) ∙ like)

-- a value that was read from the events of a tree is the tree, if no key occurs twice in it
tree-answered : (answer : Result Tree ArchiveFault) (events : List PlainEvent) (tree : Tree)
    → events_in bracketing answer ≡ Ok events → IsValueOf (map Ok events) (Ok tree)
    → IfOk answer HasKeysOnce → answer ≡ Ok tree
tree-answered (Ok t) events tree p (whole, of, last) once =
    let e : bracketing t ≡ events = cc in
    let own : AreItemsOfTree (map Ok events) t = (events, refl, ap (map without_length) (sym e)) in
    ap Ok (sym ((keys-once t).0 once) ∙ ap last_wins (same_of (map Ok events) t whole own of)
    ∙ sym last)
tree-answered (Err f) events tree p read once = absurd (cc)

of_value : (found : Option Value) (t : Tree) → ((v : Value) → last_wins (tree_of v) ≡ tree_of v)
    → option_map tree_of found ≡ Some t → HasKeysOnce t
of_value None t itself p = cc
of_value (Some v) t itself p =
    subst HasKeysOnce (same_Some (tree_of v) t p) ((keys-once (tree_of v)).1 (itself v))

-- the value of a walk is the tree of its Uid
pub tree-read : (objects : List Value) (uid : ℕ) (tree : Tree)
    → ((v : Value) → last_wins (tree_of v) ≡ tree_of v)
    → events_in bracketing (resolved_tree (map tree_of objects) uid)
    ≡ Ok (events_at (map tree_of objects) uid)
    → IsValueOf (map Ok (events_at (map tree_of objects) uid)) (Ok tree)
    → resolved_tree (map tree_of objects) uid ≡ Ok tree
tree-read objects uid tree itself all read =
    let trees = map tree_of objects in
    tree-answered (resolved_tree trees uid) (events_at trees uid) tree all read
    (resolved-once trees (λ u t p. of_value (slice_get objects u) t itself
    (sym (slice_get-map tree_of objects u) ∙ p)) (length trees) [] uid)
