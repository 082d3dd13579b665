use Rattle.std.proofs.Common.{◌≡◌, ◌&&◌, Bool, true, ap, inl, inr}
use Rattle.std.specs.Bool.{Decides}
use Rattle.std.specs.Cmp.{booleans_Decides}
use Rattle.std.specs.Str.{bytes_eq}
use Rattle.std.proofs.lemmas.Bool.Decides.{Decides-and}
use Rattle.std.proofs.lemmas.Slice.Eq.{bytes_eq-Decides}
use mathlib.Core.Bool.{beq}
use Rattle.plist_buffer.proofs.SetKeys.{key_at, key_came, keys_kept, keys_apart}
use Rattle.plist_share.specs.declared.classes.Collection.{Collection}
use Rattle.plist_share.specs.inner.Nodes.{Node, node_of}
use Rattle.plist_share.proofs.classes.index_of.Goals as goal

-- the derived test of collections, which decides whether they have the same node
abbrev same : Collection → Collection → Bool
same x y = beq x.is_dictionary y.is_dictionary && bytes_eq x.children.items y.children.items

both_parts : (x y : Collection) → Decides (same x y)
    ((x.is_dictionary ≡ y.is_dictionary) × (x.children.items ≡ y.children.items))
both_parts x y = Decides-and _ _ (booleans_Decides _ _) (bytes_eq-Decides _ _)

same_key : (x y : Collection) → same x y ≡ true → node_of x ≡ node_of y
same_key x y h = let p = (both_parts x y).0 h in λ i. (p.0 i, p.1 i)

key_same : (x y : Collection) → node_of x ≡ node_of y → same x y ≡ true
key_same x y h = (both_parts x y).1 (ap (λ (k : Node). k.0) h, ap (λ (k : Node). k.1) h)

pub returns-in-Ok-clause-stored : goal.returns-in-Ok-clause-stored
returns-in-Ok-clause-stored c =
    let h = c.in-Ok.ensures.stored in
    key_at same _ _ c.in-Ok.index c.args.collection h.0
    (same_key c.args.collection h.0) h.1 h.2

pub returns-in-Ok-clause-extends : goal.returns-in-Ok-clause-extends
returns-in-Ok-clause-extends c = record {
  keeps = keys_kept same node_of _ _ _ _ c.in-Ok.ensures.keys;
  only = λ i lt other. elim (key_came same node_of _ _ _ _ c.in-Ok.ensures.keys i lt) [
    | inl before ↦ before
    | inr is ↦ absurd (other (keys_apart same _ key_same _ c.in-Ok.ensures.unique _ _ _ is
        (returns-in-Ok-clause-stored c)))
  ];
}

pub returns-in-Ok-clause-apart : goal.returns-in-Ok-clause-apart
returns-in-Ok-clause-apart c = keys_apart same _ key_same _ c.in-Ok.ensures.unique
