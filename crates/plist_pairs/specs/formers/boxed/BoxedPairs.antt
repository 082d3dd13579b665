-- `BoxedPairs` in recursive types: the type of the values may itself contain such pairs.
use Rattle.std.specs.Prelude.{◌≡◌, ℕ, List, [], Option, None, Some}
use mathlib.Core.Path.{refl}
use mathlib.Core.Logic.{◌⊎◌, inl, inr}
use mathlib.Core.Former.{Former, this, const, pair, or, via, children}
use base.Stored.{gnil}
use base.Fml.{ftrue}
use denote.RattleType.{RattleType}
use denote.Memory.{part_of}
use denote.RawPtr.{Ptr}
use denote.Sharing.{nothing}
use denote.HoleLaws.{Alike}
use denote.HolePlaces.{Recodes, struct_places, enum_places, eachs, laid, one_value}
use denote.Hole.Carrier.{listed}
use denote.Hole.Fix.{over}
use denote.Param.Weighed.{Weighed}
use denote.Model.Placed.{held, view_places}
use Rattle.std.specs.declared.boxed.Box.{Box}
use Rattle.std.specs.contracts.boxed.Box as box
use Rattle.std.specs.contracts.option.Option as option
use Rattle.std.specs.declared.alloc.Global.{Global}
use Rattle.std.specs.contracts.alloc.Global as heap
use Rattle.std.specs.contracts.impls.GlobalAllocator.TheImpl.{ghosts}
use Rattle.plist_pairs.specs.declared.boxed.BoxedPairs.TheInside.{Inside}
use Rattle.plist_pairs.specs.declared.boxed.BoxedPairs.TheView.{view, invariant}
use Rattle.plist_pairs.specs.contracts.boxed.BoxedPairs as C
use Rattle.plist_pairs.specs.contracts.boxed.BoxedPairs.TheInside as I
use Rattle.plist_pairs.specs.contracts.pairs.Pairs as boxed
use Rattle.plist_pairs.specs.formers.pairs.Pairs as pairs

-- pairs of a key and one of g's values
abbrev pub the_former : Former {0} → Former {0}
the_former g = pairs.the_former g

-- the weight of pairs, which is that of the pairs in the box
abbrev pub the_weighed : {g : Former {0}} → Weighed g → Weighed (the_former g)
the_weighed w = pairs.the_weighed w

-- no pairs, whose values are of an empty type
pub the_empty : List (List ℕ × ⊥)
the_empty = []

-- the values of the pairs
abbrev pub the_items : (X : Type 0) → List (List ℕ × X) → List X
the_items X ps = pairs.the_items X ps

-- the values of the pairs are the former's children
pub the_items_listed : (X : Type 0) (ps : List (List ℕ × X))
    → listed _ (children (the_former this) X ps) ≡ the_items X ps
the_items_listed X ps = pairs.the_items_listed X ps

-- a box of pairs
abbrev Boxed : Type 0 → Type 0
Boxed X = Box (List (List ℕ × X)) Global

module _ {X : Type 0} where
  -- what an optional box of pairs consists of: nothing, or its pointer, its allocator and its pairs
  abbrev split : Option (Boxed X) → Unit {0} ⊎ (Ptr × Global) × List (List ℕ × X)
  split None = inl tt
  split (Some b) = inr ((b.ptr, b.alloc), b.value)

  -- the optional box that `split` takes apart
  abbrev join : Unit {0} ⊎ (Ptr × Global) × List (List ℕ × X) → Option (Boxed X)
  join (inl u) = None
  join (inr v) = Some (record { ptr = v.0.0; alloc = v.0.1; value = v.1 })

  -- `join` undoes `split`
  join-split : (o : Option (Boxed X)) → join (split o) ≡ o
  join-split None = refl
  join-split (Some b) = refl

  -- `split` undoes `join`
  split-join : (v : Unit {0} ⊎ (Ptr × Global) × List (List ℕ × X)) → split (join v) ≡ v
  split-join (inl u) = refl
  split-join (inr v) = refl

-- the former of the field `pairs`
abbrev boxes : Former {0}
boxes =
    via (or (const (Unit {0})) (pair (const (Ptr × Global)) (pairs.the_former this)))
    (λ X. Option (Boxed X)) (λ X. split) (λ X. join) (λ X. join-split) (λ X. split-join)

-- the former of both fields
abbrev fields : Former {0}
fields =
    via (pair boxes (const Global)) Inside (λ X a. (a.pairs, a.alloc))
    (λ X v. record { pairs = v.0; alloc = v.1 }) (λ X a. refl) (λ X v. refl)

module _ (X : Type 0) where
  -- the fields, with this box
  abbrev with_box : Inside X → Option (Boxed X) → Inside X
  with_box u o = record { pairs = o; alloc = u.alloc }

  keeps : (u : Inside X) (o : Option (Boxed X))
      → held (the_former this) X (view X (with_box u o)) ≡ held fields X (with_box u o)
  keeps u None = refl
  keeps u (Some b) = refl

  natural : (Y : Type 0) (h : X → Y) (u : Inside X) (o : Option (Boxed X))
      → view Y (fields.map X Y h (with_box u o))
      ≡ (the_former this).map X Y h (view X (with_box u o))
  natural Y h u None = refl
  natural Y h u (Some b) = refl

-- the box, with this value
abbrev with_value : {X Y : Type 0} → Box X Global → Y → Box Y Global
with_value b y = record { ptr = b.ptr; alloc = b.alloc; value = y }

-- the type of a box of such values
abbrev box_of : RattleType → RattleType
box_of R = box.the_row R heap.the_row ghosts

module _ (R S : RattleType) (h : R.Denot → S.Denot) where
  box_places : Alike R S h → Alike (box_of R) (box_of S) (λ b. with_value b (h b.value))
  unfolding part_of
  box_places a = record {
    mir_same = λ i. (box_of (one_value R (a.mir_same i) (λ _. ftrue) (λ _ _. nothing) gnil)).mir;
    own_same = λ b i. (box_of (one_value R (a.mir_same i) (a.own_same b.value i)
        (a.shr_same b.value i) gnil)).own_val (with_value b tt);
    shr_same = λ b i. (box_of (one_value R (a.mir_same i) (a.own_same b.value i)
        (a.shr_same b.value i) gnil)).shr_at (with_value b tt);
  }

module _ (R S : RattleType) (h : R.Denot → S.Denot) where
  -- the box, with `h` applied to each value of its pairs
  abbrev moved : Boxed R.Denot → Boxed S.Denot
  moved b = with_value b ((the_former this).map R.Denot S.Denot h b.value)

  -- the optional box, with `h` applied to each value of its pairs
  abbrev over_box : Option (Boxed R.Denot) → Option (Boxed S.Denot)
  over_box = boxes.map R.Denot S.Denot h

  variant : (o : Option (Boxed R.Denot))
      → (option.enum (box_of (boxed.the_row S))).as_values (over_box o)
      ≡ eachs (option.enum (box_of (boxed.the_row R))).parts
      (option.enum (box_of (boxed.the_row S))).parts (tt, ((moved, tt), tt))
      ((option.enum (box_of (boxed.the_row R))).as_values o)
  variant None = refl
  variant (Some b) = refl

  pub the_places : Alike R S h
      → Alike (C.the_row R) (C.the_row S) ((the_former this).map R.Denot S.Denot h)
  the_places a =
      let below = box_places (boxed.the_row R) (boxed.the_row S)
      ((the_former this).map R.Denot S.Denot h) (pairs.the_places R S h a) in
      let top = enum_places (option.enum (box_of (boxed.the_row R)))
      (option.enum (box_of (boxed.the_row S))) (tt, ((moved, tt), tt)) over_box variant refl
      (tt, ((laid _ _ _ below, tt), tt)) in
      view_places fields (the_former this) view (λ X Y k u. natural X Y k u u.pairs)
      (λ X u. keeps X u u.pairs) R.Denot S.Denot h (C.the_row R).coded (C.the_row S).coded
      (invariant R.Denot) (invariant S.Denot) (λ u p q. refl) (λ u p q. refl) (λ u e. tt)
      (λ u e. tt) (over (I.the_row R)) (over (I.the_row S))
      (struct_places (I.the_type R) (I.the_type S) (over_box, (λ n. n, tt)) _
      (λ d. refl) refl
      (laid _ _ _ top, ((refl, (λ n. refl, λ n. refl)), tt)))

  pub the_codes_placed : Recodes R S h
      → Recodes (C.the_row R) (C.the_row S) ((the_former this).map R.Denot S.Denot h)
  the_codes_placed e ps = pairs.the_codes_placed R S h e ps
