-- Objects that lie back to back: their order, their offsets and their sizes.
use Rattle.std.proofs.Common.{◌≡◌, ◌≢◌, ◌↔◌, inl, inr, ℕ, ◌+◌, ◌-◌, ◌<◌, ◌≤◌, true, false, ◌||◌, eqb, below_more, List, [], ◌∷◌, ◌++◌, ◌^◌, zero, suc, length, get_or, replicate, set, refl, ap, sym, ◌∙◌, arith, append_assoc, append-nil, length-append, subst}
use Rattle.std.specs.List.{list_any, IsDistinct}
use Rattle.std.proofs.lemmas.Bool.{cases_lt, or_left, or_right, or_parts, false_from_ne_true}
use Rattle.std.proofs.Math.Bool.{or-false}
use Rattle.std.proofs.lemmas.Cmp.{nat_eq_equiv}
use Rattle.std.proofs.lemmas.Grind.{flat_map-append}
use Rattle.std.proofs.lemmas.List.Recursion.{or_push}
use Rattle.std.proofs.lemmas.Map.Keys.{IsDistinct-push}
use Rattle.std.proofs.lemmas.Bool.Decides.{eqb_tells}
use Rattle.std.proofs.lemmas.List.{get_or_past, get_or-replicate, get_or-set_same, get_or-set_other, length-replicate, length-set}
use Rattle.plist_base.specs.Container.{magic}
use Rattle.plist_base.specs.Object.{Object}
use Rattle.plist_binwrite.specs.Forms.{form, IsWritable}
use Rattle.plist_binwrite.specs.Written.{object_table, laid_out, Laid}
use Rattle.std.proofs.Math.ListN.{get_or-eq_default}
use Rattle.plist_binwrite.specs.declared.plan.FilePlan.{FilePlan}
use Rattle.plist_binwrite.specs.inner.Layout.{IsFilePlan, IsLayout}
use Rattle.plist_binwrite.specs.inner.Numbering.{total_below}
use Rattle.std.proofs.lemmas.List.Concat.{length-flat_map}
use Rattle.plist_binwrite.proofs.NumberForms.{width_holds}
use Rattle.plist_binwrite.proofs.NumberingSteps.{can_write, size_told}
use Rattle.plist_binwrite.proofs.Totals.{total_all, total_sum}

-- each number below a count is in the order, once
pub record AllOnce (count : ℕ) (order : List ℕ) : Type 0 where
  pub distinct : IsDistinct eqb order
  pub numbered : (k : ℕ) → (list_any (eqb k) order ≡ true) ↔ (k < count)

pub length-magic : (xs : List ℕ) → length (magic ++ xs) ≡ 8 + length xs
length-magic xs = length-append magic xs

module _ (w : ℕ) (objects : ℕ → Object) where
  -- object k lies among these bytes
  pub record Lies (offsets bytes : List ℕ) (k : ℕ) : Type 0 where
    pub before : List ℕ
    pub after : List ℕ
    pub is : bytes ≡ before ++ (form w (objects k) ++ after)
    pub at_place : get_or offsets k 0 ≡ length before
    pub good : IsWritable w (objects k)

  found : (offsets order front more : List ℕ) (k : ℕ) → Laid w objects offsets order (length front)
      → list_any (eqb k) order ≡ true
      → Lies offsets (front ++ (object_table w objects order ++ more)) k
  found offsets [] front more k l any = cc
  found offsets (j ∷ order) front more k l any =
      let body = form w (objects j) in
      elim (eqb_tells k j) [
        | inl e ↦ rw e.1 (record {
          before = front;
          after = object_table w objects order ++ more;
          is = simp append_assoc;
          at_place = l.0;
          good = l.1;
        })
        | inr d ↦
            let f = found offsets order (front ++ body) more k (rw length-append l.2) (cc) in
            record {
              before = f.before;
              after = f.after;
              is = simp append_assoc (simp append_assoc at f.is);
              at_place = f.at_place;
              good = f.good;
            }
      ]

  module _ (order offsets : List ℕ) (k : ℕ) (l : Laid w objects offsets order 8)
      (any : list_any (eqb k) order ≡ true) where
    -- object k stays where it is when something is appended
    pub object_there : (more : List ℕ) → Lies offsets (laid_out w objects order ++ more) k
    object_there more = rw append_assoc (found offsets order magic more k l any)

    -- its offset is within the file
    pub found_place : get_or offsets k 0 ≤ length (laid_out w objects order)
    found_place =
        let o = object_there [] in
        omega (
          arith,
          o.at_place,
          ap length o.is,
          length-append (laid_out w objects order) [],
          length-append o.before (form w (objects k) ++ o.after),
        )

  pub laid_snoc : (offsets order : List ℕ) (at k v : ℕ) → k < length offsets
      → list_any (eqb k) order ≡ false → IsWritable w (objects k)
      → v ≡ at + length (object_table w objects order)
      → Laid w objects offsets order at → Laid w objects (set offsets k v) (order ++ k ∷ []) at
  laid_snoc offsets [] at k v h new good e l =
      (get_or-set_same _ k v 0 h ∙ omega arith, good, tt)
  laid_snoc offsets (j ∷ order) at k v h new good e l =
      elim (eqb_tells k j) [
        | inl same ↦ cc ((or_parts (eqb k j) (list_any (eqb k) order) new).0)
        | inr d ↦ (
          get_or-set_other offsets k j v 0 (λ x. d.1 (sym x)) ∙ l.0,
          l.1,
          laid_snoc offsets order (at + length (form w (objects j))) k v h
              (cc) good
              (omega (arith, e, length-append (form w (objects j)) (object_table w objects order))) l.2,
        )
      ]

-- a number is in the longer list if it is in the list, or is the one that is appended
any_snoc : (q : ℕ) (xs : List ℕ) (y : ℕ)
    → list_any (eqb q) (xs ++ y ∷ []) ≡ list_any (eqb q) xs || eqb q y
any_snoc q xs y = or_push (list_any _) _ refl (λ x l. refl) xs y

-- the offset of one more object is stored
module _ (offsets : List ℕ) (k v : ℕ) (h : k < length offsets) (positive : 0 < v) where
  pub placed : get_or (set offsets k v) k 0 ≢ 0
  placed none = absurd (omega (arith, get_or-set_same offsets k v 0 h, positive, none))

  -- no other offset changes
  pub still_placed : (q : ℕ) → get_or offsets q 0 ≢ 0 → get_or (set offsets k v) q 0 ≢ 0
  still_placed q n = elim (eqb_tells q k) [
    | inl s ↦ subst (λ j. get_or (set offsets k v) j 0 ≢ 0) (sym s.1) placed
    | inr d ↦ λ none. n (sym (get_or-set_other offsets k q v 0 d.1) ∙ none)
  ]

  -- exactly the numbers in the longer order have an offset
  marked_more : (order : List ℕ)
      → ((q : ℕ) → (list_any (eqb q) order ≡ true) ↔ (get_or offsets q 0 ≢ 0))
      → (q : ℕ) → (list_any (eqb q) (order ++ k ∷ []) ≡ true) ↔ (get_or (set offsets k v) q 0 ≢ 0)
  marked_more order marked q =
      let more = any_snoc q order k in
      elim (eqb_tells q k) [
        | inl s ↦ (
          λ any. subst (λ j. get_or (set offsets k v) j 0 ≢ 0) (sym s.1) placed,
          λ n. more ∙ or_right _ _ s.0,
        )
        | inr d ↦ (
          λ any. still_placed q ((marked q).0 (cc (or-false (list_any (eqb q) order)))),
          λ n. more
              ∙ or_left _ _ ((marked q).1 (λ none. n (get_or-set_other offsets k q v 0 d.1 ∙ none))),
        )
      ]

-- ---- the bytes of objects

-- the number of bytes doesn't depend on the order
pub total_bodies : (w : ℕ) (objects : ℕ → Object) (order : List ℕ) (count : ℕ)
    → AllOnce count order
    → length (object_table w objects order) ≡ total_below (λ k. length (form w (objects k))) count
total_bodies w objects order count all =
    length-flat_map (λ k. form w (objects k)) order
    ∙ sym (total_sum (λ k. length (form w (objects k))) order)
    ∙ total_all _ _ _ all.distinct (λ k. (all.numbered k).0) (λ k. (all.numbered k).1)

-- the objects in a longer order
pub laid_more : (w : ℕ) (objects : ℕ → Object) (order more : List ℕ)
    → laid_out w objects (order ++ more) ≡ laid_out w objects order ++ object_table w objects more
laid_more w objects order more =
    ap (λ l. magic ++ l) (flat_map-append (λ k. form w (objects k)) order more)
    ∙ sym (append_assoc magic (object_table w objects order) (object_table w objects more))

pub laid_one : (w : ℕ) (objects : ℕ → Object) (order : List ℕ) (k : ℕ)
    → laid_out w objects (order ++ k ∷ []) ≡ laid_out w objects order ++ form w (objects k)
laid_one w objects order k =
    laid_more w objects order (k ∷ [])
    ∙ ap (λ l. laid_out w objects order ++ l) (append-nil (form w (objects k)))

-- a list of zeros has 0 at each index
pub all_zero : (n k : ℕ) → get_or (replicate {A = ℕ} n 0) k 0 ≡ 0
all_zero n k = elim (cases_lt k n) [
  | inl low ↦ get_or-replicate n k 0 0 low
  | inr high ↦ get_or_past _ k 0 (omega (arith, high, length-replicate {A = ℕ} n 0))
]

-- ---- the objects of a planned file

module _ {plan : FilePlan} {objects : ℕ → Object} {order offsets : List ℕ}
    (l : IsLayout plan objects order offsets) where
  -- if each object has an offset, the order has each number below the count
  pub all_once : ((k : ℕ) → k < plan.numbering.count → get_or offsets k 0 ≢ 0) → AllOnce plan.numbering.count order
  all_once all = record {
    distinct = l.distinct;
    numbered = λ k. (
      λ any. elim (cases_lt k plan.numbering.count) [
        | inl low ↦ low
        | inr high ↦ absurd ((l.marked k).0 any
            (get_or-eq_default offsets 0 (omega (arith, high, l.long))))
      ],
      λ h. (l.marked k).1 (all k h),
    );
  }

  -- one more object is put
  pub next_layout : IsFilePlan plan → (k v : ℕ) → k < plan.numbering.count → get_or offsets k 0 ≡ 0
      → v ≡ length (laid_out plan.width objects order)
      → IsLayout plan objects (order ++ k ∷ []) (set offsets k v)
  next_layout r k v h free is =
      let new = false_from_ne_true _ (λ any. (l.marked k).0 any free) in
      let start = length-magic (object_table plan.width objects order) in
      let low : k < length offsets = omega (arith, h, l.long) in
      let count = plan.numbering.count in
      let fits : count ≤ 256 ^ plan.width = rw r.width
      (omega (arith, width_holds (count - 1) (omega (arith, r.numbered.so_far.small)))) in
      record {
        described = l.described;
        long = length-set offsets k v ∙ l.long;
        distinct = IsDistinct-push nat_eq_equiv order k l.distinct new;
        marked = marked_more offsets k v low (omega (arith, is, start)) order l.marked;
        laid = laid_snoc plan.width objects offsets order 8 k v low new
            (can_write r.numbered objects l.described plan.width fits k h) (is ∙ start) l.laid;
      }

-- a layout of all objects that goes on from a layout of some of them
pub record Continues (plan : FilePlan) (objects : ℕ → Object) (order : List ℕ) (n : ℕ) : Type 0
  where
    pub more : List ℕ
    pub offsets : List ℕ
    pub layout : IsLayout plan objects (order ++ more) offsets
    pub all : (k : ℕ) → k < n → get_or offsets k 0 ≢ 0

module _ {plan : FilePlan} (r : IsFilePlan plan) {objects : ℕ → Object} {order : List ℕ} where
  pub continued : {offsets : List ℕ} → IsLayout plan objects order offsets → (n : ℕ)
      → n ≤ plan.numbering.count → Continues plan objects order n
  continued {offsets} l zero h = record {
    more = [];
    offsets = offsets;
    layout = rw append-nil l;
    all = λ k low. absurd (omega (arith, low));
  }
  continued l (suc n) h =
      let c = continued l n (omega (arith, h)) in
      elim (eqb_tells (get_or c.offsets n 0) 0) [
        | inl free ↦
            let v = length (laid_out plan.width objects (order ++ c.more)) in
            let start = length-magic (object_table plan.width objects (order ++ c.more)) in
            let low : n < length c.offsets = omega (arith, h, c.layout.long) in
            let positive : 0 < v = omega (arith, start) in
            record {
              more = c.more ++ n ∷ [];
              offsets = set c.offsets n v;
              layout = subst (λ all. IsLayout plan objects all (set c.offsets n v))
                  (append_assoc order c.more (n ∷ []))
                  (next_layout c.layout r n v (omega (arith, h)) free.1 refl);
              all = λ k less. below_more (λ k. get_or (set c.offsets n v) k 0 ≢ 0) n
                  (λ k less. still_placed c.offsets n v low positive k (c.all k less))
                  (placed c.offsets n v low positive) k (omega (arith, less));
            }
        | inr some ↦ record {
          more = c.more;
          offsets = c.offsets;
          layout = c.layout;
          all = λ k less. below_more (λ k. get_or c.offsets k 0 ≢ 0) n c.all some.1 k
              (omega (arith, less));
        }
      ]

  -- an offset is less than 2^64
  pub laid_below : {offsets : List ℕ} → IsLayout plan objects order offsets
      → length (laid_out plan.width objects order) < 2 ^ 64
  laid_below l =
      let c = continued l plan.numbering.count (omega arith) in
      let body = object_table plan.width objects in
      omega (
        arith,
        length-magic (body order),
        length-append (body order) (body c.more),
        ap length (flat_map-append (λ k. form plan.width (objects k)) order c.more),
        total_bodies plan.width objects (order ++ c.more) plan.numbering.count (all_once c.layout c.all),
        size_told r.numbered objects l.described plan.width,
        r.small,
      )
