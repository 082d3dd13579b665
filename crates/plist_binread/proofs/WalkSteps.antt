-- What one step of the walk yields of the remaining items.
use Rattle.std.proofs.Common.{◌≡◌, ℕ, zero, suc, ◌+◌, ◌-◌, ◌*◌, ◌^◌, ◌<◌, ◌≤◌, Bool, true, false, nat_eq, List, [], ◌∷◌, ◌++◌, length, reverse, Option, Some, None, Ok, Err, refl, ap, sym, ◌∙◌, arith, append_assoc, add-zero}
use Rattle.std.specs.List.{list_any, flat_map, slice_get}
use Rattle.std.proofs.lemmas.List.{reverse-append}
use Rattle.std.proofs.lemmas.Option.{slice_get_within}
use Rattle.std.proofs.Math.Nat.{mul-le-mul_right}
use Rattle.plist_base.specs.declared.error.Error.{Error}
use Rattle.plist_base.specs.Faults.{Fault, InvalidUtf8String, InvalidUtf16String, OutOfMemory, ObjectReferenceTooLarge, RecursiveObject, kind_of, error_kind_of, fault_of, fault_at, fault_without_offset}
use Rattle.plist_base.specs.Events.{PlainEvent, EndCollection, Item}
use Rattle.plist_base.specs.Trees.{Data, String}
use Rattle.plist_base.proofs.Refusals.{MatchFault-at, MatchFault-weaker}
use Rattle.plist_binread.specs.declared.frames.Frame.{Frame}
use Rattle.plist_base.specs.Object.{Object, Scalar, Array, Dictionary, Faulty}
use Rattle.plist_base.specs.Unfolding.{TableEntry, items_of, unfolding_of, until_fault}
use Rattle.plist_binread.specs.Remaining.{path_of, MarksOpenPath, remaining_items, SomeRemain, AllocatesFirst, Explains, walk_steps, walk_weight}
use Rattle.plist_decode.specs.Decoding.{IsCollection, children_in, scalar_event_in, Allocates, IsRefusedAs}
use Rattle.plist_binread.specs.ObjectEvents.{event_of_object}
use Rattle.plist_binread.specs.Tokens.{first_event}
use Rattle.plist_binread.proofs.OpenObjects.{admits_more}

-- ---- the first item of an object

-- the items that consist of this event, or no items
abbrev one_item : Option PlainEvent → List Item
one_item None = []
one_item (Some event) = Ok event ∷ []

single_items : (object : Object) (place : ℕ) (event : PlainEvent) (child : ℕ → List Item)
    → scalar_event_in object ≡ Some event → items_of place object child ≡ Ok event ∷ []
single_items (Scalar scalar) place event child h = ap one_item h
single_items object place event child h = absurd (cc)

collection_items : (object : Object) (place : ℕ) (start : PlainEvent) (count : ℕ)
    (child : ℕ → List Item) → IsCollection object start count
    → items_of place object child ≡ Ok start
    ∷ (flat_map child (children_in object) ++ Ok EndCollection ∷ [])
collection_items (Array items) place start count child h = rw h.0 refl
collection_items (Dictionary pairs) place start count child h = rw h.0 refl
collection_items object place start count child h = absurd h

pub collection_count : (object : Object) (start : PlainEvent) (count : ℕ)
    → IsCollection object start count → length (children_in object) ≡ count
collection_count (Array items) start count h = h.1
collection_count (Dictionary pairs) start count h = h.1
collection_count object start count h = absurd h

pub remaining_at : (object : Object) (place : ℕ) (child : ℕ → List Item) (more : List Item)
    → SomeRemain (until_fault (items_of place object child ++ more))
remaining_at (Scalar scalar) place child more = omega arith
remaining_at (Array items) place child more = omega arith
remaining_at (Dictionary pairs) place child more = omega arith
remaining_at (Faulty kind) place child more = omega arith

wanted_at : (object : Object) (place : ℕ) (child : ℕ → List Item) (more : List Item)
    → Allocates object → AllocatesFirst (until_fault (items_of place object child ++ more))
wanted_at (Scalar (String text)) place child more h = tt
wanted_at (Scalar (Data bytes)) place child more h = tt
wanted_at (Scalar scalar) place child more h = absurd h
wanted_at (Array items) place child more h = tt
wanted_at (Dictionary pairs) place child more h = tt
wanted_at (Faulty InvalidUtf8String) place child more h = tt
wanted_at (Faulty InvalidUtf16String) place child more h = tt
wanted_at (Faulty kind) place child more h = absurd h

-- if an event is the first of these items, it is the object's first event
first_named : (object : Object) (place : ℕ) (child : ℕ → List Item) (more rest : List Item)
    (event : PlainEvent) → until_fault (items_of place object child ++ more) ≡ Ok event ∷ rest
    → event_of_object object ≡ Some event
first_named (Scalar scalar) place child more rest event is = cc
first_named (Array items) place child more rest event is = cc
first_named (Dictionary pairs) place child more rest event is = cc
first_named (Faulty kind) place child more rest event is = cc

-- a collection needs memory
grows_at-collection : (object : Object) (start : PlainEvent) (count : ℕ)
    → IsCollection object start count → Allocates object
grows_at-collection (Array items) start count h = tt
grows_at-collection (Dictionary pairs) start count h = tt
grows_at-collection object start count h = absurd h

-- ---- the object of a reference

module _ (table : List TableEntry) where
  -- a number that no object has yields one item, which is the fault
  pub items_beyond : (fuel : ℕ) (path : List ℕ) (at i : ℕ) → slice_get table i ≡ None
      → unfolding_of table fuel path at i ≡ Err (fault_at ObjectReferenceTooLarge at) ∷ []
  unfolding unfolding_of
  items_beyond zero path at i none = rw none refl
  items_beyond (suc fuel) path at i none = rw none refl

  -- an object that is open yields one item, which is the fault
  pub items_open : (fuel : ℕ) (path : List ℕ) (at i : ℕ) (entry : TableEntry)
      → slice_get table i ≡ Some entry → list_any (nat_eq i) path ≡ true
      → unfolding_of table fuel path at i ≡ Err (fault_at RecursiveObject entry.place) ∷ []
  unfolding unfolding_of
  items_open zero path at i entry is any = rw (is, any) refl
  items_open (suc fuel) path at i entry is any = rw (is, any) refl

  pub items_step : (fuel : ℕ) (path : List ℕ) (at i : ℕ) (entry : TableEntry)
      → slice_get table i ≡ Some entry → list_any (nat_eq i) path ≡ false
      → unfolding_of table (suc fuel) path at i
      ≡ items_of entry.place entry.object (λ c. unfolding_of table fuel (i ∷ path) entry.place c)
  unfolding unfolding_of
  items_step fuel path at i entry is any = rw (is, any) refl

  module _ (tags : List ℕ) (len : length table ≡ length tags) (fs : List Frame) (at i : ℕ)
      (entry : TableEntry) (o : MarksOpenPath tags fs) (h : i < length tags)
      (is : slice_get table i ≡ Some entry) (any : list_any (nat_eq i) (path_of fs) ≡ false) where
    -- the items of the object's children
    abbrev child : ℕ → List Item
    child c = unfolding_of table (length table - suc (length fs)) (i ∷ path_of fs) entry.place c

    -- what remains when the object is about to be entered
    abbrev before : List Item
    before = unfolding_of table (length tags - length fs) (path_of fs) at i
        ++ remaining_items table fs

    entered : unfolding_of table (length tags - length fs) (path_of fs) at i
        ≡ items_of entry.place entry.object child
    entered =
        let fuel = admits_more _ i fs o h any in
        let e : length tags - length fs ≡ suc (length table - suc (length fs)) = omega arith in
        rw e (items_step _ _ at i _ is any)

    -- if the object is a scalar, its event is the first item
    pub yields_scalar : (event : PlainEvent) → scalar_event_in entry.object ≡ Some event
        → until_fault before ≡ Ok event ∷ until_fault (remaining_items table fs)
    yields_scalar event scalar =
        ap (λ items. until_fault (items ++ remaining_items table fs))
        (entered ∙ single_items _ _ _ _ scalar)

    -- if the object is a collection, its start is the first item
    pub yields_collection : (start : PlainEvent) (f : Frame) (gs : List Frame) → gs ≡ f ∷ fs
        → f.object ≡ i → f.next ≡ 0 → IsCollection entry.object start f.count
        → until_fault before ≡ Ok start ∷ until_fault (remaining_items table gs)
    yields_collection start f gs grown object next collection =
        ap (λ items. until_fault (items ++ remaining_items table fs))
        (entered ∙ collection_items _ _ _ _ _ collection)
        ∙ ap (λ items. Ok start ∷ until_fault items)
        (append_assoc (flat_map child (children_in entry.object)) (Ok EndCollection ∷ [])
        (remaining_items table fs))
        ∙ rw (grown, object, next, is) refl

    -- if the object has an error, this is possible in place of the first item
    pub yields_refused : (e : Error) → IsRefusedAs entry.object entry.place e
        → Explains (until_fault before) e
    yields_refused e refused =
        rw entered
        (MatchFault-weaker (kind_of (error_kind_of e))
        (λ _. remaining_at entry.object entry.place child (remaining_items table fs))
        (λ grows. wanted_at entry.object entry.place child (remaining_items table fs) grows)
        (λ faulty. ap (λ object. until_fault
        (items_of entry.place object child ++ remaining_items table fs)) faulty.0
        ∙ ap (λ (offset : Option ℕ). Err
        (record { kind = kind_of (error_kind_of e); offset = offset }) ∷ []) (sym faulty.1))
        refused)

  module _ (tags : List ℕ) (len : length table ≡ length tags) (fs : List Frame) (at i : ℕ)
      (o : MarksOpenPath tags fs) (event : PlainEvent) (rest : List Item) where
    -- if an event is the first item of an object, it is the object's first event
    pub first_there : until_fault (unfolding_of table (length tags - length fs) (path_of fs) at i
        ++ remaining_items table fs) ≡ Ok event ∷ rest → first_event (slice_get table i) ≡ Some event
    first_there is = by (slice_get table i) refl (list_any (nat_eq i) (path_of fs)) refl
      where
        by : (found : Option TableEntry) → slice_get table i ≡ found → (any : Bool)
            → list_any (nat_eq i) (path_of fs) ≡ any → first_event (slice_get table i) ≡ Some event
        by None none any a =
            let no = rw (items_beyond _ (path_of fs) at i none) at is in absurd (cc)
        by (Some entry) there true a =
            let no = rw (items_open _ (path_of fs) at i entry there a) at is in absurd (cc)
        by (Some entry) there false a =
            let below : i < length tags = rw (← len) (slice_get_within table i entry there) in
            rw there (first_named entry.object entry.place _ (remaining_items table fs) rest event
            (rw (entered tags len fs at i entry o below there a) at is))

-- ---- the number that falls with each step

-- fewer steps remain after a collection was opened than when it was about to be entered
pub start_falls : (n k : ℕ) (fs : List Frame) → length fs < n → k < 2 ^ 64
    → k * walk_steps (n - suc (length fs)) + 1 + walk_weight n fs
    < walk_weight n fs + walk_steps (n - length fs)
unfolding walk_steps
start_falls n k fs h small =
    let e : n - length fs ≡ suc (n - suc (length fs)) = omega arith in
    let le : k * walk_steps (n - suc (length fs))
    ≤ 2 ^ 64 * walk_steps (n - suc (length fs)) = mul-le-mul_right _
    (omega arith) in
    rw e (omega arith)

pub steps_positive : (k : ℕ) → 0 < walk_steps k
unfolding walk_steps
steps_positive zero = omega arith
steps_positive (suc k) = omega arith

pub reverse-push : (xs ys : List Frame) (f : Frame) → ys ≡ xs ++ f ∷ []
    → reverse ys ≡ f ∷ reverse xs
reverse-push xs ys f e = rw e (reverse-append xs _)

steps_more : (d k : ℕ) → walk_steps k ≤ walk_steps (k + d)
unfolding walk_steps
steps_more zero k = rw add-zero (omega arith)
steps_more (suc d) k =
    let more = steps_more d k in
    let e : k + suc d ≡ suc (k + d) = omega arith in
    rw e (omega arith)

pub steps_up : (a b : ℕ) → a ≤ b → walk_steps a ≤ walk_steps b
steps_up a b h = let e : b ≡ a + (b - a) = omega arith in rw e (steps_more _ a)

-- `OutOfMemory` is possible for a collection
pub refused_memory : (object : Object) (place : ℕ) (e : Error) (start : PlainEvent) (count : ℕ)
    → fault_of e ≡ fault_without_offset OutOfMemory → IsCollection object start count
    → IsRefusedAs object place e
refused_memory object place e start count memory collection =
    MatchFault-at _ _ _ _ _ (ap (λ (f : Fault). f.kind) memory)
    (grows_at-collection _ start count collection)
