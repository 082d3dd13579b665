-- The trees of settled Uids, which don't depend on the open objects.
use Rattle.std.proofs.Common.{◌≡◌, ℕ, zero, suc, ◌-◌, Bool, true, false, nat_eq, inl, inr, List, [], ◌∷◌, ◌++◌, length, Option, Some, None, Result, Ok, Err, refl, ap, sym, ◌∙◌, append-nil, arith, subst}
use Rattle.std.specs.Prelude.{slice_get}
use Rattle.std.specs.List.{list_any}
use Rattle.std.specs.Option.{option_map_or}
use Rattle.std.specs.Result.{result_ok}
use Rattle.std.proofs.lemmas.Bool.{eq-eqb, false_from_ne_true, or_left, or_right}
use Rattle.std.proofs.lemmas.Bool.Decides.{eqb_tells}
use Rattle.std.proofs.lemmas.Option.{slice_get_within}
use Rattle.plist_base.specs.Bracketing.{bracketing}
use Rattle.plist_base.specs.Events.{PlainEvent, ScalarEvent}
use Rattle.plist_base.specs.Trees.{Tree, Leaf, Uid}
use Rattle.plist_base.proofs.Paths.{IsPath, path_none, path_push, path_rises}
use Rattle.plist_keyed.specs.Archives.{ArchiveFault, and_then, object_found, replaced, resolved, resolved_tree}
use Rattle.plist_keyed.specs.inner.Walks.{AreSettled, IsIn, IsSettledAfter, NameOnly, events_at, replaced_events, uid_of_event}
use Rattle.plist.specs.Accessors.{uid_in}
use Rattle.plist_keyed.proofs.Replaced.{collected, events_in, outcome, tree-collects}

-- ---- Uids and events

-- no Uid is in both
abbrev pub AreApart : (left right : List ℕ) → Type 0
AreApart left right = (uid : ℕ) → IsIn uid left → IsIn uid right → ⊥

pub first-in : (uid : ℕ) (uids : List ℕ) → IsIn uid (uid ∷ uids)
first-in uid uids = or_left _ _ (eq-eqb uid uid refl)

pub later-in : (uid other : ℕ) (uids : List ℕ) → IsIn uid uids → IsIn uid (other ∷ uids)
later-in uid other uids p = or_right (nat_eq uid other) _ p

pub named-more : (es : List PlainEvent) (uids more : List ℕ)
    → ((uid : ℕ) → IsIn uid uids → IsIn uid more) → NameOnly es uids → NameOnly es more
named-more [] uids more h named = tt
named-more (e ∷ es) uids more h named =
    (λ u is. h u (named.0 u is), named-more es uids more h named.1)

pub named-append : (before after : List PlainEvent) (uids : List ℕ) → NameOnly before uids
    → NameOnly after uids → NameOnly (before ++ after) uids
named-append [] after uids h g = g
named-append (e ∷ before) after uids h g = (h.0, named-append before after uids h.1 g)

-- the events of a tree that is a Uid are that Uid
pub uid-events : (t : Tree) (uid : ℕ) → uid_in t ≡ Some uid
    → bracketing t ≡ ScalarEvent (Uid uid) ∷ []
uid-events (Leaf (Uid n)) uid h =
    let e : n ≡ uid = cc in ap (λ m. ScalarEvent (Uid m) ∷ []) e
uid-events t uid h = absurd (cc)

-- ---- finding an object

pub found-parts : (found : Option Tree) (is_open : Bool) (uid : ℕ) (object : Tree)
    → object_found found is_open uid ≡ Ok object → (found ≡ Some object) × (is_open ≡ false)
found-parts None is_open uid object h = absurd (cc)
found-parts (Some t) true uid object h = absurd (cc)
found-parts (Some t) false uid object h = (cc, refl)

refused-open : (found : Option Tree) (is_open : Bool) (uid : ℕ) (fault : ArchiveFault)
    → object_found found is_open uid ≡ Err fault → object_found found true uid ≡ Err fault
refused-open None is_open uid fault h = h
refused-open (Some t) true uid fault h = h
refused-open (Some t) false uid fault h = absurd (cc)

module _ (objects : List Tree) where
  -- the tree of a Uid while the objects on the path are open
  abbrev pub resolved_in : (path : List ℕ) → (uid : ℕ) → Result Tree ArchiveFault
  resolved_in path uid = resolved objects (length objects - length path) path uid

  -- the object of a Uid, unless it is open
  abbrev pub found_in : (path : List ℕ) → (uid : ℕ) → Result Tree ArchiveFault
  found_in path uid = object_found (slice_get objects uid) (list_any (nat_eq uid) path) uid

  pub from-top : (uid : ℕ) → resolved_in [] uid ≡ resolved_tree objects uid
  from-top uid =
      let e : length objects - 0 ≡ length objects = omega arith in
      ap (λ n. resolved objects n [] uid) e

  refused_at : (fuel : ℕ) (path : List ℕ) (uid : ℕ) (fault : ArchiveFault)
      → found_in path uid ≡ Err fault → resolved objects fuel path uid ≡ Err fault
  unfolding resolved
  refused_at zero path uid fault h =
      refused-open (slice_get objects uid) (list_any (nat_eq uid) path) uid fault h
  refused_at (suc fuel) path uid fault h =
      ap (λ r. and_then r (replaced (resolved objects fuel (uid ∷ path)))) h

  -- an object that isn't found has no tree
  pub refused_in : (path : List ℕ) (uid : ℕ) (fault : ArchiveFault)
      → found_in path uid ≡ Err fault → resolved_in path uid ≡ Err fault
  refused_in path uid fault h = refused_at (length objects - length path) path uid fault h

  opened_at : (fuel : ℕ) (path : List ℕ) (uid : ℕ) (object : Tree)
      → found_in path uid ≡ Ok object
      → resolved objects (suc fuel) path uid ≡ replaced (resolved objects fuel (uid ∷ path)) object
  unfolding resolved
  opened_at fuel path uid object h =
      ap (λ r. and_then r (replaced (resolved objects fuel (uid ∷ path)))) h

  -- the tree of an object that is found is the object, in which each Uid is replaced
  pub opened_in : (path : List ℕ) (uid : ℕ) (object : Tree) → IsPath (length objects) path
      → found_in path uid ≡ Ok object
      → events_in bracketing (resolved_in path uid)
      ≡ collected (resolved_in (uid ∷ path)) (bracketing object)
  opened_in path uid object o h =
      let (at, new) = found-parts (slice_get objects uid) _ uid object h in
      let fuel = length objects - suc (length path) in
      let fits = path_rises uid o (slice_get_within objects uid object at) new in
      let e : length objects - length path ≡ suc fuel = omega (arith, fits) in
      rw (e, opened_at fuel path uid object h)
      (sym (tree-collects (resolved_in (uid ∷ path)) object))

  -- ---- events that name settled Uids only

  pub named-outcome : (follow : ℕ → Result Tree ArchiveFault) (e : PlainEvent) (uids : List ℕ)
      → ((uid : ℕ) → uid_of_event e ≡ Some uid → IsIn uid uids)
      → ((uid : ℕ) → IsIn uid uids
      → events_in bracketing (follow uid) ≡ Ok (events_at objects uid))
      → outcome follow e ≡ Ok (option_map_or (events_at objects) (uid_of_event e) (e ∷ []))
  named-outcome follow e uids h each = by (uid_of_event e) h
    where
      by : (found : Option ℕ) → ((uid : ℕ) → found ≡ Some uid → IsIn uid uids)
          → option_map_or (λ uid. events_in bracketing (follow uid)) found (Ok (e ∷ []))
          ≡ Ok (option_map_or (events_at objects) found (e ∷ []))
      by None g = refl
      by (Some uid) g = each uid (g uid refl)

  pub named-collects : (follow : ℕ → Result Tree ArchiveFault) (es : List PlainEvent)
      (uids : List ℕ) → NameOnly es uids
      → ((uid : ℕ) → IsIn uid uids
      → events_in bracketing (follow uid) ≡ Ok (events_at objects uid))
      → collected follow es ≡ Ok (replaced_events objects es)
  named-collects follow [] uids h each = refl
  named-collects follow (e ∷ es) uids h each =
      rw (named-outcome follow e uids h.0 each, named-collects follow es uids h.1 each) refl

  -- ---- settled Uids

  -- the trees of these Uids have the same events, whatever other objects are open
  abbrev HaveEvents : (uids : List ℕ) → Type 0
  HaveEvents uids =
      (uid : ℕ) → IsIn uid uids → (path : List ℕ) → IsPath (length objects) path
      → AreApart path uids
      → events_in bracketing (resolved_in path uid) ≡ Ok (events_at objects uid)

  module _ (end : ℕ → ℕ) where
    opens : (uid : ℕ) (uids path : List ℕ) (r : IsSettledAfter objects end uids uid)
        → HaveEvents uids → IsPath (length objects) path → AreApart path (uid ∷ uids)
        → events_in bracketing (resolved_in path uid)
        ≡ Ok (replaced_events objects (bracketing r.object))
    opens uid uids path r same o apart =
        let closed = false_from_ne_true _ (λ p. apart uid p (first-in uid uids)) in
        let within = slice_get_within objects uid r.object r.found in
        opened_in path uid r.object o (rw (r.found, closed) refl)
        ∙ named-collects (resolved_in (uid ∷ path)) (bracketing r.object) uids r.leads
        (λ other p. same other p (uid ∷ path) (path_push uid o within closed) (λ u q k.
        elim (eqb_tells u uid) [
          | inl e ↦ r.is_new (subst (λ n. IsIn n uids) e.1 k)
          | inr e ↦ apart u (rw e.0 at q) (later-in u uid uids k)
        ]))

    top-events : (uid : ℕ) (uids : List ℕ) (r : IsSettledAfter objects end uids uid)
        → HaveEvents uids → replaced_events objects (bracketing r.object) ≡ events_at objects uid
    top-events uid uids r same =
        by (resolved_tree objects uid) (ap (events_in bracketing) (sym (from-top uid))
        ∙ opens uid uids [] r same (path_none _) (λ u p q. absurd (cc)))
      where
        by : {es : List PlainEvent} (t : Result Tree ArchiveFault) → events_in bracketing t ≡ Ok es
            → es ≡ option_map_or bracketing (result_ok t) []
        by (Ok t) p = cc
        by (Err fault) p = absurd (cc)

    pub settled-same : (uids : List ℕ) → AreSettled objects end uids → HaveEvents uids
    settled-same [] s uid member path o apart = absurd (cc)
    settled-same (first ∷ uids) (r, s) uid member path o apart =
        let same = settled-same uids s in
        elim (eqb_tells uid first) [
          | inl e ↦ rw e.1
              (opens first uids path r same o apart ∙ ap Ok (top-events first uids r same))
          | inr e ↦ same uid (rw e.0 at member) path o
              (λ u p q. apart u p (later-in u first uids q))
        ]

    -- what is known of the object at the end of a settled Uid's chain
    abbrev pub IsEndOf : (uids : List ℕ) → (uid : ℕ) → Type 0
    IsEndOf uids uid =
        (object : Tree) × (slice_get objects (end uid) ≡ Some object)
        × NameOnly (bracketing object) uids × (uid_in object ≡ None)
        × (events_at objects uid ≡ replaced_events objects (bracketing object))

    more-ends : (uids : List ℕ) (uid other : ℕ) → IsEndOf uids uid → IsEndOf (other ∷ uids) uid
    more-ends uids uid other (object, at, named, plain, is) = (
      object,
      at,
      named-more (bracketing object) uids (other ∷ uids)
          (λ u p. later-in u other uids p) named,
      plain,
      is,
    )

    -- a Uid whose object is another Uid has the end of that one
    next-end : (uids : List ℕ) (uid next : ℕ) (object : Tree) → uid_in object ≡ Some next
        → end uid ≡ end next → events_at objects uid ≡ replaced_events objects (bracketing object)
        → IsEndOf uids next → IsEndOf uids uid
    next-end uids uid next object is ends events (other, at, named, plain, same) = (
      other,
      ap (slice_get objects) ends ∙ at,
      named,
      plain,
      events ∙ ap (replaced_events objects) (uid-events object next is)
          ∙ append-nil (events_at objects next) ∙ same,
    )

    pub settled-end : (uids : List ℕ) → AreSettled objects end uids → (uid : ℕ) → IsIn uid uids
        → IsEndOf uids uid
    settled-end [] s uid member = absurd (cc)
    settled-end (first ∷ uids) (r, s) uid member =
        elim (eqb_tells uid first) [
          | inl e ↦ subst (IsEndOf (first ∷ uids)) (sym e.1) (by (settled-end uids s)
              (uid_in r.object) refl (sym (top-events first uids r (settled-same uids s))))
          | inr e ↦ more-ends uids uid first (settled-end uids s uid (rw e.0 at member))
        ]
      where
        by : ((n : ℕ) → IsIn n uids → IsEndOf uids n) → (found : Option ℕ)
            → uid_in r.object ≡ found
            → events_at objects first ≡ replaced_events objects (bracketing r.object)
            → IsEndOf (first ∷ uids) first
        by below None is events =
            let own : end first ≡ first =
            r.same_end ∙ ap (λ f. option_map_or end f first) is in (
              r.object,
              ap (slice_get objects) own ∙ r.found,
              named-more (bracketing r.object) uids (first ∷ uids) (λ u p. later-in u first uids p)
                  r.leads,
              is,
              events,
            )
        by below (Some next) is events =
            let next_in : IsIn next uids =
            (subst (λ es. NameOnly es uids) (uid-events r.object next is) r.leads).0 next refl in
            more-ends uids first first (next-end uids first next r.object is
            (r.same_end ∙ ap (λ f. option_map_or end f first) is) events (below next next_in))
