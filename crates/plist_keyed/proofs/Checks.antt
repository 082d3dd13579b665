-- The walk that finds the first fault, over lists of events and of Uids: what remains of it, and what
-- is true before each step.
use Rattle.std.proofs.Common.{◌≡◌, ℕ, zero, suc, ◌+◌, ◌-◌, ◌*◌, ◌<◌, ◌≤◌, false, true≢false, nat_eq, inl, inr, List, [], ◌∷◌, ◌++◌, length, drop, Option, Some, None, Result, Ok, Err, refl, ap, sym, ◌∙◌, append_assoc, append-nil, arith, subst}
use Rattle.std.specs.Prelude.{slice_get, ◌⊎◌, ⊤}
use Rattle.std.specs.List.{IsDistinct, list_any}
use Rattle.std.specs.Option.{option_and_then, option_map_or}
use Rattle.std.proofs.lemmas.Bool.{false_from_ne_true}
use Rattle.std.proofs.lemmas.Bool.Decides.{eqb_tells}
use Rattle.std.proofs.lemmas.Option.{same_Some, slice_get_within}
use Rattle.plist_base.specs.Bracketing.{bracketing}
use Rattle.plist_base.specs.Events.{PlainEvent}
use Rattle.plist_base.specs.Trees.{Tree}
use Rattle.plist_base.proofs.Paths.{IsPath, any_none, path_fuel, path_none, path_push}
use Rattle.plist_keyed.specs.Archives.{ArchiveFault, resolved_tree}
use Rattle.plist_keyed.specs.inner.Walks.{AreSettled, IsIn, NameOnly, events_at, uid_of_event}
use Rattle.plist.specs.Accessors.{uid_in}
use Rattle.plist_keyed.proofs.Replaced.{Outcome, collected, events_in, join, join-assoc, join-nil, outcome}
use Rattle.plist_keyed.proofs.Settled.{AreApart, first-in, found_in, found-parts, later-in, named-append, named-more, named-outcome, opened_in, refused_in, resolved_in, settled-same, uid-events}

module _ (objects : List Tree) where
  -- ---- what remains

  -- the outcome of the remaining events of the levels, given the open Uids
  abbrev pub outcome_of : (levels : List (List PlainEvent)) → (path : List ℕ) → Outcome
  outcome_of [] path = Ok []
  outcome_of (events ∷ below) path =
      join (collected (resolved_in objects path) events) (outcome_of below (drop 1 path))

  -- more than the number of events of any object
  abbrev whole : List Tree → ℕ
  whole [] = 1
  whole (t ∷ ts) = suc (length (bracketing t)) + whole ts

  abbrev length_of : List (List PlainEvent) → ℕ
  length_of [] = 0
  length_of (events ∷ below) = suc (length events) + length_of below

  -- how far the walk is from its end
  abbrev pub distance : (uids : List ℕ) → (levels : List (List PlainEvent)) → (path : List ℕ) → ℕ
  distance uids levels path =
      (length objects - (length path + length uids)) * whole objects + length_of levels

  -- ---- what is true

  -- the events of each open object that don't remain name only Uids that are settled, or will be
  -- settled before that object's Uid
  abbrev pub AreRead : (uids : List ℕ) → (levels : List (List PlainEvent)) → (path : List ℕ)
      → Type 0
  AreRead uids [] [] = ⊤
  AreRead uids (rest ∷ below) (uid ∷ path) =
      ((object : Tree) × (before : List PlainEvent) × (slice_get objects uid ≡ Some object)
      × (bracketing object ≡ before ++ rest) × NameOnly before uids)
      × AreRead (uid ∷ uids) below path
  AreRead uids levels path = ⊥

  pub record IsCheck (start : ℕ) (end : ℕ → ℕ) (uids : List ℕ) (levels : List (List PlainEvent))
      (path : List ℕ) : Type 0 where
    pub settled : AreSettled objects end uids
    pub read : AreRead uids levels path
    pub open_now : IsPath (length objects) path
    pub apart : AreApart path uids
    pub reached : IsIn start uids ⊎ IsIn start path
    pub done : List PlainEvent
    pub given : events_in bracketing (resolved_tree objects start)
        ≡ join (Ok done) (outcome_of levels path)

  -- ---- the open Uids

  -- the innermost open Uid is settled
  path-pop : (uid : ℕ) (path : List ℕ) → IsPath (length objects) (uid ∷ path)
      → IsPath (length objects) path × (list_any (nat_eq uid) path ≡ false)
  unfolding IsDistinct
  path-pop uid path o = (
    record { distinct = o.distinct.1; below = λ n p. o.below n (later-in n uid path p) },
    any_none uid path o.distinct.0,
  )

  apart-moves : (uid : ℕ) (path uids : List ℕ) → list_any (nat_eq uid) path ≡ false
      → AreApart (uid ∷ path) uids → AreApart path (uid ∷ uids)
  apart-moves uid path uids off apart u p q = elim (eqb_tells u uid) [
    | inl e ↦ true≢false (sym (subst (λ m. IsIn m path) e.1 p) ∙ off)
    | inr e ↦ apart u (later-in u uid path p) (rw e.0 at q)
  ]

  settled-path : (end : ℕ → ℕ) (uids : List ℕ) → AreSettled objects end uids
      → IsPath (length objects) uids
  settled-path end [] s = path_none _
  settled-path end (uid ∷ uids) (r, s) =
      path_push uid (settled-path end uids s) (slice_get_within objects uid r.object r.found)
      (false_from_ne_true _ r.is_new)

  -- no more Uids are settled or open than there are objects
  all-count : (uids path : List ℕ) → IsPath (length objects) uids → IsPath (length objects) path
      → AreApart path uids → length path + length uids ≤ length objects
  all-count uids [] o p apart =
      let k : length uids ≤ length objects = path_fuel o in omega (arith, k)
  all-count uids (uid ∷ path) o p apart =
      let (q, off) = path-pop uid path p in
      let k = all-count (uid ∷ uids) path (path_push uid o (p.below uid (first-in uid path))
      (false_from_ne_true _ (apart uid (first-in uid path)))) q (apart-moves uid path uids off apart)
      in omega (arith, k)

  -- the open Uids may name more Uids
  read-more : (uids more : List ℕ) → ((u : ℕ) → IsIn u uids → IsIn u more)
      → (levels : List (List PlainEvent)) (path : List ℕ) → AreRead uids levels path
      → AreRead more levels path
  read-more uids more sub [] [] r = tt
  read-more uids more sub (rest ∷ below) (uid ∷ path) ((object, before, at, is, named), r) = (
    (object, before, at, is, named-more before uids more sub named),
    read-more (uid ∷ uids) (uid ∷ more) (λ u p. elim (eqb_tells u uid) [
      | inl e ↦ subst (λ m. IsIn m (uid ∷ more)) (sym e.1) (first-in uid more)
      | inr e ↦ later-in u uid more (sub u (rw e.0 at p))
    ]) below path r,
  )
  read-more uids more sub levels path r = absurd r

  -- an event that was taken precedes the remaining ones
  read-named : (uids : List ℕ) (e : PlainEvent) (rest : List PlainEvent)
      (below : List (List PlainEvent)) (path : List ℕ) → NameOnly (e ∷ []) uids
      → AreRead uids ((e ∷ rest) ∷ below) path → AreRead uids (rest ∷ below) path
  read-named uids e rest below (uid ∷ path) names ((object, before, at, is, named), r) = (
    (
      object,
      before ++ e ∷ [],
      at,
      is ∙ sym (append_assoc before (e ∷ []) rest),
      named-append before (e ∷ []) uids named names,
    ),
    r,
  )
  read-named uids e rest below [] names r = absurd r

  -- a Uid that was taken will be settled before the open ones
  pub read-passed : (uids : List ℕ) (e : PlainEvent) (n : ℕ) (rest : List PlainEvent)
      (below : List (List PlainEvent)) (path : List ℕ) → uid_of_event e ≡ Some n
      → AreRead uids ((e ∷ rest) ∷ below) path → AreRead (n ∷ uids) (rest ∷ below) path
  read-passed uids e n rest below path is r =
      read-named (n ∷ uids) e rest below path
      ((λ u p. subst (λ m. IsIn m (n ∷ uids)) (same_Some n u (sym is ∙ p)) (first-in n uids)), tt)
      (read-more uids (n ∷ uids) (λ u p. later-in u n uids p) ((e ∷ rest) ∷ below) path r)

  -- ---- the ends of chains

  end-kept : (end other : ℕ → ℕ) (object : Tree) (uids : List ℕ) (uid : ℕ)
      → NameOnly (bracketing object) uids → ((u : ℕ) → IsIn u uids → other u ≡ end u)
      → option_map_or end (uid_in object) uid
      ≡ option_map_or other (uid_in object) uid
  end-kept end other object uids uid named kept = by (uid_in object) refl
    where
      by : (found : Option ℕ) → uid_in object ≡ found
          → option_map_or end found uid ≡ option_map_or other found uid
      by None is = refl
      by (Some next) is =
          sym (kept next ((subst (λ es. NameOnly es uids) (uid-events object next is) named).0 next
          refl))

  settled-kept : (end other : ℕ → ℕ) (uids : List ℕ)
      → ((u : ℕ) → IsIn u uids → other u ≡ end u) → AreSettled objects end uids
      → AreSettled objects other uids
  settled-kept end other [] kept s = tt
  settled-kept end other (uid ∷ uids) kept (r, s) =
      let below : (u : ℕ) → IsIn u uids → other u ≡ end u =
      (λ u p. kept u (later-in u uid uids p)) in (
        record {
          object = r.object;
          found = r.found;
          is_new = r.is_new;
          leads = r.leads;
          same_end = kept uid (first-in uid uids) ∙ r.same_end
              ∙ end-kept end other r.object uids uid r.leads below;
        },
        settled-kept end other uids below s,
      )

  -- ---- the steps

  module _ (start : ℕ) (end : ℕ → ℕ) (uids : List ℕ) where
    -- the first event is taken
    pub takes : (e : PlainEvent) (rest : List PlainEvent) (below : List (List PlainEvent))
        (path : List ℕ) → outcome_of ((e ∷ rest) ∷ below) path
        ≡ join (outcome (resolved_in objects path) e) (outcome_of (rest ∷ below) path)
    takes e rest below path =
        join-assoc (outcome (resolved_in objects path) e)
        (collected (resolved_in objects path) rest) (outcome_of below (drop 1 path))

    -- an event that isn't a Uid, or is a settled one
    pub passes : (e : PlainEvent) (rest : List PlainEvent) (below : List (List PlainEvent))
        (path : List ℕ) → NameOnly (e ∷ []) uids
        → IsCheck start end uids ((e ∷ rest) ∷ below) path
        → IsCheck start end uids (rest ∷ below) path
    passes e rest below path names o =
        let others = outcome_of (rest ∷ below) path in
        let es = option_map_or (events_at objects) (uid_of_event e) (e ∷ []) in
        let is : outcome (resolved_in objects path) e ≡ Ok es =
        named-outcome objects (resolved_in objects path) e uids names.0 (λ u p.
        settled-same objects end uids o.settled u p path o.open_now o.apart) in
        record {
          settled = o.settled;
          read = read-named uids e rest below path names o.read;
          open_now = o.open_now;
          apart = o.apart;
          reached = o.reached;
          done = o.done ++ es;
          given = o.given ∙ ap (join (Ok o.done)) (takes e rest below path
              ∙ ap (λ r. join r others) is) ∙ sym (join-assoc (Ok o.done) (Ok es) others);
        }

    of-uid : (e : PlainEvent) (path : List ℕ) (n : ℕ) → uid_of_event e ≡ Some n
        → outcome (resolved_in objects path) e ≡ events_in bracketing (resolved_in objects path n)
    of-uid e path n is =
        ap (λ found. option_map_or (λ u. events_in bracketing (resolved_in objects path u)) found
        (Ok (e ∷ []))) is

    -- a Uid whose object isn't found
    pub refuses : (e : PlainEvent) (levels : List (List PlainEvent)) (path : List ℕ)
        (done : List PlainEvent) (n : ℕ) (fault : ArchiveFault)
        → events_in bracketing (resolved_tree objects start)
        ≡ join (Ok done) (join (outcome (resolved_in objects path) e) (outcome_of levels path))
        → uid_of_event e ≡ Some n → found_in objects path n ≡ Err fault
        → resolved_tree objects start ≡ Err fault
    refuses e levels path done n fault given is found =
        by (resolved_tree objects start) (given ∙ ap (λ r. join (Ok done) (join r
        (outcome_of levels path))) (of-uid e path n is
        ∙ ap (events_in bracketing) (refused_in objects path n fault found)))
      where
        by : (r : Result Tree ArchiveFault) → events_in bracketing r ≡ Err fault → r ≡ Err fault
        by (Ok t) p = absurd (cc)
        by (Err other) p = cc

    -- an object is opened
    pub opens : (e : PlainEvent) (levels : List (List PlainEvent)) (path : List ℕ)
        (done : List PlainEvent) (n : ℕ) (object : Tree) → AreSettled objects end uids
        → AreRead (n ∷ uids) levels path → IsPath (length objects) path → AreApart path uids
        → (IsIn n uids → ⊥)
        → events_in bracketing (resolved_tree objects start)
        ≡ join (Ok done) (join (outcome (resolved_in objects path) e) (outcome_of levels path))
        → uid_of_event e ≡ Some n → found_in objects path n ≡ Ok object
        → (IsIn start uids ⊎ IsIn start (n ∷ path))
        → IsCheck start end uids (bracketing object ∷ levels) (n ∷ path)
    opens e levels path done n object s r opened apart new given is found reached =
        let (at, off) = found-parts (slice_get objects n) _ n object found in
        record {
          settled = s;
          read = ((object, [], at, refl, tt), r);
          open_now = path_push n opened (slice_get_within objects n object at) off;
          apart = λ u p q. elim (eqb_tells u n) [
            | inl e ↦ new (subst (λ m. IsIn m uids) e.1 q)
            | inr e ↦ apart u (rw e.0 at p) q
          ];
          reached = reached;
          done = done;
          given = given ∙ ap (λ a. join (Ok done) (join a (outcome_of levels path)))
              (of-uid e path n is ∙ opened_in objects path n object opened found);
        }

    -- the innermost object is left
    pub leaves : (other : ℕ → ℕ) (uid : ℕ) (below : List (List PlainEvent)) (path : List ℕ)
        → other uid ≡ option_map_or end (option_and_then uid_in (slice_get objects uid)) uid
        → ((u : ℕ) → IsIn u uids → other u ≡ end u)
        → IsCheck start end uids ([] ∷ below) (uid ∷ path)
        → IsCheck start other (uid ∷ uids) below path
    leaves other uid below path ends kept o =
        let ((object, before, at, all, named), r) = o.read in
        let (opened, off) = path-pop uid path o.open_now in
        let whole_named : NameOnly (bracketing object) uids =
        subst (λ es. NameOnly es uids) (sym (all ∙ append-nil before)) named in
        let own : other uid ≡ option_map_or other (uid_in object) uid =
        ends ∙ ap (λ f. option_map_or end (option_and_then uid_in f) uid) at
        ∙ end-kept end other object uids uid whole_named kept in
        record {
          settled = (
            record {
              object = object;
              found = at;
              is_new = o.apart uid (first-in uid path);
              leads = whole_named;
              same_end = own;
            },
            settled-kept end other uids kept o.settled,
          );
          read = r;
          open_now = opened;
          apart = apart-moves uid path uids off o.apart;
          reached = elim o.reached [
            | inl p ↦ inl (later-in start uid uids p)
            | inr p ↦ elim (eqb_tells start uid) [
              | inl e ↦ inl (subst (λ m. IsIn m (uid ∷ uids)) (sym e.1) (first-in uid uids))
              | inr e ↦ inr (rw e.0 at p)
            ]
          ];
          done = o.done;
          given = o.given ∙ ap (join (Ok o.done)) (join-nil (outcome_of below path));
        }

    -- ---- distances

    pub passes-nearer : (e : PlainEvent) (rest : List PlainEvent)
        (below : List (List PlainEvent)) (path : List ℕ)
        → distance uids (rest ∷ below) path < distance uids ((e ∷ rest) ∷ below) path
    passes-nearer e rest below path = omega arith

    whole-some : (ts : List Tree) → 0 < whole ts
    whole-some [] = omega arith
    whole-some (t ∷ ts) = omega arith

    within-whole : (ts : List Tree) (n : ℕ) (t : Tree) → slice_get ts n ≡ Some t
        → suc (length (bracketing t)) < whole ts
    within-whole [] n t at = absurd (cc)
    within-whole (x ∷ ts) zero t at =
        let e : x ≡ t = cc in rw e (omega (arith, whole-some ts))
    within-whole (x ∷ ts) (suc n) t at = omega (arith, within-whole ts n t at)

    pub opens-nearer : (e : PlainEvent) (rest : List PlainEvent)
        (below : List (List PlainEvent)) (path : List ℕ) (n : ℕ) (object : Tree)
        → IsCheck start end uids (bracketing object ∷ rest ∷ below) (n ∷ path)
        → slice_get objects n ≡ Some object
        → distance uids (bracketing object ∷ rest ∷ below) (n ∷ path)
        < distance uids ((e ∷ rest) ∷ below) path
    opens-nearer e rest below path n object o at =
        let k = length objects - (suc (length path) + length uids) in
        let fits = all-count uids (n ∷ path) (settled-path end uids o.settled) o.open_now o.apart in
        let one : length objects - (length path + length uids) ≡ suc k = omega (arith, fits) in
        let bound = within-whole objects n object at in
        rw one (omega (arith, bound))
