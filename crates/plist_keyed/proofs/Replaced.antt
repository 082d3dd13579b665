-- The events of a tree in which each Uid is replaced are those of the tree, with the events of each
-- Uid's own tree in its place; or there is a fault, which is the first one among the events.
use Rattle.std.proofs.Common.{◌≡◌, ℕ, ◌+◌, List, [], ◌∷◌, ◌++◌, Some, Result, Ok, Err, IfOk, refl, sym, ap, ◌∙◌, append_assoc, append-nil}
use Rattle.std.specs.Option.{option_map_or}
use Rattle.plist_base.specs.Events.{PlainEvent, StartArray, StartDictionary, EndCollection, ScalarEvent}
use Rattle.plist_base.specs.Trees as trees
use Rattle.plist_base.specs.Trees.{Tree, Leaf, Array, Dictionary, Trees, NoTrees, TreeAnd, Members, NoMembers, MemberAnd, number_of_trees, number_of_members}
use Rattle.plist_base.specs.Bracketing.{bracketing, bracketing_of_items, bracketing_of_pairs}
use Rattle.plist_keyed.specs.Archives.{ArchiveFault, and_then, replaced, replaced_items, replaced_pairs}
use Rattle.plist_keyed.specs.inner.Walks.{uid_of_event}

-- events, or a fault
abbrev pub Outcome : Type 0
Outcome = Result (List PlainEvent) ArchiveFault

-- the events of both, or the first fault
abbrev pub join : Outcome → Outcome → Outcome
join (Ok es) (Ok more) = Ok (es ++ more)
join (Ok es) (Err fault) = Err fault
join (Err fault) more = Err fault

pub join-nil : (a : Outcome) → join (Ok []) a ≡ a
join-nil (Ok es) = refl
join-nil (Err fault) = refl

pub join-none : (a : Outcome) → join a (Ok []) ≡ a
join-none (Ok es) = ap Ok (append-nil es)
join-none (Err fault) = refl

pub join-assoc : (a b c : Outcome) → join (join a b) c ≡ join a (join b c)
join-assoc (Ok a) (Ok b) (Ok c) = ap Ok (append_assoc a b c)
join-assoc (Ok a) (Ok b) (Err fault) = refl
join-assoc (Ok a) (Err fault) c = refl
join-assoc (Err fault) b c = refl

-- the events of a tree, if there is one
abbrev pub events_in : {W : Type 0} → (events : W → List PlainEvent) → Result W ArchiveFault
    → Outcome
events_in events (Ok whole) = Ok (events whole)
events_in events (Err fault) = Err fault

module _ (follow : ℕ → Result Tree ArchiveFault) where
  -- the event, or the events of the tree of the Uid that it is
  abbrev pub outcome : PlainEvent → Outcome
  outcome event =
      option_map_or (λ uid. events_in bracketing (follow uid)) (uid_of_event event)
      (Ok (event ∷ []))

  -- the events, in which each Uid is replaced, or the first fault
  abbrev pub collected : List PlainEvent → Outcome
  collected [] = Ok []
  collected (event ∷ events) = join (outcome event) (collected events)

  collected-append : (a b : List PlainEvent)
      → collected (a ++ b) ≡ join (collected a) (collected b)
  collected-append [] b = sym (join-nil (collected b))
  collected-append (e ∷ a) b =
      ap (join (outcome e)) (collected-append a b)
      ∙ sym (join-assoc (outcome e) (collected a) (collected b))

  -- ---- collections

  of-array : (n : ℕ) (r : Result Trees ArchiveFault) → IfOk r (λ us. number_of_trees us ≡ n)
      → join (Ok (StartArray (Some n) ∷ []))
      (join (events_in bracketing_of_items r) (Ok (EndCollection ∷ [])))
      ≡ events_in bracketing (and_then r (λ us. Ok (Array us)))
  of-array n (Ok us) h =
      ap (λ m. Ok (StartArray (Some m) ∷ (bracketing_of_items us ++ EndCollection ∷ []))) (sym h)
  of-array n (Err fault) h = refl

  of-dictionary : (n : ℕ) (r : Result Members ArchiveFault)
      → IfOk r (λ ns. number_of_members ns ≡ n)
      → join (Ok (StartDictionary (Some n) ∷ []))
      (join (events_in bracketing_of_pairs r) (Ok (EndCollection ∷ [])))
      ≡ events_in bracketing (and_then r (λ ns. Ok (Dictionary ns)))
  of-dictionary n (Ok ns) h =
      ap (λ m. Ok (StartDictionary (Some m) ∷ (bracketing_of_pairs ns ++ EndCollection ∷ [])))
      (sym h)
  of-dictionary n (Err fault) h = refl

  -- one more item is replaced, and the items are as many as before
  of-items : (first : Result Tree ArchiveFault) (others : Result Trees ArchiveFault) (n : ℕ)
      → IfOk others (λ us. number_of_trees us ≡ n)
      → (join (events_in bracketing first) (events_in bracketing_of_items others)
      ≡ events_in bracketing_of_items
      (and_then first (λ u. and_then others (λ us. Ok (TreeAnd u us)))))
      × IfOk (and_then first (λ u. and_then others (λ us. Ok (TreeAnd u us))))
      (λ us. number_of_trees us ≡ 1 + n)
  of-items (Ok u) (Ok us) n h = (refl, ap (λ m. 1 + m) h)
  of-items (Ok u) (Err fault) n h = (refl, tt)
  of-items (Err fault) others n h = (refl, tt)

  of-pairs : (key : List ℕ) (first : Result Tree ArchiveFault)
      (others : Result Members ArchiveFault) (n : ℕ)
      → IfOk others (λ ns. number_of_members ns ≡ n)
      → (join (Ok (ScalarEvent (trees.String key) ∷ []))
      (join (events_in bracketing first) (events_in bracketing_of_pairs others))
      ≡ events_in bracketing_of_pairs
      (and_then first (λ u. and_then others (λ ns. Ok (MemberAnd key u ns)))))
      × IfOk (and_then first (λ u. and_then others (λ ns. Ok (MemberAnd key u ns))))
      (λ ns. number_of_members ns ≡ 1 + n)
  of-pairs key (Ok u) (Ok ns) n h = (refl, ap (λ m. 1 + m) h)
  of-pairs key (Ok u) (Err fault) n h = (refl, tt)
  of-pairs key (Err fault) others n h = (refl, tt)

  -- ---- the whole tree

  mutual
    pub tree-collects : (t : Tree)
        → collected (bracketing t) ≡ events_in bracketing (replaced follow t)
    tree-collects (Leaf (trees.Uid uid)) = join-none (events_in bracketing (follow uid))
    tree-collects (Leaf x) = refl
    tree-collects (Array ts) =
        let (same, many) = items-collect ts in
        rw (collected-append (bracketing_of_items ts) (EndCollection ∷ []), same)
        (of-array (number_of_trees ts) (replaced_items follow ts) many)
    tree-collects (Dictionary ms) =
        let (same, many) = pairs-collect ms in
        rw (collected-append (bracketing_of_pairs ms) (EndCollection ∷ []), same)
        (of-dictionary (number_of_members ms) (replaced_pairs follow ms) many)

    items-collect : (ts : Trees) → (collected (bracketing_of_items ts)
        ≡ events_in bracketing_of_items (replaced_items follow ts))
        × IfOk (replaced_items follow ts) (λ us. number_of_trees us ≡ number_of_trees ts)
    items-collect NoTrees = (refl, refl)
    items-collect (TreeAnd t ts) =
        let (same, many) = items-collect ts in
        let of = of-items (replaced follow t) (replaced_items follow ts) _ many in (
          rw (collected-append (bracketing t) (bracketing_of_items ts), tree-collects t, same) of.0,
          of.1,
        )

    pairs-collect : (ms : Members) → (collected (bracketing_of_pairs ms)
        ≡ events_in bracketing_of_pairs (replaced_pairs follow ms))
        × IfOk (replaced_pairs follow ms) (λ ns. number_of_members ns ≡ number_of_members ms)
    pairs-collect NoMembers = (refl, refl)
    pairs-collect (MemberAnd k t ms) =
        let (same, many) = pairs-collect ms in
        let of = of-pairs k (replaced follow t) (replaced_pairs follow ms) _ many in (
          rw (collected-append (bracketing t) (bracketing_of_pairs ms), tree-collects t, same) of.0,
          of.1,
        )
