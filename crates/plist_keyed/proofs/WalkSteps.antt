-- The events that remain of the walk that yields them, after each kind of step.
use Rattle.std.proofs.Common.{◌≡◌, ℕ, ◌<◌, List, [], ◌∷◌, ◌++◌, length, map, reverse, Option, Some, None, Result, Ok, Err, OnErr, true, true≢false, ap, sym, ◌∙◌, append-nil, arith, subst}
use Rattle.std.specs.Prelude.{slice_get}
use Rattle.std.specs.Iterator.{MakesProgress, at_most}
use Rattle.std.specs.List.{flat_map}
use Rattle.std.specs.Result.{is_err}
use Rattle.std.specs.Option.{option_map_or}
use Rattle.std.proofs.lemmas.List.{length-append, length-map}
use Rattle.std.proofs.lemmas.List.Concat.{flat_map-append}
use Rattle.std.proofs.lemmas.Option.{same_Some, slice_get_within}
use Rattle.plist_base.specs.Bracketing.{bracketing}
use Rattle.plist_base.specs.Events.{PlainEvent, ScalarEvent}
use Rattle.plist_base.specs.Trees.{Tree, Leaf, Array, Dictionary}
use Rattle.plist.specs.declared.stream.events.Events.{Events}
use Rattle.plist.specs.declared.value.Value.{Value}
use Rattle.plist.specs.Events.{remaining_events}
use Rattle.plist.specs.ValueTrees.{tree_of}
use Rattle.plist_keyed.specs.declared.state.ArchiveWalk.{ArchiveWalk}
use Rattle.plist_keyed.specs.inner.Walks.{AreSettled, IsIn, IsWalk, NameOnly, end_in, events_at, events_left, events_in_levels, objects_in, replaced_events, settled_in, uid_of_event}
use Rattle.plist.specs.Accessors.{uid_in}
use Rattle.plist_base.proofs.Paths.{path_none}
use Rattle.plist_keyed.specs.Archives.{resolved_tree}
use Rattle.plist_keyed.proofs.Replaced.{events_in}
use Rattle.plist_keyed.proofs.Settled.{IsEndOf, from-top, named-append, settled-end, settled-same}
use Rattle.plist_keyed.proofs.StoredChecks.{reverse-snoc}

module _ (objects : List Tree) where
  -- the first event, or the events of the Uid that it is, precede the others
  replaced-first : (e : PlainEvent) (es : List PlainEvent) (found : Option ℕ)
      → uid_of_event e ≡ found → replaced_events objects (e ∷ es)
      ≡ option_map_or (events_at objects) found (e ∷ []) ++ replaced_events objects es
  replaced-first e es found is =
      ap (λ f. option_map_or (events_at objects) f (e ∷ []) ++ replaced_events objects es) is

  -- a tree that isn't a Uid has events
  tree-some : (t : Tree) → uid_in t ≡ None → 0 < length (replaced_events objects (bracketing t))
  tree-some (Leaf x) plain = rw (replaced-first (ScalarEvent x) [] None plain) (omega arith)
  tree-some (Array ts) plain = omega arith
  tree-some (Dictionary ms) plain = omega arith

  -- a settled Uid has events
  end-some : (end : ℕ → ℕ) (uids : List ℕ) (uid : ℕ) → IsEndOf objects end uids uid
      → 0 < length (events_at objects uid)
  end-some end uids uid (object, at, named, plain, is) = rw is (tree-some object plain)

-- an index that has a tree has an object
pub seen-within : (objects : List Value) (n : ℕ) (t : Tree)
    → slice_get (map tree_of objects) n ≡ Some t → n < length objects
seen-within objects n t at =
    let k = slice_get_within (map tree_of objects) n t at in
    omega (arith, k, length-map objects tree_of)

-- the innermost object's events remain before the others
pub within-snoc : (below : List Events) (level : Events)
    → flat_map remaining_events (reverse (below ++ level ∷ []))
    ≡ remaining_events level ++ flat_map remaining_events (reverse below)
within-snoc below level = ap (flat_map remaining_events) (reverse-snoc below level)

-- 2 if the next event is a Uid, whose object is entered, and otherwise 0
abbrev pub steps_to_enter : List PlainEvent → ℕ
steps_to_enter [] = 0
steps_to_enter (e ∷ es) = option_map_or (λ uid. 2) (uid_of_event e) 0

-- the object at the end of a settled Uid's chain is entered
module _ (walk : ArchiveWalk) (uid : ℕ) (o : IsWalk walk)
    (has : IsIn uid (settled_in walk.ends)) where
  pub end-of : IsEndOf (objects_in walk) (end_in walk.ends) (settled_in walk.ends) uid
  end-of = settled-end (objects_in walk) (end_in walk.ends) (settled_in walk.ends) o.0 uid has

  pub enters : (items : List Events) (level : Events) (object : Tree)
      → slice_get (objects_in walk) (end_in walk.ends uid) ≡ Some object
      → items ≡ walk.levels.items ++ level ∷ [] → remaining_events level ≡ bracketing object
      → (replaced_events (objects_in walk) (flat_map remaining_events (reverse items))
      ≡ events_at (objects_in walk) uid ++ events_left walk)
      × (flat_map remaining_events (reverse items) ≡ bracketing object ++ events_in_levels walk)
      × NameOnly (flat_map remaining_events (reverse items)) (settled_in walk.ends)
      × (uid_in object ≡ None)
  enters items level object at is all =
      let (other, found, named, plain, same) = end-of in
      let e : other ≡ object = same_Some other object (sym found ∙ at) in
      let within : flat_map remaining_events (reverse items)
      ≡ bracketing other ++ events_in_levels walk =
      ap (λ l. flat_map remaining_events (reverse l)) is ∙ within-snoc walk.levels.items level
      ∙ ap (λ l. l ++ events_in_levels walk) (all ∙ ap bracketing (sym e)) in (
        ap (replaced_events (objects_in walk)) within
            ∙ flat_map-append _ (bracketing other) (events_in_levels walk)
            ∙ ap (λ l. l ++ events_left walk) (sym same),
        within ∙ ap (λ t. bracketing t ++ events_in_levels walk) e,
        subst (λ l. NameOnly l (settled_in walk.ends)) (sym within)
            (named-append (bracketing other) (events_in_levels walk) (settled_in walk.ends) named
            o.1),
        ap uid_in (sym e) ∙ plain,
      )

-- ---- the walk of one Uid

-- a settled Uid has a tree
pub settled-top : (objects : List Tree) (end : ℕ → ℕ) (uids : List ℕ) (uid : ℕ)
    → AreSettled objects end uids → IsIn uid uids
    → events_in bracketing (resolved_tree objects uid) ≡ Ok (events_at objects uid)
settled-top objects end uids uid s has =
    ap (events_in bracketing) (sym (from-top objects uid))
    ∙ settled-same objects end uids s uid has [] (path_none _) (λ u p q. absurd (cc))

-- before the walk enters an object, nothing remains
pub left-at-first : (walk : ArchiveWalk) (uid : ℕ) → walk.levels.items ≡ []
    → events_at (objects_in walk) uid ++ events_left walk ≡ events_at (objects_in walk) uid
left-at-first walk uid none =
    ap (λ l. events_at (objects_in walk) uid
    ++ replaced_events (objects_in walk) (flat_map remaining_events (reverse l))) none
    ∙ append-nil (events_at (objects_in walk) uid)

-- ---- one step

named-rest : (before after : List PlainEvent) (uids : List ℕ) → NameOnly (before ++ after) uids
    → NameOnly after uids
named-rest [] after uids h = h
named-rest (e ∷ before) after uids h = named-rest before after uids h.1

-- the innermost object has no events left
pub emptied : (walk : ArchiveWalk) (below : List Events) (left rest : Events) (items : List Events)
    → walk.levels.items ≡ below ++ left ∷ [] → items ≡ below ++ rest ∷ []
    → remaining_events rest ≡ [] → NameOnly (events_in_levels walk) (settled_in walk.ends)
    → NameOnly (flat_map remaining_events (reverse items)) (settled_in walk.ends)
emptied walk below left rest items had has none named =
    let others = flat_map remaining_events (reverse below) in
    let within : events_in_levels walk ≡ remaining_events left ++ others =
    ap (λ l. flat_map remaining_events (reverse l)) had ∙ within-snoc below left in
    let after : flat_map remaining_events (reverse items) ≡ others =
    ap (λ l. flat_map remaining_events (reverse l)) has ∙ within-snoc below rest
    ∙ ap (λ l. l ++ others) none in
    subst (λ l. NameOnly l (settled_in walk.ends)) (sym after)
    (named-rest (remaining_events left) others (settled_in walk.ends)
    (subst (λ l. NameOnly l (settled_in walk.ends)) within named))

-- the events of a Uid precede the others
pub shorter : (walk : ArchiveWalk) (below : List Events) (left rest : Events) (items : List Events)
    (e : PlainEvent) (uid : ℕ) → walk.levels.items ≡ below ++ left ∷ []
    → items ≡ below ++ rest ∷ [] → remaining_events left ≡ e ∷ remaining_events rest
    → uid_of_event e ≡ Some uid → IsWalk walk
    → length (replaced_events (objects_in walk) (flat_map remaining_events (reverse items)))
    < length (events_left walk)
shorter walk below left rest items e uid had has taken is o =
    let trees = objects_in walk in
    let others = flat_map remaining_events (reverse below) in
    let more = flat_map remaining_events (reverse items) in
    let after : more ≡ remaining_events rest ++ others =
    ap (λ l. flat_map remaining_events (reverse l)) has ∙ within-snoc below rest in
    let within : events_in_levels walk ≡ e ∷ more =
    ap (λ l. flat_map remaining_events (reverse l)) had ∙ within-snoc below left
    ∙ ap (λ l. l ++ others) taken ∙ ap (λ l. e ∷ l) (sym after) in
    let named : NameOnly (e ∷ more) (settled_in walk.ends) =
    subst (λ l. NameOnly l (settled_in walk.ends)) within o.1 in
    let some = end-some trees (end_in walk.ends) (settled_in walk.ends) uid
    (end-of walk uid o (named.0 uid is)) in
    let all : events_left walk ≡ events_at trees uid ++ replaced_events trees more =
    ap (replaced_events trees) within ∙ replaced-first trees e more (Some uid) is in
    rw (all, length-append (events_at trees uid) (replaced_events trees more))
    (omega (arith, some))

-- a walk yields an item, and less remains
pub progresses : {A : Type 0} (old new : ArchiveWalk) (item : A) → IsWalk new
    → length (events_left new) < length (events_left old)
    → MakesProgress IsWalk (λ walk. at_most (length (events_left walk))) old (Some item) new
progresses old new item walk less =
    record { on = λ _. (walk, tt, less); keeps = walk; rests = λ _. tt }

pub on-err : {X E : Type 0} {P : Type 0} → (r : Result X E) → is_err r ≡ true → OnErr r P → P
on-err (Ok x) e h = absurd (true≢false (sym e))
on-err (Err x) e h = h
