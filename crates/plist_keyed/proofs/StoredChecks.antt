-- The walk that finds the first fault, as the code stores its state.
use Rattle.std.proofs.Common.{◌≡◌, ℕ, ◌<◌, Bool, true, false, nat_eq, inl, inr, List, [], ◌∷◌, ◌++◌, reverse, Option, Some, None, Result, Ok, Err, refl, ap, sym, ◌∙◌, subst, true≢false, is_some, map}
use Rattle.std.proofs.Math.Bool.{or-false, or_comm}
use Rattle.std.specs.Prelude.{slice_get, if◌then◌else◌, option_map}
use Rattle.std.specs.List.{list_any}
use Rattle.std.specs.Option.{option_and_then, option_map_or}
use Rattle.std.specs.Map.{keys_of}
use Rattle.indexmap.specs.IndexMap.{IndexMap, get, insert_entry}
use Rattle.indexmap.specs.IndexSet.{insert_key}
use Rattle.indexmap.proofs.CallerLemmas.{insert_entry-new}
use Rattle.std.proofs.lemmas.List.{reverse-append, map-append}
use Rattle.std.proofs.lemmas.List.Folds.{list_any-append}
use Rattle.std.proofs.lemmas.Map.Made.{is_some-lookup}
use Rattle.plist_base.specs.declared.error.Error.{Error}
use Rattle.plist_base.specs.declared.event.Event.{Event}
use Rattle.plist.proofs.GivenEvents.{event_comes}
use Rattle.std.proofs.lemmas.Option.{none-some, same_Some, slice_get-map}
use Rattle.plist_base.specs.Bracketing.{bracketing}
use Rattle.plist_base.specs.Events.{PlainEvent, ScalarEvent, event_of}
use Rattle.plist_base.specs.Trees.{Tree, Uid}
use Rattle.plist.specs.declared.stream.events.Events.{Events}
use Rattle.plist.specs.declared.value.Value.{Value}
use Rattle.plist.specs.Events.{GivesEvent, remaining_events}
use Rattle.plist.specs.ValueTrees.{tree_of}
use Rattle.plist_base.proofs.Paths.{path_none}
use Rattle.plist_keyed.specs.declared.error.KeyedError.{KeyedError}
use Rattle.plist_keyed.specs.declared.error.KeyedError.TheVariants as keyed
use Rattle.plist_keyed.specs.declared.state.ArchiveWalk.{ArchiveWalk}
use Rattle.plist_keyed.specs.Archives.{ArchiveFault, IsFaultOf, resolved_tree}
use Rattle.plist_keyed.specs.inner.Walks.{FollowsUid, IsIn, end_in, objects_in, settled_in, uid_of_event}
use Rattle.plist.specs.Accessors.{uid_in}
use Rattle.plist_keyed.proofs.Replaced.{events_in, join, join-nil, join-none}
use Rattle.plist_keyed.proofs.Settled.{first-in, found_in, found-parts, from-top, later-in, refused_in}
use Rattle.plist_keyed.proofs.Checks.{IsCheck, distance, leaves, opens, opens-nearer, passes, passes-nearer, read-passed, refuses, takes}

pub any_reversed : (p : ℕ → Bool) (xs : List ℕ) → list_any p (reverse xs) ≡ list_any p xs
any_reversed p [] = refl
any_reversed p (x ∷ xs) =
    rw (reverse-append (x ∷ []) xs, list_any-append p (reverse xs) (x ∷ []), any_reversed p xs)
    (rw (or-false (p x)) (or_comm (list_any p xs) (p x)))

pub reverse-snoc : {A : Type 0} → (xs : List A) (x : A) → reverse (xs ++ x ∷ []) ≡ x ∷ reverse xs
reverse-snoc xs x = reverse-append xs (x ∷ [])

-- a new key is inserted as the last one
pub added : (keys new : List ℕ) (uid : ℕ) → new ≡ insert_key nat_eq keys uid
    → list_any (nat_eq uid) keys ≡ false → new ≡ keys ++ uid ∷ []
added keys new uid is absent = is ∙ ap (λ b. if b then keys else keys ++ uid ∷ []) absent

-- a Uid that is a key of the map is settled
pub member : {S : Type 0} (ends : IndexMap ℕ ℕ S) (uid : ℕ)
    → is_some (get nat_eq ends uid) ≡ true → IsIn uid (settled_in ends)
member ends uid has =
    any_reversed (nat_eq uid) (keys_of ends.entries) ∙ sym (is_some-lookup (nat_eq uid) ends.entries) ∙ has

pub no-member : {S : Type 0} (ends : IndexMap ℕ ℕ S) (uid : ℕ)
    → is_some (get nat_eq ends uid) ≡ false → IsIn uid (settled_in ends) → ⊥
no-member ends uid has h =
    true≢false (sym h ∙ any_reversed (nat_eq uid) (keys_of ends.entries)
    ∙ sym (is_some-lookup (nat_eq uid) ends.entries) ∙ has)

not-in : {S : Type 0} (ends : IndexMap ℕ ℕ S) (uid : ℕ) → ends.entries ≡ []
    → IsIn uid (settled_in ends) → ⊥
not-in ends uid none h =
    let k : IsIn uid [] = subst (λ es. IsIn uid (reverse (keys_of es))) none h in absurd (cc)

-- the Uid that is inserted is the last one settled
pub inserts : {S : Type 0} (ends new : IndexMap ℕ ℕ S) (uid end : ℕ)
    → (IsIn uid (settled_in ends) → ⊥) → new.entries ≡ insert_entry nat_eq ends.entries uid end
    → settled_in new ≡ uid ∷ settled_in ends
inserts ends new uid end out is =
    ap (λ es. reverse (keys_of es)) (is ∙ insert_entry-new nat_eq ends uid end (by _ refl))
    ∙ ap reverse (map-append (λ e. e.0) ends.entries ((uid, end) ∷ []))
    ∙ reverse-snoc (keys_of ends.entries) uid
  where
    by : (found : Option ℕ) → get nat_eq ends uid ≡ found → get nat_eq ends uid ≡ None
    by None p = p
    by (Some e) p = absurd (out (member ends uid (ap is_some p)))

-- the tree of an object that was looked up is that of the index
pub seen_at : (objects : List Value) (uid : ℕ) (answer found : Option Value)
    → answer ≡ slice_get objects uid → answer ≡ found
    → slice_get (map tree_of objects) uid ≡ option_map tree_of found
seen_at objects uid answer found is same =
    slice_get-map tree_of objects uid ∙ ap (option_map tree_of) (sym is ∙ same)

-- ---- the steps of the walk

-- the remaining events of each level, innermost first
abbrev pub levels_of : List Events → List (List PlainEvent)
levels_of levels = map remaining_events (reverse levels)

pub levels-snoc : (below : List Events) (level : Events)
    → levels_of (below ++ level ∷ []) ≡ remaining_events level ∷ levels_of below
levels-snoc below level = ap (map remaining_events) (reverse-snoc below level)

-- the state is consistent, and the walk began with this Uid
abbrev pub Checks : (start : ℕ) → ArchiveWalk → (levels : List (List PlainEvent)) → (path : List ℕ)
    → Type 0
Checks start walk levels path =
    IsCheck (objects_in walk) start (end_in walk.ends) (settled_in walk.ends) levels path

abbrev pub distance_in : ArchiveWalk → (levels : List (List PlainEvent)) → (path : List ℕ) → ℕ
distance_in walk levels path = distance (objects_in walk) (settled_in walk.ends) levels path

-- the first Uid is followed
pub begins : (before after : ArchiveWalk) (path longer : List ℕ) (start : ℕ) → path ≡ []
    → before.levels.items ≡ [] → before.ends.entries ≡ [] → after.objects ≡ before.objects
    → after.ends ≡ before.ends → FollowsUid before path start after longer
    → Checks start after (levels_of after.levels.items) (reverse longer)
begins before after path longer start none levels ends objects same (inl (has, kept, is)) =
    absurd (not-in before.ends start ends has)
begins before after path longer start none levels ends objects same
    (inr r) =
    let trees = objects_in before in
    rw (objects, same, ends, r.is_last, none, r.levels, levels, r.events)
    (opens trees start (λ u. u) [] (ScalarEvent (Uid start)) [] [] [] start r.object tt tt
    (path_none _) (λ u p q. absurd (cc)) (λ p. absurd (cc))
    (sym (join-nil _ ∙ join-none _ ∙ ap (events_in bracketing) (from-top trees start))) refl
    (rw none at r.found) (inr (first-in start [])))

-- an event that isn't a Uid is taken
pub skips : (walk : ArchiveWalk) (path : List ℕ) (start : ℕ) (e : PlainEvent)
    (below items : List Events)
    (rest : Events) → items ≡ below ++ rest ∷ []
    → Checks start walk ((e ∷ remaining_events rest) ∷ levels_of below) path
    → uid_of_event e ≡ None → Checks start walk (levels_of items) path
skips walk path start e below items rest is o plain =
    rw (is, levels-snoc below rest) (passes (objects_in walk) start (end_in walk.ends)
    (settled_in walk.ends) e (remaining_events rest) (levels_of below) path
    ((λ u p. absurd (none-some u (sym plain ∙ p))), tt) o)

-- an event that is a Uid is followed
pub follows : (walk after : ArchiveWalk) (path longer : List ℕ) (start : ℕ) (e : PlainEvent)
    (below : List Events) (rest : Events) (n : ℕ) → walk.levels.items ≡ below ++ rest ∷ []
    → Checks start walk ((e ∷ remaining_events rest) ∷ levels_of below) (reverse path)
    → after.objects ≡ walk.objects → after.ends ≡ walk.ends → uid_of_event e ≡ Some n
    → FollowsUid walk path n after longer
    → Checks start after (levels_of after.levels.items) (reverse longer)
    × (distance_in after (levels_of after.levels.items) (reverse longer)
    < distance_in walk ((e ∷ remaining_events rest) ∷ levels_of below) (reverse path))
follows walk after path longer start e below rest n items o objects ends is
    (inl (has, kept, longer_is)) =
    let trees = objects_in walk in
    let end = end_in walk.ends in
    let uids = settled_in walk.ends in
    rw (objects, ends, kept, longer_is, items, levels-snoc below rest) (
      passes trees start end uids e (remaining_events rest) (levels_of below) (reverse path)
          ((λ u p. subst (λ m. IsIn m uids) (same_Some n u (sym is ∙ p)) has), tt) o,
      passes-nearer trees start end uids e (remaining_events rest) (levels_of below) (reverse path),
    )
follows walk after path longer start e below rest n items o objects ends is
    (inr r) =
    let trees = objects_in walk in
    let end = end_in walk.ends in
    let uids = settled_in walk.ends in
    let others = remaining_events rest ∷ levels_of below in
    let found_too : found_in trees (reverse path) n ≡ Ok r.object =
    rw (any_reversed (nat_eq n) path) r.found in
    let parts = found-parts (slice_get trees n) _ n r.object found_too in
    let check : IsCheck trees start end uids (bracketing r.object ∷ others) (n ∷ reverse path) =
    opens trees start end uids e others (reverse path) o.done n r.object o.settled
    (read-passed trees uids e n (remaining_events rest) (levels_of below) (reverse path) is
    o.read) o.open_now o.apart r.is_new (o.given ∙ ap (join (Ok o.done)) (takes trees start end uids e
    (remaining_events rest) (levels_of below) (reverse path))) is found_too (elim o.reached [
      | inl p ↦ inl p
      | inr p ↦ inr (later-in start n (reverse path) p)
    ]) in
    rw (
      objects,
      ends,
      r.levels,
      levels-snoc walk.levels.items r.level,
      r.events,
      items,
      levels-snoc below rest,
      r.is_last,
      reverse-snoc path n,
    ) (
      check,
      opens-nearer trees start end uids e (remaining_events rest) (levels_of below) (reverse path) n
          r.object check parts.0,
    )

-- the error is the fault of a Uid that was followed, which is that of the first one
fault_of_first : (found all : Result Tree ArchiveFault)
    → ((fault : ArchiveFault) → found ≡ Err fault → all ≡ Err fault) → (error : KeyedError)
    → IsFaultOf found error → IsFaultOf all error
fault_of_first found all refuse (keyed.UidOutOfRange uid) h = refuse _ h
fault_of_first found all refuse (keyed.RecursiveUid uid) h = refuse _ h
fault_of_first found all refuse keyed.OutOfMemory h = tt
fault_of_first found all refuse keyed.NotAnArchive h = absurd h

-- the innermost Uid, whose object has no events left, is settled
pub settles : (walk after : ArchiveWalk) (path shorter : List ℕ) (start uid : ℕ) (left : Events)
    (below : List Events) → path ≡ shorter ++ uid ∷ [] → remaining_events left ≡ []
    → Checks start walk (remaining_events left ∷ levels_of below) (reverse path)
    → after.objects ≡ walk.objects
    → settled_in after.ends ≡ uid ∷ settled_in walk.ends
    → end_in after.ends uid ≡ option_map_or (end_in walk.ends)
    (option_and_then uid_in (slice_get (objects_in walk) uid)) uid
    → ((other : ℕ) → IsIn other (settled_in walk.ends)
    → end_in after.ends other ≡ end_in walk.ends other)
    → Checks start after (levels_of below) (reverse shorter)
settles walk after path shorter start uid left below is none o objects settled own kept =
    let check = (rw (is, reverse-snoc shorter uid, none) at o) in
    rw (objects, settled) (leaves (objects_in walk) start (end_in walk.ends)
    (settled_in walk.ends) (end_in after.ends) uid (levels_of below) (reverse shorter) own kept
    check)

-- ---- the loop

-- the innermost level is removed
pub popped : (start : ℕ) (walk : ArchiveWalk) (path : List ℕ) (below : List Events) (left : Events)
    → walk.levels.items ≡ below ++ left ∷ [] → Checks start walk (levels_of walk.levels.items) path
    → Checks start walk (remaining_events left ∷ levels_of below) path
popped start walk path below left is o =
    subst (λ levels. Checks start walk levels path) (ap levels_of is ∙ levels-snoc below left) o

-- the innermost level yields an event
pub event_taken : (walk : ArchiveWalk) (below : List Events) (left rest : Events)
    (item : Result Event Error) (event : Event) → walk.levels.items ≡ below ++ left ∷ []
    → GivesEvent left (Some item) rest → item ≡ Ok event
    → levels_of walk.levels.items ≡ (event_of event ∷ remaining_events rest) ∷ levels_of below
event_taken walk below left rest item event is gives ok =
    ap levels_of is ∙ levels-snoc below left ∙ ap (λ es. es ∷ levels_of below)
    (event_comes (subst (λ i. GivesEvent left (Some i) rest) ok gives))

-- the first Uid is refused
pub first-refused : (walk : ArchiveWalk) (path : List ℕ) (start : ℕ) (error : KeyedError) → path ≡ []
    → IsFaultOf (found_in (objects_in walk) path start) error
    → IsFaultOf (resolved_tree (objects_in walk) start) error
first-refused walk path start error none =
    fault_of_first (found_in (objects_in walk) path start) _ (λ fault found.
    sym (from-top (objects_in walk) start)
    ∙ refused_in (objects_in walk) [] start fault (rw none at found)) error

-- a later Uid is refused
pub later-refused : (walk : ArchiveWalk) (path : List ℕ) (start : ℕ) (e : PlainEvent)
    (below : List Events) (rest : Events) (n : ℕ) (error : KeyedError)
    → Checks start walk ((e ∷ remaining_events rest) ∷ levels_of below) (reverse path)
    → uid_of_event e ≡ Some n
    → IsFaultOf (found_in (objects_in walk) path n) error
    → IsFaultOf (resolved_tree (objects_in walk) start) error
later-refused walk path start e below rest n error o is =
    let trees = objects_in walk in
    let end = end_in walk.ends in
    let uids = settled_in walk.ends in
    fault_of_first (found_in trees path n) _ (λ fault found. refuses trees start end uids e
    (remaining_events rest ∷ levels_of below) (reverse path) o.done n fault
    (o.given ∙ ap (join (Ok o.done)) (takes trees start end uids e (remaining_events rest)
    (levels_of below) (reverse path))) is (rw (any_reversed (nat_eq n) path) found)) error
