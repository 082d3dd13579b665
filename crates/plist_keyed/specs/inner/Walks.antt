-- The state of the two walks over an archive. A Uid is settled if its object, and all objects to
-- which that leads, were walked completely without a fault. In lists of settled Uids and of
-- remaining events, the last Uid and the innermost object are first.
use Rattle.std.specs.Prelude.{◌≡◌, ◌⊎◌, ℕ, true, List, [], ◌∷◌, ◌++◌, map, reverse, Option, Some, None, Result, Ok, nat_eq, slice_get, ⊤}
use Rattle.std.specs.List.{AllByRecursion, flat_map, list_any}
use Rattle.std.specs.Option.{option_map_or, unwrap_or}
use Rattle.std.specs.Result.{result_ok}
use Rattle.indexmap.specs.IndexMap.{IndexMap, get, keys}
use Rattle.plist_base.specs.declared.error.Error.{Error}
use Rattle.plist_base.specs.declared.event.Event.{Event}
use Rattle.plist_base.specs.Bracketing.{bracketing}
use Rattle.plist_base.specs.Events.{PlainEvent, ScalarEvent, event_of}
use Rattle.plist_base.specs.FirstItems.{GivesFirst}
use Rattle.plist_base.specs.Trees.{Tree, Leaf}
use Rattle.plist.specs.Accessors.{uid_in}
use Rattle.plist.specs.declared.stream.events.Events.{Events}
use Rattle.plist.specs.Events.{remaining_events}
use Rattle.plist.specs.ValueTrees.{tree_of}
use Rattle.plist_keyed.specs.declared.state.ArchiveWalk.{ArchiveWalk}
use Rattle.plist_keyed.specs.Archives.{object_found, resolved_tree}

-- the number of the Uid that an event is, if it is one
abbrev pub uid_of_event : PlainEvent → Option ℕ
uid_of_event (ScalarEvent scalar) = uid_in (Leaf scalar)
uid_of_event event = None

-- the Uid is one of these
abbrev pub IsIn : (uid : ℕ) → (uids : List ℕ) → Type 0
IsIn uid uids = list_any (nat_eq uid) uids ≡ true

-- each Uid among the events is one of these
abbrev pub NameOnly : List PlainEvent → (uids : List ℕ) → Type 0
NameOnly events uids =
    AllByRecursion (λ event. (uid : ℕ) → uid_of_event event ≡ Some uid → IsIn uid uids) events

-- the Uid isn't one of these, and leads only to these; if its object is a Uid, both have the same
-- end, and otherwise it is its own end
pub record IsSettledAfter (objects : List Tree) (end : ℕ → ℕ) (uids : List ℕ) (uid : ℕ) : Type 0
  where
    pub object : Tree
    pub found : slice_get objects uid ≡ Some object
    pub is_new : IsIn uid uids → ⊥
    pub leads : NameOnly (bracketing object) uids
    pub same_end : end uid ≡ option_map_or end (uid_in object) uid

-- each Uid is settled after those that follow it in the list
abbrev pub AreSettled : (objects : List Tree) → (end : ℕ → ℕ) → (uids : List ℕ) → Type 0
AreSettled objects end [] = ⊤
AreSettled objects end (uid ∷ uids) =
    IsSettledAfter objects end uids uid × AreSettled objects end uids

-- the events of a Uid's tree, or none if it has no tree
abbrev pub events_at : (objects : List Tree) → (uid : ℕ) → List PlainEvent
events_at objects uid = option_map_or bracketing (result_ok (resolved_tree objects uid)) []

-- the events, in which each Uid is replaced by the events of its tree
abbrev pub replaced_events : (objects : List Tree) → List PlainEvent → List PlainEvent
replaced_events objects events =
    flat_map (λ event. option_map_or (events_at objects) (uid_of_event event) (event ∷ [])) events

-- ---- the state

-- the trees of the objects
abbrev pub objects_in : ArchiveWalk → List Tree
objects_in walk = map tree_of walk.objects.now

-- the settled Uids, which are the keys of a map of ends
abbrev pub settled_in : {S : Type 0} → IndexMap ℕ ℕ S → List ℕ
settled_in ends = reverse (keys ends)

-- the end that a map has for a Uid, or the Uid itself
abbrev pub end_in : {S : Type 0} → IndexMap ℕ ℕ S → (uid : ℕ) → ℕ
end_in ends uid = unwrap_or (get nat_eq ends uid) uid

-- the Uids with an end are settled
abbrev pub AreAllSettled : ArchiveWalk → Type 0
AreAllSettled walk = AreSettled (objects_in walk) (end_in walk.ends) (settled_in walk.ends)

-- a Uid that isn't settled has an object that isn't open, which is opened as the innermost one
pub record IsOpened (before : ArchiveWalk) (path : List ℕ) (uid : ℕ) (after : ArchiveWalk)
    (longer : List ℕ) : Type 0 where
  pub object : Tree
  pub level : Events
  pub is_new : IsIn uid (settled_in before.ends) → ⊥
  pub found : object_found (slice_get (objects_in before) uid) (list_any (nat_eq uid) path) uid
      ≡ Ok object
  pub events : remaining_events level ≡ bracketing object
  pub levels : after.levels.items ≡ before.levels.items ++ level ∷ []
  pub is_last : longer ≡ path ++ uid ∷ []

-- the Uid is settled, and nothing changes; or its object is opened
abbrev pub FollowsUid : (before : ArchiveWalk) → (path : List ℕ) → (uid : ℕ)
    → (after : ArchiveWalk) → (longer : List ℕ) → Type 0
FollowsUid before path uid after longer =
    (IsIn uid (settled_in before.ends) × (after.levels ≡ before.levels) × (longer ≡ path))
    ⊎ IsOpened before path uid after longer

-- the remaining events of the open objects
abbrev pub events_in_levels : ArchiveWalk → List PlainEvent
events_in_levels walk = flat_map remaining_events (reverse walk.levels.items)

-- the Uids with an end are settled, and the remaining events name only these
abbrev pub IsWalk : ArchiveWalk → Type 0
IsWalk walk = AreAllSettled walk × NameOnly (events_in_levels walk) (settled_in walk.ends)

-- the events that remain to be yielded
abbrev pub events_left : ArchiveWalk → List PlainEvent
events_left walk = replaced_events (objects_in walk) (events_in_levels walk)

-- the remaining events begin with this one
abbrev pub GivesItemOfUid : ArchiveWalk → Option (Result Event Error) → ArchiveWalk → Type 0
GivesItemOfUid old item new =
    GivesFirst event_of (λ _ _. ⊤) (λ _ _. ⊤) (map Ok (events_left old)) item
    (map Ok (events_left new))
