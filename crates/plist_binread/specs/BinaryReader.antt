-- What contracts say about a reader: its remaining items, its open collections and its cache.
use Rattle.std.specs.Prelude.{◌≡◌, ℕ, ◌+◌, ◌^◌, ◌<◌, ◌≤◌, Bool, true, false, List, [], length, reverse, Option, None, Result, MatchOption, OnErr, IfSome}
use Rattle.std.specs.Option.{is_some, option_map}
use Rattle.plist_base.specs.declared.error.Error.{Error}
use Rattle.plist_base.specs.declared.event.Event.{Event}
use Rattle.plist_base.specs.declared.source.Source.{Ghosts}
use Rattle.plist_base.specs.Events.{PlainEvent, Item, event_of}
use Rattle.plist_base.specs.FirstItems.{GivesFirst, GivesFirstIfKnown, StopsIf}
use Rattle.plist_base.specs.Limits.{KeepsLimits, limited_by_any}
use Rattle.plist_base.specs.Sources.{CountsIo}
use Rattle.plist_base.specs.Visits.{Flow, PlainItem}
use Rattle.plist_base.specs.Container.{head_of}
use Rattle.plist_base.specs.Unfolding.{items_of_file, until_fault}
use Rattle.plist_decode.specs.FaultOffsets.{ItemGivenWithin}
use Rattle.plist_decode.specs.declared.counter.DecodeCounter.{Ghosts as CounterGhosts}
use Rattle.plist_binread.specs.declared.reader.BinaryReader.{BinaryReader}
use Rattle.plist_binread.specs.declared.reader.WalkState.{WalkState}
use Rattle.plist_binread.specs.declared.reader.WalkState.TheVariants.{Ended, Fresh, Walking}
use Rattle.plist_binread.specs.declared.frames.Frame.{Frame}
use Rattle.plist_decode.specs.declared.head.Bounds.{Bounds}
use Rattle.plist_binread.specs.Remaining.{AllocatesNext, AreBoundsOf, CountsObjects, MarksOpenPath, SomeRemain, by_state, entries_of, is_fresh, is_walking, next_number, objects_in_head, remaining_items, walk_steps}
use Rattle.plist_binread.specs.Tokens.{HoldsTokens, IsEventOf}
use Rattle.plist_binread.specs.declared.tokens.Tokens.{Tokens}
use Rattle.plist_binread.specs.Walking.{IsCachedIfSmall, cached_in, open_in, root_with, weight_in}

-- the items that remain in this state, without regard to limits
abbrev pub remaining_now : List ℕ → WalkState → Bounds → List Frame → List Item
remaining_now bytes Fresh bounds frames = items_of_file bytes
remaining_now bytes Walking bounds frames =
    until_fault (remaining_items (entries_of bytes bounds) (reverse frames))
remaining_now bytes Ended bounds frames = []

-- the number of the object that is entered next in this state, or `None` if there is none
abbrev pub upcoming_number : List ℕ → WalkState → Bounds → List Frame → Option ℕ
upcoming_number bytes Fresh bounds frames = root_with (head_of bytes)
upcoming_number bytes Walking bounds frames = next_number (entries_of bytes bounds) (reverse frames)
upcoming_number bytes Ended bounds frames = None

module _ {R C : Type 0} {g : Ghosts R} {h : CounterGhosts C} where
  -- the source of the reader
  abbrev pub binary_source : BinaryReader R C g h → R
  binary_source reader = reader.source

  -- the counter of the reader
  abbrev pub counter_of : BinaryReader R C g h → C
  counter_of reader = reader.decoder.counter

  -- the items of the file that remain, without regard to limits
  abbrev pub unlimited_items : List ℕ → BinaryReader R C g h → List Item
  unlimited_items bytes reader =
      remaining_now bytes reader.state reader.decoder.bounds reader.walk.frames

  -- the items of a list that the reader's limits admit, or all of them without limits
  abbrev pub admitted_by : BinaryReader R C g h → List Item → List Item
  admitted_by reader = limited_by_any reader.limiter

  -- the items that remain if these are the bytes of the file
  abbrev pub items_to_come : List ℕ → BinaryReader R C g h → List Item
  items_to_come bytes reader = admitted_by reader (unlimited_items bytes reader)

  -- the items that remain, if the bytes of the source are known
  unfoldable pub file_items : (R → Option (List ℕ)) → BinaryReader R C g h → Option (List Item)
  file_items known reader =
      option_map (λ bytes. items_to_come bytes reader) (known (binary_source reader))

  -- whether the reader has limits
  abbrev pub has_limits : BinaryReader R C g h → Bool
  has_limits reader = is_some reader.limiter

  -- whether no item has been requested yet
  abbrev pub is_new : BinaryReader R C g h → Bool
  is_new reader = is_fresh reader.state

  -- the reader has ended, so that no item remains
  abbrev pub HasEndedBinary : BinaryReader R C g h → Type 0
  HasEndedBinary reader = reader.state ≡ Ended

  -- the number of objects in the file, or 0 if the reader hasn't read that number
  abbrev pub objects_in_file : BinaryReader R C g h → ℕ
  objects_in_file reader = length reader.walk.tags.items

  -- an upper bound on the number of items that remain
  abbrev pub binary_steps : BinaryReader R C g h → ℕ
  binary_steps reader = by_state reader.state (walk_steps (2 ^ 64) + 1) (weight_in reader.walk) 0

  -- the visitor has taken the scalars for which these tokens are stored
  abbrev pub Remembers : {V : Type 0} → (step : V → PlainEvent → Flow → V → Type 0)
      → (names : V → (token : ℕ) → PlainEvent → Type 0) → BinaryReader R C g h → Tokens → V → Type 0
  Remembers step names reader tokens visitor = HoldsTokens step names tokens
      (IsEventOf (g.known (binary_source reader)) reader.decoder.bounds reader.walk) visitor

  -- what is true of a reader after each call, whatever the call returned
  pub record KeepsInvariant (old new : BinaryReader R C g h) : Type 0 where
    -- the number of open collections is at most that of the objects
    pub nested : MatchOption (g.known (binary_source old))
        (length new.walk.frames ≤ objects_in_file new)
        (λ bytes. length new.walk.frames ≤ objects_in_head bytes)
    -- exactly the open objects are marked, and none of them is cached
    pub marked : MarksOpenPath new.walk.tags.items (open_in new.walk)
    -- as many decodings are counted as objects are cached
    pub counted : h.counts → h.count (counter_of new) ≡ cached_in new.walk
    -- each list has at most as many elements as the file has objects
    pub lists : IfSome (g.known (binary_source old)) (λ bytes.
        (length new.walk.tags.items ≤ objects_in_head bytes)
        × (length new.walk.contents.items ≤ objects_in_head bytes)
        × (length new.walk.frames ≤ objects_in_head bytes))

module _ {R C : Type 0} {g : Ghosts R} {h : CounterGhosts C} (old : BinaryReader R C g h) where
  -- one call yields an item; `shown` returns the event of a value, `lets` the items that are admitted
  pub record GivesBinaryBy {A : Type 0} (shown : A → PlainEvent)
      (lets : BinaryReader R C g h → List Item → List Item) (limited : BinaryReader R C g h → Bool)
      (item : Option (Result A Error)) (new : BinaryReader R C g h) : Type 0 where
    pub unchanged : g.known (binary_source new) ≡ g.known (binary_source old)
    -- The item is the first that remained, and the others remain. No item remains after `None`, `Io`
    -- and `OutOfMemory`, nor, by `ends`, after any other error. `Io` is yielded only if an item
    -- remained, and `OutOfMemory` only if the first item needs memory, or if the reader is new and an
    -- item remained.
    pub items : IfSome (g.known (binary_source old)) (λ bytes. GivesFirst shown (StopsIf SomeRemain)
        (StopsIf (AllocatesNext (is_new old))) (lets old (unlimited_items bytes old)) item
        (lets new (unlimited_items bytes new)))
    -- an event is one that the limits admit, and `LimitReached` replaces one that they don't admit
    pub admitted : KeepsLimits shown (lets old) item (lets new)
    pub failures : CountsIo item (g.failures (binary_source old)) (g.failures (binary_source new))
    pub ended : HasEndedBinary old → item ≡ None
    -- a reader that has ended doesn't call its source
    pub unasked : HasEndedBinary old → binary_source new ≡ binary_source old
    -- the reader has ended, so that no item remains, if the item is an error or `None`
    pub ends : MatchOption item (HasEndedBinary new) (λ answer. OnErr answer (HasEndedBinary new))
    pub begun : is_new new ≡ false
    pub faults : ItemGivenWithin 0 (2 ^ 64) (limited old) item
    -- a reader that hasn't ended stores the head of the bytes
    pub head : IfSome (g.known (binary_source old)) (λ bytes. is_walking new.state ≡ true
        → AreBoundsOf (head_of bytes) new.decoder.bounds
        × (objects_in_file new ≡ objects_in_head bytes))
    pub cached : IfSome (g.known (binary_source old)) (λ bytes. IsCachedIfSmall shown
        (upcoming_number bytes old.state old.decoder.bounds old.walk.frames) item
        new.walk.tags.items)
    pub leaves : KeepsInvariant old new
    -- after an event, and after an error other than `Io` and `OutOfMemory`, the reader counts as many
    -- objects as the head; after these two it counts as many, or none
    pub objects : IfSome (g.known (binary_source old))
        (λ bytes. IfSome item (λ answer. CountsObjects bytes answer (objects_in_file new)))
    -- whether there are limits never changes, nor does the number of objects after the first item
    pub kept : (has_limits new ≡ has_limits old)
        × (is_new old ≡ false → objects_in_file new ≡ objects_in_file old)

  -- the state after a call: a reader ends with an error or `None`, and one that has ended yields
  -- nothing and doesn't call its source
  pub record EndsBinary (item : Option (Result Event Error)) (new : BinaryReader R C g h) : Type 0
    where
      pub ended : HasEndedBinary old → item ≡ None
      pub unasked : HasEndedBinary old → binary_source new ≡ binary_source old
      pub ends : MatchOption item (HasEndedBinary new) (λ answer. OnErr answer (HasEndedBinary new))

  -- what one call of `next` does
  pub record GivesBinary (item : Option (Result Event Error)) (new : BinaryReader R C g h) : Type 0
    where
      -- if the bytes are known, the item is the first that remained, and the others remain
      pub items : GivesFirstIfKnown event_of (StopsIf SomeRemain) (StopsIf (AllocatesNext (is_new old)))
          (file_items g.known old) item (file_items g.known new)
      -- the count of failed reads rises if the item is `Io`, and is otherwise unchanged
      pub failures : CountsIo item (g.failures (binary_source old)) (g.failures (binary_source new))
      pub state : EndsBinary item new
      -- what else is true of a call
      pub inner : GivesBinaryBy event_of admitted_by has_limits item new

  -- one step yields an item as `GivesBinaryBy` says; if there is one, the bound `binary_steps`
  -- falls
  pub record StepsBy (lets : BinaryReader R C g h → List Item → List Item)
      (limited : BinaryReader R C g h → Bool) (item : PlainItem) (new : BinaryReader R C g h) : Type 0
    where
      pub gives : GivesBinaryBy (λ event. event) lets limited item new
      pub falls : IfSome item (λ _. binary_steps new < binary_steps old)

  -- one step of the reader, within its limits
  abbrev pub Steps : PlainItem → (new : BinaryReader R C g h) → Type 0
  Steps item new = StepsBy admitted_by has_limits item new

  -- one step of the walk, without regard to limits
  abbrev pub Walks : PlainItem → (new : BinaryReader R C g h) → Type 0
  Walks item new = StepsBy (λ _ items. items) (λ _. false) item new
