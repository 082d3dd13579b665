-- What a visitor that fills the caller's memory does with an event.
use Rattle.std.specs.Prelude.{◌≡◌, ℕ, ◌+◌, List, [], ◌∷◌, ◌++◌, Option, None, Some, length, take, ⊤}
use Rattle.std.specs.declared.ops.ControlFlow.TheVariants.{Continue, Break}
use Rattle.plist_base.specs.Events.{PlainEvent, shape_of, text_or_data}
use Rattle.plist_base.specs.Limits.{level_after, limit_at}
use Rattle.plist_base.specs.Visits.{Flow}
use Rattle.plist_base.specs.declared.limits.Limit.{Limit}
use Rattle.plist_c.specs.declared.filler.Filler.{Filler}
use Rattle.plist_c.specs.declared.flat.FlatEvent.{FlatEvent}
use Rattle.plist_c.specs.declared.stop.Full.{Full}
use Rattle.plist_c.specs.declared.stop.Halt.{Halt}
use Rattle.plist_c.specs.declared.stop.Halt.TheVariants as stop
use Rattle.plist_c.specs.Flat.{IsUtf8Event, flat_of}
use Rattle.plist_c.specs.Reading.{limits_of}
use Rattle.plist_c.specs.Rooms.{Memory, full_for}
use Rattle.plist_c.specs.inner.Ordering.{CanComeNext, IsStopOfOrder, OrdersEvent, asked_in}

-- the caller's memory
abbrev pub memory_of : Filler → Memory
memory_of filler = record { events = filler.events.now; bytes = filler.bytes.now }

-- the limit that an event exceeds
abbrev pub limit_of : Filler → PlainEvent → Option Limit
limit_of filler event = limit_at (limits_of filler.limits) filler.count filler.level event

-- what has no room for an event with this many bytes
abbrev pub full_of : Filler → (size : ℕ) → Option Full
full_of filler size = full_for filler.limits (memory_of filler) filler.count filler.used size

-- one more record and these bytes are stored
pub record StoresBytes (old : Filler) (flat : FlatEvent) (content : List ℕ) (new : Filler) : Type 0
  where
    pub count : new.count ≡ old.count + 1
    pub used : new.used ≡ old.used + length content
    pub events : take new.count new.events.now ≡ take old.count old.events.now ++ flat ∷ []
    pub bytes : take new.used new.bytes.now ≡ take old.used old.bytes.now ++ content

-- the record of an event and its bytes are stored
abbrev pub StoresOne : (old : Filler) → PlainEvent → (new : Filler) → Type 0
StoresOne old event new = StoresBytes old (flat_of old.used event) (text_or_data event) new

-- nothing is stored
pub record StoresNone (old new : Filler) : Type 0 where
  pub count : new.count ≡ old.count
  pub used : new.used ≡ old.used
  pub events : new.events.now ≡ old.events.now
  pub bytes : new.bytes.now ≡ old.bytes.now

-- the filler fills the same memory, under the same limits
pub record IsSameFiller (old new : Filler) : Type 0 where
  pub events : new.events.ghost_name ≡ old.events.ghost_name
  pub bytes : new.bytes.ghost_name ≡ old.bytes.ghost_name
  pub limits : new.limits ≡ old.limits

-- the event exceeds no limit and can come next, and it is stored
pub record Takes (old : Filler) (event : PlainEvent) (new : Filler) : Type 0 where
  pub limit : limit_of old event ≡ None
  pub level : new.level ≡ level_after (shape_of event) old.level
  pub order : OrdersEvent (asked_in old.order.now) event (asked_in new.order.now)
  pub utf8 : IsUtf8Event event
  pub stored : StoresOne old event new

-- this says why the event isn't taken
abbrev pub IsStopOf : Filler → PlainEvent → Halt → Type 0
IsStopOf old event (stop.Limit limit) = limit_of old event ≡ Some limit
IsStopOf old event (stop.Full full) =
    (limit_of old event ≡ None) × CanComeNext (asked_in old.order.now) event
    × (full_of old (length (text_or_data event)) ≡ Some full)
IsStopOf old event stop.OutOfMemory = ⊤
IsStopOf old event reason = (limit_of old event ≡ None) × IsStopOfOrder (asked_in old.order.now) event reason

-- the event isn't taken for this reason, and nothing is stored
pub record Stops (old : Filler) (event : PlainEvent) (reason : Halt) (new : Filler) : Type 0 where
  pub why : IsStopOf old event reason
  pub stop : new.stop ≡ reason
  pub stored : StoresNone old new

-- an event is taken, or the filler stops
abbrev pub FillsEvent : Filler → PlainEvent → Flow → Filler → Type 0
FillsEvent old event (Continue more) new = IsSameFiller old new × Takes old event new
FillsEvent old event (Break stop) new =
    IsSameFiller old new × ((reason : Halt) × Stops old event reason new)
