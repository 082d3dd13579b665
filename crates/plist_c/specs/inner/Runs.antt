-- What is stored of the events that a source hands over.
use Rattle.std.specs.Prelude.{◌≡◌, ℕ, List, [], ◌∷◌, ◌++◌, Option, None, Some, Result, Ok, Err, if◌then◌else◌, map, ⊤}
use Rattle.plist_base.specs.declared.error.Error.{Error}
use Rattle.plist_base.specs.declared.visitor.Visited.{Visited}
use Rattle.plist_base.specs.declared.visitor.Visited.TheVariants.{Ended, Stopped}
use Rattle.plist_base.specs.Events.{PlainEvent, Item}
use Rattle.plist_base.specs.Faults.{MatchFault, fault_of}
use Rattle.plist_base.specs.Limits.{limited_items}
use Rattle.plist_base.specs.Visits.{PlainItem, YieldsAll}
use Rattle.plist_buffer.specs.declared.expects.Expect.{Expect}
use Rattle.plist_buffer.specs.declared.expects.Expect.TheVariants.{OneValue}
use Rattle.plist_c.specs.declared.filler.Filler.{Filler}
use Rattle.plist_c.specs.declared.flat.Outcome.{Outcome}
use Rattle.plist_c.specs.declared.read.Start.{Start}
use Rattle.plist_c.specs.Outcomes.{Names, plain_outcome}
use Rattle.plist_c.specs.Reading.{Demand, Reads, any_events, limits_of, one_value}
use Rattle.plist_c.specs.Rooms.{Memory}
use Rattle.plist_c.specs.inner.Ordering.{asked_in, may_end}
use Rattle.plist_c.specs.inner.Stops.{outcome_of_stop}

-- the number of the fault if the events end
abbrev pub fault_of_end : Option (List Expect) → ℕ
fault_of_end order = if may_end order then 0 else 23

-- the outcome says why the visit ended, and counts what the filler has stored
abbrev pub SaysWhy : Result Visited Error → Filler → Outcome → Type 0
SaysWhy (Ok Ended) filler outcome =
    outcome ≡ plain_outcome filler.count filler.used (fault_of_end (asked_in filler.order.now))
SaysWhy (Ok Stopped) filler outcome =
    outcome ≡ outcome_of_stop filler.stop filler.count filler.used
SaysWhy (Err error) filler outcome =
    Names (fault_of error) outcome × (outcome.events ≡ filler.count)
    × (outcome.bytes ≡ filler.used)

-- no event was taken yet, if the order is asked for
abbrev pub IsNewOrder : Option (List Expect) → Type 0
IsNewOrder None = ⊤
IsNewOrder (Some stack) = stack ≡ OneValue ∷ []

-- what is asked of the events
abbrev pub demand_of : Option (List Expect) → Demand
demand_of None = any_events
demand_of (Some stack) = one_value

-- The items begin with this one, which isn't `Io`, and are none at the end. `OutOfMemory` says
-- nothing about them.
abbrev pub BeginWith : PlainItem → List Item → Type 0
BeginWith None items = items ≡ []
BeginWith (Some (Ok event)) items = (rest : List Item) × (items ≡ Ok event ∷ rest)
BeginWith (Some (Err error)) items =
    MatchFault (fault_of error).kind ⊥ ⊤ ((rest : List Item) × (items ≡ Err (fault_of error) ∷ rest))

-- The source yielded events, and then an item. If this item is the first of some items, what was
-- read is what is asked of the events and these items.
pub record Fills {I : Type 0} (yields : I → PlainItem → I → Type 0) (start : Start) (old : I)
    (outcome : Outcome) (memory : Memory) : Type 0 where
  pub events : List PlainEvent
  pub left : I
  pub new : I
  pub next : PlainItem
  pub given : YieldsAll yields old events left
  pub came : yields left next new
  pub reads : (items : List Item) → BeginWith next items
      → Reads (demand_of (asked_in start.order)) start.limits
      (limited_items (limits_of start.limits) (map Ok events ++ items)) outcome memory
