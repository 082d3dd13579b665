-- What a call reads into the caller's memory.
use Rattle.std.specs.Prelude.{◌≡◌, ◌⊎◌, ℕ, List, [], ◌∷◌, ◌++◌, Some, Ok, Err, length, map, take, ⊤}
use Rattle.plist_base.specs.declared.limits.Limits.{Limits}
use Rattle.plist_base.specs.Bracketing.{bracketing, AreAlike, AreTreeEvents, CanContinue}
use Rattle.plist_base.specs.Events.{PlainEvent, Item, text_or_data}
use Rattle.plist_base.specs.Faults.{Fault, MatchFault}
use Rattle.plist_base.specs.Limits.{limited_items}
use Rattle.plist_base.specs.Trees.{Tree}
use Rattle.plist_reader.specs.Reader.{items_of_input}
use Rattle.plist.specs.Building.{Unfinished, IsNested, events_so_far}
use Rattle.plist.specs.ValueOfItems.{IsFaultOfNext}
use Rattle.plist_c.specs.declared.flat.Outcome.{Outcome}
use Rattle.plist_c.specs.declared.flat.ReadLimits.{ReadLimits}
use Rattle.plist_c.specs.declared.stop.Full.{Full}
use Rattle.plist_c.specs.Flat.{AreUtf8Events, bytes_of, flat_events}
use Rattle.plist_c.specs.Outcomes.{Names, plain_outcome}
use Rattle.plist_c.specs.Rooms.{Memory, full_for, full_number}

-- the memory begins with the records and the bytes of these events, and the outcome counts them
pub record StoresEvents (events : List PlainEvent) (outcome : Outcome) (memory : Memory) : Type 0 where
  pub count : outcome.events ≡ length events
  pub used : outcome.bytes ≡ length (bytes_of events)
  pub records : take outcome.events memory.events ≡ flat_events 0 events
  pub bytes : take outcome.bytes memory.bytes ≡ bytes_of events
  pub utf8 : AreUtf8Events events

-- the events are the first ones of a tree, apart from lengths
abbrev pub CanBeginTree : List PlainEvent → Type 0
CanBeginTree events =
    (more : List PlainEvent) × (tree : Tree) × AreAlike (events ++ more) (bracketing tree)

-- What is asked of the events: which can begin, which are whole, which event can follow some, and
-- which fault ends them before the remaining items.
pub record Demand : Type 1 where
  pub CanBegin : List PlainEvent → Type 0
  pub AreWhole : List PlainEvent → Type 0
  pub CanFollow : List PlainEvent → PlainEvent → Type 0
  pub EndsWith : List PlainEvent → List Item → Fault → Type 0

-- any events are whole, and only an item that is a fault ends them
abbrev pub any_events : Demand
any_events = record {
  CanBegin = λ events. ⊤;
  AreWhole = λ events. ⊤;
  CanFollow = λ events event. ⊤;
  EndsWith = λ events more fault. (rest : List Item) × (more ≡ Err fault ∷ rest);
}

-- the events begin a value, and this is the fault with which `Value::from_reader` refuses the
-- remaining items after them
abbrev pub RefusesRest : List PlainEvent → List Item → Fault → Type 0
RefusesRest events more fault =
    (unfinished : Unfinished) × IsNested unfinished × AreAlike (events_so_far unfinished) events
    × IsFaultOfNext unfinished events more fault

-- the events have to be those of exactly one value
abbrev pub one_value : Demand
one_value = record {
  CanBegin = CanBeginTree;
  AreWhole = AreTreeEvents;
  CanFollow = CanContinue;
  EndsWith = RefusesRest;
}

module _ (demand : Demand) where
  -- no item follows the events, and they are whole
  abbrev pub EndsWhole : (events : List PlainEvent) (more : List Item) → Outcome → Type 0
  EndsWhole events more outcome =
      (outcome ≡ plain_outcome outcome.events outcome.bytes 0) × (more ≡ [])
      × demand.AreWhole events

  -- an event follows that has no room
  abbrev pub EndsFull : (events : List PlainEvent) (more : List Item) → ReadLimits → Outcome
      → Memory → Type 0
  EndsFull events more limits outcome memory =
      (event : PlainEvent) × (rest : List Item) × (full : Full) × (more ≡ Ok event ∷ rest)
      × demand.CanFollow events event
      × (full_for limits memory outcome.events outcome.bytes (length (text_or_data event))
      ≡ Some full)
      × (outcome ≡ record (plain_outcome outcome.events outcome.bytes 31) {
        detail = full_number full;
      })

  -- a fault ends the events; it is never `Io`, and `OutOfMemory` is always possible
  abbrev pub EndsAtFault : (events : List PlainEvent) (more : List Item) → Outcome → Type 0
  EndsAtFault events more outcome =
      (fault : Fault) × Names fault outcome
      × MatchFault fault.kind ⊥ ⊤ (demand.EndsWith events more fault)

  -- The memory has the records and the bytes of the items up to the first fault, or up to the first
  -- event that has no room.
  pub record Reads (limits : ReadLimits) (items : List Item) (outcome : Outcome) (memory : Memory)
      : Type 0 where
    pub events : List PlainEvent
    pub more : List Item
    pub parts : items ≡ map Ok events ++ more
    pub begins : demand.CanBegin events
    pub held : StoresEvents events outcome memory
    pub ended : EndsWhole events more outcome
        ⊎ (EndsFull events more limits outcome memory ⊎ EndsAtFault events more outcome)

-- the limits of events and of the depth
abbrev pub limits_of : ReadLimits → Limits
limits_of limits = record { depth = limits.depth; items = limits.events }

-- the items of an input under these limits
abbrev pub items_read : ReadLimits → (input : List ℕ) → List Item
items_read limits input = limited_items (limits_of limits) (items_of_input input)

-- the events of the input were read, whatever their order
abbrev pub AreEventsRead : ReadLimits → (input : List ℕ) → Outcome → Memory → Type 0
AreEventsRead limits input = Reads any_events limits (items_read limits input)

-- the one value of the input was read
abbrev pub IsValueRead : ReadLimits → (input : List ℕ) → Outcome → Memory → Type 0
IsValueRead limits input = Reads one_value limits (items_read limits input)
