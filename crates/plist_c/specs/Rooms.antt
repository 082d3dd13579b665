-- The caller's memory, and whether it has room for an event.
use Rattle.std.specs.Prelude.{ℕ, ◌+◌, nat_le, nat_lt, if◌then◌else◌, List, length, Option, None, Some}
use Rattle.plist_c.specs.declared.flat.FlatEvent.{FlatEvent}
use Rattle.plist_c.specs.declared.flat.ReadLimits.{ReadLimits}
use Rattle.plist_c.specs.declared.stop.Full.{Full}
use Rattle.plist_c.specs.declared.stop.Full.TheVariants as full

-- the caller's memory: the records, and the bytes of strings and data
pub record Memory : Type 0 where
  pub events : List FlatEvent
  pub bytes : List ℕ

-- what has no room for an event with this many bytes, after `count` records and `used` bytes
abbrev pub full_for : (limits : ReadLimits) → Memory → (count used size : ℕ) → Option Full
full_for limits memory count used size =
    if nat_le (length memory.events) count then Some full.Events
    else (if nat_lt limits.bytes (used + size) then Some full.Limit
    else (if nat_lt (length memory.bytes) (used + size) then Some full.Bytes else None))

-- the number of what is full
abbrev pub full_number : Full → ℕ
full_number full.Events = 0
full_number full.Bytes = 1
full_number full.Limit = 2
